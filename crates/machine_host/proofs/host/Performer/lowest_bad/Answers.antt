use Rattle.std.proofs.Common.{ap, ◌∙◌}
use Rattle.word_tables.specs.Layout.{meta_lines}
use Rattle.machine_host.proofs.BadLineLemmas.{lowest_found, meta_on_device}
use Rattle.machine_host.proofs.host.Performer.lowest_bad.Goals as goal

pub first_bad-requires : goal.first_bad-requires
first_bad-requires g c =
    meta_on_device c.args.self.now.geometry _ c.requires.serves.layout c.meta_lines.result (c.meta_lines.ensures.lines ∙ ap (λ k. meta_lines k.geometry) c.self.view_is)

pub returns : goal.returns
returns g c =
    lowest_found c.args.self.now.geometry (g.D.Lines.state c.args.device.now).medium c.meta_lines.result c.unwrap_or.result c.first_bad.result (c.meta_lines.ensures.lines ∙ ap (λ k. meta_lines k.geometry) c.self.view_is) c.first_bad.ensures.line
    c.unwrap_or.ensures
