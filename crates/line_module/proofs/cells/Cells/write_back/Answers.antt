use Rattle.std.proofs.Common.{◌≡◌, ◌∙◌}
use Rattle.line_device.specs.History.{latest}
use Rattle.line_device.specs.Medium.{flushed}
use Rattle.line_module.specs.Cells.{cells_medium}
use Rattle.line_module.proofs.HeldLemmas.{latest-line}
use Rattle.line_module.proofs.ChangeLemmas.{on_line-renewed}
use Rattle.line_module.proofs.cells.Cells.write_back.Goals as goal

pub returns : goal.returns
returns c =
    let s = c.args.self.now in
    let line = c.args.line.0 in
    let m = cells_medium s in
    let medium : cells_medium c.renew.new.self ≡ flushed m line =
    c.renew.ensures.medium ∙ on_line-renewed m line c.copy-bytes.result (λ _ h. latest h) c.requires.good (latest-line s.durable s.states.items line c.copy-bytes.result c.requires.within c.requires.good c.copy-bytes.ensures) in
    λ i. record { medium = medium i; order = c.renew.ensures.order i }
