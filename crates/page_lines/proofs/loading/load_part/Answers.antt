use Rattle.std.proofs.Common.{length, ◌∙◌}
use Rattle.page_lines.proofs.LoadLemmas.{device-line}
use Rattle.page_lines.proofs.loading.load_part.Goals as goal

pub returns-in-Ok-clause-ok : goal.returns-in-Ok-clause-ok
returns-in-Ok-clause-ok g c =
    c.copy_part.ensures.bytes
    ∙ device-line (g.L.Lines.state c.args.dev.now).medium c.args.line c.args.start (length c.args.out.now) c.in-Ok.bytes.now c.in-Ok.ensures.bytes c.requires.one_line
