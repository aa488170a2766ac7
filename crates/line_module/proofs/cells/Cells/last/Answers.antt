use Rattle.std.proofs.Common.{sym, ◌∙◌, ap}
use Rattle.line_module.specs.Held.{is_held}
use Rattle.line_module.proofs.HeldLemmas.{is_line-quiet}
use Rattle.line_module.proofs.cells.Cells.last.Goals as goal

pub returns-in-None : goal.returns-in-None
returns-in-None c =
    let s = c.args.self.now in
    let line = c.args.line.0 in
    is_line-quiet s.durable s.states.items line c.durable.result.now c.durable.ensures.held (sym (s.kept.each line).held ∙ ap is_held c.in-None.ensures.value) c.durable.ensures.size
