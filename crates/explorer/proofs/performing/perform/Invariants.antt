use Rattle.explorer.proofs.PerformLemmas.{Performs}
use Rattle.explorer.proofs.performing.perform.Given as goal

abbrev pub invariant-loop-line : goal.invariant-loop-line
invariant-loop-line g l = Performs l.program l.fn.host (g.D.Lines.state l.fn.device) l.line-index l.done.items l.host (g.D.Lines.state l.device)
