use Rattle.std.proofs.Common.{false, subst, sym}
use Rattle.explorer.specs.Performing.{LineDone}
use Rattle.explorer.proofs.performing.line_done.Goals as goal

pub returns-in-None-clause-done : goal.returns-in-None-clause-done
returns-in-None-clause-done g c = λ h stands ready. subst (λ line. LineDone h line c.args.host.now (g.D.Lines.state c.args.device.now) false) (sym c.in-None.is) (stands, ready)
