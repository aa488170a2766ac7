use Rattle.cut_places.specs.MachineModel.Machine.{Machine}
use Rattle.explorer.proofs.ReportLemmas.{IsReported}
use Rattle.explorer.proofs.WentLemmas.{Went}
use Rattle.explorer.proofs.reporting.report_lines.Given as goal

abbrev pub invariant-loop-i : goal.invariant-loop-i
invariant-loop-i g l =
    Went l.lines l.fn.host (g.D.Lines.state l.fn.device) l.i l.host (g.D.Lines.state l.device)
    (λ (h to : Machine). IsReported l.lines l.wanted l.fn.text.items l.i l.text.items h to)
