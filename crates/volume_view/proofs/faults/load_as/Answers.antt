use Rattle.std.proofs.Common.{refl, sym, ap, subst, ◌∙◌}
use Rattle.line_device.specs.Panel.{Runs, outcome}
use Rattle.volume_view.proofs.faults.load_as.Goals as goal

pub returns-in-Err : goal.returns-in-Err
returns-in-Err g c =
    let left = c.load.follows.holds-at-none in
    let end = ap outcome c.in-Err.is ∙ sym c.fault_at.ensures.outcome in
    let runs = subst (λ e. Runs 1 0 e (g.L.Lines.state c.args.dev.now).panel (g.L.Lines.state c.load.follows.lender-at-none).panel) end left.1 in (
      (refl, λ _. tt, (left.0, runs, left.2)),
      record { bytes = tt; poison = c.fault_at.ensures.poison c.args.behind.0 ((g.L.Lines.state c.args.dev.now).medium.is_bad c.args.behind.0) c.in-Err.ensures.poison; after = tt },
    )
