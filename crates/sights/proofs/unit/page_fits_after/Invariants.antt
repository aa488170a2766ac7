use Rattle.std.proofs.Common.{◌≡◌, ◌||◌, ◌==◌, not, true, take}
use Rattle.std.specs.List.{list_all}
use Rattle.script_text.specs.Action.{action_of}
use Rattle.sights.proofs.unit.page_fits_after.Given as goal

abbrev pub invariant-loop-unit : goal.invariant-loop-unit
invariant-loop-unit g l = list_all (λ unit. not (g.U.Unit.page_of unit == l.page) || g.U.Unit.may_fit l.question (g.U.Unit.once_done l.geometry (action_of l.command) unit)) (take l.unit-index l.units) ≡ true
