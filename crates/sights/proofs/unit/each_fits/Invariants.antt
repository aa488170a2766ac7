use Rattle.std.proofs.Common.{◌≡◌, ◌||◌, true, take}
use Rattle.std.specs.List.{list_all}
use Rattle.script_text.specs.Action.{action_of}
use Rattle.sights.proofs.unit.each_fits.Given as goal

abbrev pub invariant-loop-unit : goal.invariant-loop-unit
invariant-loop-unit g l = list_all (λ unit. g.U.Unit.may_fit l.question unit || g.U.Unit.may_fit l.question (g.U.Unit.once_done l.geometry (action_of l.command) unit)) (take l.unit-index l.units) ≡ true
