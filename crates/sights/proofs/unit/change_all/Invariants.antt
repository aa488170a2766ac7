use Rattle.std.proofs.Common.{◌≡◌, ◌++◌, map, take, drop}
use Rattle.script_text.specs.Action.{action_of}
use Rattle.sights.proofs.unit.change_all.Given as goal

abbrev pub invariant-loop-unit : goal.invariant-loop-unit
invariant-loop-unit g l = l.unit-items ≡ map (g.U.Unit.once_done l.geometry (action_of l.command)) (take l.unit-index l.fn.units.items) ++ drop l.unit-index l.fn.units.items
