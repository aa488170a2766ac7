use Rattle.std.proofs.Common.{◌≡◌, ◌||◌, ◌==◌, not, true, take}
use Rattle.std.specs.List.{list_all}
use Rattle.script_text.specs.Action.{action_of}
use Rattle.sights.proofs.unit.pages_fit.Given as goal

abbrev pub invariant-loop-unit : goal.invariant-loop-unit
invariant-loop-unit g l = list_all (λ u. list_all (λ v. not (g.U.Unit.page_of v == g.U.Unit.page_of u) || g.U.Unit.may_fit l.question v) l.units
    || list_all (λ v. not (g.U.Unit.page_of v == g.U.Unit.page_of u) || g.U.Unit.may_fit l.question (g.U.Unit.once_done l.geometry (action_of l.command) v)) l.units)
    (take l.unit-index l.units) ≡ true
