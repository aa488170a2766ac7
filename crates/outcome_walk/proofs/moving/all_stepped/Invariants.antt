use Rattle.std.proofs.Common.{◌≡◌, ◌++◌, drop}
use Rattle.std.specs.List.{list_any}
use Rattle.outcome_walk.specs.Steps.{all_stepped}
use Rattle.outcome_walk.specs.Walking.{stands}
use Rattle.outcome_walk.proofs.moving.all_stepped.Given as goal

abbrev pub invariant-loop-i : goal.invariant-loop-i
invariant-loop-i l = record {
  moved : l.next.items ++ all_stepped (drop l.i l.steps) (drop l.i l.sides) ≡ all_stepped l.steps l.sides;
  any : l.any ≡ list_any stands l.next.items;
}
