use Rattle.std.proofs.Common.{◌≡◌, ◌+◌, ◌≤◌, ◌++◌, ℕ, List, drop}
use Rattle.outcome_walk.specs.Numbers.{AreDigits, value_of}
use Rattle.outcome_walk.proofs.digits.sum_of.Given as goal

abbrev pub invariant-loop-i : goal.invariant-loop-i
invariant-loop-i l = record {
  carry : l.carry ≤ 1;
  digits : AreDigits l.sum.items;
  sum : (rest : List ℕ) → value_of rest ≡ l.carry + value_of (drop l.i l.digits) + value_of (drop l.i l.others)
      → value_of (l.sum.items ++ rest) ≡ value_of l.digits + value_of l.others;
}
