use Rattle.std.proofs.Common.{◌≡◌, ◌-◌, ◌++◌, drop, length, nat_lt}
use Rattle.outcome_walk.specs.Numbers.{value_of}
use Rattle.outcome_walk.proofs.SpellLemmas.{spelled}
use Rattle.outcome_walk.proofs.digits.print_digits.Given as goal

abbrev pub invariant-loop-n : goal.invariant-loop-n
invariant-loop-n l = record {
  text : l.out.items ≡ l.fn.out.items ++ spelled (value_of (drop (length l.digits - l.n) l.digits));
  any : l.any ≡ nat_lt 0 (value_of (drop (length l.digits - l.n) l.digits));
}
