use Rattle.std.proofs.Common.{◌≡◌, ◌-◌, ◌<◌, ◌≤◌, ℕ, get_or, length}
use Rattle.page_table.proofs.judging.past_holes.Given as goal

abbrev pub invariant-loop-next : goal.invariant-loop-next
invariant-loop-next l = record {
  from : l.entry ≤ l.next;
  within : l.next ≤ length l.words;
  holes : (n : ℕ) → l.entry ≤ n → n < l.next → get_or l.words n 0 ≡ 0;
}

abbrev pub decreases-loop-next : goal.decreases-loop-next
decreases-loop-next l = length l.words - l.next
