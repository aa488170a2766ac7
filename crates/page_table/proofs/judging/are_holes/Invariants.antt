use Rattle.std.proofs.Common.{◌<◌, ◌≤◌, ℕ, get_or}
use Rattle.page_table.proofs.judging.are_holes.Given as goal

abbrev pub invariant-loop-word : goal.invariant-loop-word
invariant-loop-word l = (n : ℕ) → n < l.word-index → get_or l.words n 0 ≤ l.all
