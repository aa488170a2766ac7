use Rattle.std.proofs.Common.{◌≡◌, ◌+◌, ◌<◌, ℕ, false}
use Rattle.line_words.proofs.marks.first_weak.Given as goal

abbrev pub invariant-loop-k : goal.invariant-loop-k
invariant-loop-k g l = (i : ℕ) → i < l.k → (g.L.Lines.state l.dev).medium.is_weak (l.first + i) ≡ false
