use Rattle.std.proofs.Common.{◌≡◌, ◌<◌, ◌≤◌, ◌∷◌, ℕ}
use Rattle.line_module.specs.Chains.{values_in, grown_word}
use Rattle.line_module.proofs.chain.Chain.grow.Given as goal

abbrev pub invariant-loop-w : goal.invariant-loop-w
invariant-loop-w l =
    ((v first : ℕ) → v < l.w → first ∷ values_in l.self v ≡ grown_word l.at l.len l.line v (first ∷ values_in l.fn.self v))
    × ((v : ℕ) → l.w ≤ v → values_in l.self v ≡ values_in l.fn.self v)
