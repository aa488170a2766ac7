-- Entries as they stand in the words of a log.
use Rattle.std.proofs.Common.{◌≡◌, ℕ, zero, suc, ◌+◌, ◌*◌, ◌<◌, ◌≤◌, [], ◌∷◌, ◌++◌, length, refl, ◌∙◌, ap, subst, arith}
use Rattle.word_log.specs.Replay.{entries}

pub length-entries : (w : ℕ → ℕ) (at n : ℕ) → length (entries w at n) ≡ n
length-entries w at zero = refl
length-entries w at (suc n) = ap suc (length-entries w (at + 2) n)

-- entries go by their words alone
pub entries-cong : (v w : ℕ → ℕ) (at n : ℕ) → ((p : ℕ) → at ≤ p → p < at + 2 * n → v p ≡ w p) → entries v at n ≡ entries w at n
entries-cong v w at zero same = refl
entries-cong v w at (suc n) same =
    let place = same at (omega arith) (omega arith) in
    let value = same (at + 1) (omega arith) (omega arith) in
    let later = entries-cong v w (at + 2) n (λ p from to. same p (omega arith) (omega arith)) in
    ap (λ x. (x, v (at + 1)) ∷ entries v (at + 2) n) place ∙ ap (λ x. (w at, x) ∷ entries v (at + 2) n) value ∙ ap (λ es. (w at, w (at + 1)) ∷ es) later

pub entries-push : (w : ℕ → ℕ) (at n : ℕ) → entries w at (n + 1) ≡ entries w at n ++ (w (at + 2 * n), w (at + 2 * n + 1)) ∷ []
entries-push w at n = subst (λ k. entries w at k ≡ entries w at n ++ (w (at + 2 * n), w (at + 2 * n + 1)) ∷ []) (next n) (from w at n)
  where
    next : (n : ℕ) → suc n ≡ n + 1
    next n = omega arith

    from : (w : ℕ → ℕ) (at n : ℕ) → entries w at (suc n) ≡ entries w at n ++ (w (at + 2 * n), w (at + 2 * n + 1)) ∷ []
    from w at zero =
        let e : at ≡ at + 2 * 0 = omega arith in
        ap (λ k. (w k, w (k + 1)) ∷ []) e
    from w at (suc n) =
        let e : (at + 2) + 2 * n ≡ at + 2 * suc n = omega arith in
        ap (λ es. (w at, w (at + 1)) ∷ es) (from w (at + 2) n ∙ ap (λ k. entries w (at + 2) n ++ (w k, w (k + 1)) ∷ []) e)
