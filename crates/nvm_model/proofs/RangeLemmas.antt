-- The numbers of a range that pass a test.
use Rattle.std.proofs.Common.{◌≡◌, ℕ, zero, suc, ◌+◌, ◌-◌, ◌<◌, ◌≤◌, Bool, false, cond, List, [], ◌∷◌, ◌++◌, refl, ap, ap₂, ◌∙◌, arith}
use Rattle.std.specs.List.{filter, range_with_len}
use Rattle.std.proofs.lemmas.List.{append-nil}
use Rattle.std.proofs.lemmas.List.Elements.{filter-append}

-- a range, and the one behind it
pub range-split : (a n k : ℕ) → range_with_len a (n + k) ≡ range_with_len a n ++ range_with_len (a + n) k
range-split a zero k =
    let e : 0 + k ≡ k = omega arith in
    let here : a ≡ a + 0 = omega arith in
    ap (range_with_len a) e ∙ ap (λ i. range_with_len i k) here
range-split a (suc n) k =
    let e : suc n + k ≡ suc (n + k) = omega arith in
    let next : a + 1 + n ≡ a + suc n = omega arith in
    ap (range_with_len a) e ∙ ap (λ ks. a ∷ ks) (range-split (a + 1) n k ∙ ap (λ i. range_with_len (a + 1) n ++ range_with_len i k) next)

-- the same numbers pass where the tests agree
pub filter-alike : (one other : ℕ → Bool) (start len : ℕ) → ((n : ℕ) → start ≤ n → n < start + len → one n ≡ other n) → filter one (range_with_len start len) ≡ filter other (range_with_len start len)
filter-alike one other start zero same = refl
filter-alike one other start (suc len) same =
    ap₂ (λ b (ns : List ℕ). cond b (start ∷ ns) ns) (same start (omega arith) (omega arith))
    (filter-alike one other (start + 1) len (λ n from to. same n (omega (arith, from)) (omega (arith, to))))

-- and none where none does
pub filter-nothing : (test : ℕ → Bool) (start len : ℕ) → ((n : ℕ) → start ≤ n → n < start + len → test n ≡ false) → filter test (range_with_len start len) ≡ []
filter-nothing test start zero fails = refl
filter-nothing test start (suc len) fails =
    ap (λ b. cond b (start ∷ filter test (range_with_len (start + 1) len)) (filter test (range_with_len (start + 1) len))) (fails start (omega arith) (omega arith))
    ∙ filter-nothing test (start + 1) len (λ n from to. fails n (omega (arith, from)) (omega (arith, to)))

-- one number more
pub filter-next : (test : ℕ → Bool) (a n : ℕ) → filter test (range_with_len a (n + 1)) ≡ filter test (range_with_len a n) ++ cond (test (a + n)) ((a + n) ∷ []) []
filter-next test a n = ap (filter test) (range-split a n 1) ∙ filter-append test (range_with_len a n) ((a + n) ∷ [])

-- of a longer range only those of a part pass
pub filter-within : (test : ℕ → Bool) (a n all : ℕ) → a + n ≤ all → ((k : ℕ) → k < a → test k ≡ false) → ((k : ℕ) → a + n ≤ k → test k ≡ false) → filter test (range_with_len 0 all) ≡ filter test (range_with_len a n)
filter-within test a n all within before behind =
    let e : all ≡ a + (n + (all - (a + n))) = omega (arith, within) in
    let at : 0 + a ≡ a = omega arith in
    ap (λ k. filter test (range_with_len 0 k)) e
    ∙ ap (filter test) (range-split 0 a (n + (all - (a + n))) ∙ ap (λ i. range_with_len 0 a ++ range_with_len i (n + (all - (a + n)))) at ∙ ap (λ ks. range_with_len 0 a ++ ks) (range-split a n (all - (a + n))))
    ∙ filter-append test (range_with_len 0 a) (range_with_len a n ++ range_with_len (a + n) (all - (a + n)))
    ∙ ap (λ ks. ks ++ filter test (range_with_len a n ++ range_with_len (a + n) (all - (a + n)))) (filter-nothing test 0 a (λ k from to. before k (omega (arith, to))))
    ∙ filter-append test (range_with_len a n) (range_with_len (a + n) (all - (a + n)))
    ∙ ap (λ ks. filter test (range_with_len a n) ++ ks) (filter-nothing test (a + n) (all - (a + n)) (λ k from to. behind k from))
    ∙ append-nil (filter test (range_with_len a n))
