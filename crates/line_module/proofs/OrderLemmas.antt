-- Lists of lines, each once: which lines are there after one comes to them or goes.
use Rattle.std.proofs.Common.{◌≡◌, inl, inr, ℕ, zero, suc, Bool, true, false, ◌+◌, not, ◌||◌, List, [], ◌∷◌, ◌++◌, length, refl, sym, ◌∙◌, ap, arith, eqb, cond, if◌then◌else◌}
use Rattle.std.specs.Prelude.{Some}
use Rattle.std.specs.List.{slice_get, remove}
use Rattle.std.proofs.lemmas.Bool.{cases_eq, eq-eqb, ne_eqb}
use Rattle.line_module.specs.Memory.{has, without}
use Rattle.line_module.specs.Order.{EachOnce}

-- of two tests that both fail
or_false : (a b : Bool) → (a || b) ≡ false → (a ≡ false) × (b ≡ false)
or_false true b h = absurd (true_is_false h)
  where
    true_is_false : true ≡ false → ⊥
    true_is_false e = cc
or_false false b h = (refl, h)

eqb-false : (a b : ℕ) → eqb a b ≡ false → eqb b a ≡ false
eqb-false a b h = ne_eqb b a (λ is. true_is_false (sym (eq-eqb a b (sym is)) ∙ h))
  where
    true_is_false : true ≡ false → ⊥
    true_is_false e = cc

pub has-push_same : (n : ℕ) (xs : List ℕ) → has n (xs ++ n ∷ []) ≡ true
has-push_same n [] = ap (λ b. b || false) (eq-eqb n n refl)
has-push_same n (x ∷ xs) = elim (eqb n x) as (λ b. (b || has n (xs ++ n ∷ [])) ≡ true) [ true ↦ refl | false ↦ has-push_same n xs ]

pub has-push_other : (m n : ℕ) (xs : List ℕ) → (m ≡ n → ⊥) → has m (xs ++ n ∷ []) ≡ has m xs
has-push_other m n [] other = ap (λ b. b || false) (ne_eqb m n other)
has-push_other m n (x ∷ xs) other = ap (λ b. eqb m x || b) (has-push_other m n xs other)

pub has-without_same : (n : ℕ) (xs : List ℕ) → has n (without n xs) ≡ false
has-without_same n [] = refl
has-without_same n (x ∷ xs) = step (eqb n x) refl (has-without_same n xs)
  where
    step : (b : Bool) → eqb n x ≡ b → has n (without n xs) ≡ false → has n (cond (not b) (x ∷ without n xs) (without n xs)) ≡ false
    step true is rest = rest
    step false is rest = ap (λ b. b || has n (without n xs)) is ∙ rest

pub has-without_other : (m n : ℕ) (xs : List ℕ) → (m ≡ n → ⊥) → has m (without n xs) ≡ has m xs
has-without_other m n [] other = refl
has-without_other m n (x ∷ xs) other =
    elim (cases_eq n x) as (λ _. has m (cond (not (eqb n x)) (x ∷ without n xs) (without n xs)) ≡ (eqb m x || has m xs)) [
      | inl is ↦
          ap (λ b. has m (cond (not b) (x ∷ without n xs) (without n xs))) (eq-eqb n x is)
          ∙ has-without_other m n xs other
          ∙ sym (ap (λ b. b || has m xs) (ne_eqb m x (λ e. other (e ∙ sym is))))
      | inr differs ↦
          ap (λ b. has m (cond (not b) (x ∷ without n xs) (without n xs))) (ne_eqb n x differs)
          ∙ ap (λ b. eqb m x || b) (has-without_other m n xs other)
    ]

pub without_none : (n : ℕ) (xs : List ℕ) → has n xs ≡ false → without n xs ≡ xs
without_none n [] none = refl
without_none n (x ∷ xs) none =
    let parts = or_false (eqb n x) (has n xs) none in
    ap (λ b. cond (not b) (x ∷ without n xs) (without n xs)) parts.0 ∙ ap (λ l. x ∷ l) (without_none n xs parts.1)

pub each_once-push : (n : ℕ) (xs : List ℕ) → EachOnce xs → has n xs ≡ false → EachOnce (xs ++ n ∷ [])
each_once-push n [] once new = (refl, tt)
each_once-push n (x ∷ xs) once new =
    let parts = or_false (eqb n x) (has n xs) new in
    (has-push_other x n xs (λ is. true_is_false (sym (eq-eqb n x (sym is)) ∙ parts.0)) ∙ once.0, each_once-push n xs once.1 parts.1)
  where
    true_is_false : true ≡ false → ⊥
    true_is_false e = cc

pub has-without_less : (m n : ℕ) (xs : List ℕ) → has m xs ≡ false → has m (without n xs) ≡ false
has-without_less m n xs none =
    elim (cases_eq m n) as (λ _. has m (without n xs) ≡ false) [ inl is ↦ ap (λ k. has k (without n xs)) is ∙ has-without_same n xs | inr other ↦ has-without_other m n xs other ∙ none ]

pub each_once-without : (n : ℕ) (xs : List ℕ) → EachOnce xs → EachOnce (without n xs)
each_once-without n [] once = tt
each_once-without n (x ∷ xs) once =
    elim (eqb n x) as (λ b. EachOnce (cond (not b) (x ∷ without n xs) (without n xs))) [ true ↦ each_once-without n xs once.1 | false ↦ (has-without_less x n xs once.0, each_once-without n xs once.1) ]

pub each_once-put : (order : List ℕ) (line : ℕ) (weak : Bool) → EachOnce order → EachOnce (if weak || has line order then order else order ++ line ∷ [])
each_once-put order line true once = once
each_once-put order line false once = decide (has line order) refl
  where
    decide : (b : Bool) → has line order ≡ b → EachOnce (if b then order else order ++ line ∷ [])
    decide true is = once
    decide false is = each_once-push line order once is

pub length-without : (n : ℕ) (xs : List ℕ) → EachOnce xs → has n xs ≡ true → length (without n xs) + 1 ≡ length xs
length-without n [] once there = absurd (false_is_true there)
  where
    false_is_true : false ≡ true → ⊥
    false_is_true e = cc
length-without n (x ∷ xs) once there =
    elim (cases_eq n x) as (λ _. length (cond (not (eqb n x)) (x ∷ without n xs) (without n xs)) + 1 ≡ suc (length xs)) [
      | inl is ↦
          let rest : without n xs ≡ xs = without_none n xs (ap (λ k. has k xs) is ∙ once.0) in
          ap (λ b. length (cond (not b) (x ∷ without n xs) (without n xs)) + 1) (eq-eqb n x is) ∙ omega (arith, ap length rest)
      | inr differs ↦
          let later : has n xs ≡ true = sym (ap (λ b. b || has n xs) (ne_eqb n x differs)) ∙ there in
          ap (λ b. length (cond (not b) (x ∷ without n xs) (without n xs)) + 1) (ne_eqb n x differs) ∙ omega (arith, length-without n xs once.1 later)
    ]

has_at : (n i : ℕ) (xs : List ℕ) → slice_get xs i ≡ Some n → has n xs ≡ true
has_at n i [] at = cc
has_at n zero (x ∷ xs) at = ap (λ b. b || has n xs) (eq-eqb n x (some_same at))
  where
    some_same : Some x ≡ Some n → n ≡ x
    some_same e = cc
has_at n (suc i) (x ∷ xs) at = elim (eqb n x) as (λ b. (b || has n xs) ≡ true) [ true ↦ refl | false ↦ has_at n i xs at ]

-- the oldest line is listed
pub has_first : (n : ℕ) (xs : List ℕ) → slice_get xs 0 ≡ Some n → has n xs ≡ true
has_first n xs at = has_at n 0 xs at

-- the line at a place goes
pub remove-without : (n i : ℕ) (xs : List ℕ) → EachOnce xs → slice_get xs i ≡ Some n → remove xs i ≡ without n xs
remove-without n i [] once at = cc
remove-without n zero (x ∷ xs) once at =
    let is = some_same at in
    sym (ap (λ b. cond (not b) (x ∷ without n xs) (without n xs)) (eq-eqb n x is) ∙ without_none n xs (ap (λ k. has k xs) is ∙ once.0))
  where
    some_same : Some x ≡ Some n → n ≡ x
    some_same e = cc
remove-without n (suc i) (x ∷ xs) once at =
    let differs : n ≡ x → ⊥ = λ is. true_is_false (sym (has_at n i xs at) ∙ ap (λ k. has k xs) is ∙ once.0) in
    ap (λ l. x ∷ l) (remove-without n i xs once.1 at) ∙ sym (ap (λ b. cond (not b) (x ∷ without n xs) (without n xs)) (ne_eqb n x differs))
  where
    true_is_false : true ≡ false → ⊥
    true_is_false e = cc
