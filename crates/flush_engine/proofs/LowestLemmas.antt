-- The lowest bad line of one span more.
use Rattle.std.proofs.Common.{◌≡◌, inl, inr, ◌∷◌, ◌++◌, ◌&&◌, ◌||◌, [], ℕ, Bool, true, false, List, Option, Some, None, IfSome, min, refl, sym, ap, subst, ◌∙◌, arith}
use Rattle.std.proofs.lemmas.Bool.{cases_lt, or_from, or_left, or_right}
use Rattle.nvm_base.specs.declared.units.Span.{Span}
use Rattle.nvm_model.specs.Page.{Page, cell_of, is_bad_cell}
use Rattle.nvm_model.specs.Touched.{is_bad_touched, next_bad_touched, touches_any}
use Rattle.nvm_model.proofs.NextLemmas.{IsLowestFrom, lowest-alike, lowest-next, next-lowest}
use Rattle.nvm_model.proofs.SeveralLemmas.{touches-last, touches-one}
use Rattle.flush_engine.specs.Spans.{lower_of}

-- the lower of two is the lowest that passes one test or the other
lower-lowest : (from : ℕ) (p q : ℕ → Bool) (a b : Option ℕ) → IsLowestFrom from p a → IsLowestFrom from q b → IsLowestFrom from (λ n. p n || q n) (lower_of a b)
lower-lowest from p q None None x y = λ n past. or_from (p n) (q n) (x n past) (y n past)
lower-lowest from p q None (Some k) x y = (y.0, or_right (p k) (q k) y.1, λ n past before. or_from (p n) (q n) (x n past) (y.2 n past before))
lower-lowest from p q (Some k) None x y = (x.0, or_left (p k) (q k) x.1, λ n past before. or_from (p n) (q n) (x.2 n past before) (y n past))
lower-lowest from p q (Some i) (Some k) x y =
    elim (cases_lt i k) as (λ _. IsLowestFrom from (λ n. p n || q n) (Some (min i k))) [
      | inl first ↦
          let same : i ≡ min i k = omega (arith, first) in
          subst (λ m. IsLowestFrom from (λ n. p n || q n) (Some m)) same
          (x.0, or_left (p i) (q i) x.1, λ n past before. or_from (p n) (q n) (x.2 n past before) (y.2 n past (omega (arith, first, before))))
      | inr second ↦
          let same : k ≡ min i k = omega (arith, second) in
          subst (λ m. IsLowestFrom from (λ n. p n || q n) (Some m)) same
          (y.0, or_right (p k) (q k) y.1, λ n past before. or_from (p n) (q n) (x.2 n past (omega (arith, second, before))) (y.2 n past before))
    ]

each-or : (a b c : Bool) → ((a && c) || (b && c)) ≡ ((a || b) && c)
each-or true true true = refl
each-or true true false = refl
each-or true false true = refl
each-or true false false = refl
each-or false true true = refl
each-or false true false = refl
each-or false false true = refl
each-or false false false = refl

pub next-none : (pages : List Page) (from : ℕ) → None ≡ next_bad_touched [] pages from
next-none pages from = lowest-next [] pages from None (λ n past. refl)

pub next-more : (xs : List Span) (span : Span) (pages : List Page) (from : ℕ) → lower_of (next_bad_touched xs pages from) (next_bad_touched (span ∷ []) pages from) ≡ next_bad_touched (xs ++ span ∷ []) pages from
next-more xs span pages from =
    lowest-next (xs ++ span ∷ []) pages from _
    (lowest-alike from (λ n. is_bad_touched xs pages n || is_bad_touched (span ∷ []) pages n) (is_bad_touched (xs ++ span ∷ []) pages) same _
    (lower-lowest from (is_bad_touched xs pages) (is_bad_touched (span ∷ []) pages) _ _ (next-lowest xs pages from) (next-lowest (span ∷ []) pages from)))
  where
    same : (n : ℕ) → (is_bad_touched xs pages n || is_bad_touched (span ∷ []) pages n) ≡ is_bad_touched (xs ++ span ∷ []) pages n
    same n =
        each-or (touches_any xs n) (touches_any (span ∷ []) n) (is_bad_cell (cell_of pages n))
        ∙ ap (λ b. b && is_bad_cell (cell_of pages n)) (ap (λ b. touches_any xs n || b) (touches-one span n) ∙ sym (touches-last xs span n))

pub lower-if : (P : ℕ → Type 0) (a b : Option ℕ) → IfSome a P → IfSome b P → IfSome (lower_of a b) P
lower-if P None b x y = y
lower-if P (Some i) None x y = x
lower-if P (Some i) (Some k) x y =
    elim (cases_lt i k) as (λ _. P (min i k)) [
      | inl first ↦ let same : i ≡ min i k = omega (arith, first) in subst P same x
      | inr second ↦ let same : k ≡ min i k = omega (arith, second) in subst P same y
    ]
