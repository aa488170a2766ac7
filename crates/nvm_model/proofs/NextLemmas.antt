-- The bad lines that spans touch, found one after another.
use Rattle.std.proofs.Common.{◌≡◌, inl, inr, ◌+◌, ◌-◌, ◌*◌, ◌/◌, ◌%◌, ◌<◌, ◌≤◌, ℕ, zero, suc, Bool, true, false, cond, List, [], ◌∷◌, length, Option, Some, None, option_and_then, slice_get, refl, sym, ap, subst, ◌∙◌, arith}
use Rattle.std.specs.List.{filter, find, range_with_len}
use Rattle.std.proofs.lemmas.Bool.{and_parts, cases_Bool, cases_lt, cases_order, false_from_ne_true, false≢true}
use Rattle.std.proofs.lemmas.Option.{none-some, same_Some, slice_get_within}
use Rattle.nvm_base.specs.declared.units.Span.{Span}
use Rattle.nvm_model.specs.Page.{Page, cell_in, cell_of, is_bad_cell}
use Rattle.nvm_model.specs.Touched.{bad_touched, bad_touched_from, is_bad_touched, next_bad_touched, touches_any}

-- the lowest number from one on that passes, if any does
abbrev pub IsLowestFrom : ℕ → (ℕ → Bool) → Option ℕ → Type 0
IsLowestFrom from p None = (n : ℕ) → from ≤ n → p n ≡ false
IsLowestFrom from p (Some n) = (from ≤ n) × (p n ≡ true) × ((k : ℕ) → from ≤ k → k < n → p k ≡ false)

-- there is but one
pub lowest-same : (from : ℕ) (p : ℕ → Bool) (a b : Option ℕ) → IsLowestFrom from p a → IsLowestFrom from p b → a ≡ b
lowest-same from p None None is that = refl
lowest-same from p None (Some n) none least = absurd (false≢true (sym (none n least.0) ∙ least.1))
lowest-same from p (Some n) None least none = absurd (false≢true (sym (none n least.0) ∙ least.1))
lowest-same from p (Some n) (Some k) is that =
    elim (cases_order n k) as (λ _. ◌≡◌ {A = Option ℕ} (Some n) (Some k)) [
      | inl same ↦ ap (λ i. Some i) same
      | inr (inl before) ↦ absurd (false≢true (sym (that.2 n is.0 before) ∙ is.1))
      | inr (inr after) ↦ absurd (false≢true (sym (is.2 k that.0 after) ∙ that.1))
    ]

-- of numbers that pass another test alike
pub lowest-alike : (from : ℕ) (p q : ℕ → Bool) → ((n : ℕ) → p n ≡ q n) → (lowest : Option ℕ) → IsLowestFrom from p lowest → IsLowestFrom from q lowest
lowest-alike from p q alike lowest is = subst (λ (t : ℕ → Bool). IsLowestFrom from t lowest) (λ i n. alike n i) is

-- the first that is found is the lowest
found-lowest : (p : ℕ → Bool) (from count : ℕ) → ((n : ℕ) → p n ≡ true → n < from + count) → IsLowestFrom from p (find p (range_with_len from count))
found-lowest p from zero below = λ n past. false_from_ne_true (p n) (λ passes. absurd (omega (arith, below n passes, past)))
found-lowest p from (suc count) below =
    elim (cases_Bool (p from)) as (λ _. IsLowestFrom from p (cond (p from) (Some from) (find p (range_with_len (from + 1) count)))) [
      | inl here ↦ subst (λ b. IsLowestFrom from p (cond b (Some from) (find p (range_with_len (from + 1) count)))) (sym here) (omega arith, here, λ k past before. absurd (omega (arith, past, before)))
      | inr not ↦
          subst (λ b. IsLowestFrom from p (cond b (Some from) (find p (range_with_len (from + 1) count)))) (sym not)
          (earlier (find p (range_with_len (from + 1) count)) not (found-lowest p (from + 1) count (λ n passes. omega (arith, below n passes))))
    ]
  where
    earlier : (o : Option ℕ) → p from ≡ false → IsLowestFrom (from + 1) p o → IsLowestFrom from p o
    earlier None not none = λ n past. elim (cases_lt from n) as (λ _. p n ≡ false) [
      | inl after ↦ none n (omega (arith, after))
      | inr at ↦ let same : from ≡ n = omega (arith, at, past) in ap p (sym same) ∙ not
    ]
    earlier (Some n) not least = (
      omega (arith, least.0),
      least.1,
      λ k past before. elim (cases_lt from k) as (λ _. p k ≡ false) [
        | inl after ↦ least.2 k (omega (arith, after)) before
        | inr at ↦ let same : from ≡ k = omega (arith, at, past) in ap p (sym same) ∙ not
      ],
    )

-- where it is the lowest of those that pass, the others come after it
none-left : (p : ℕ → Bool) (xs : List ℕ) → find p xs ≡ None → filter p xs ≡ []
none-left p [] none = refl
none-left p (x ∷ xs) none = by_test (p x) (λ rest. none-left p xs rest) none
  where
    by_test : (b : Bool) → (find p xs ≡ None → filter p xs ≡ []) → cond b (Some x) (find p xs) ≡ None → cond b (x ∷ filter p xs) (filter p xs) ≡ []
    by_test true rest found = absurd (none-some x (sym found))
    by_test false rest none = rest none

next-left : (p : ℕ → Bool) (from count n : ℕ) → find p (range_with_len from count) ≡ Some n
    → (from ≤ n) × (n < from + count) × (filter p (range_with_len from count) ≡ n ∷ filter p (range_with_len (n + 1) (from + count - (n + 1))))
next-left p from zero n is = absurd (none-some n is)
next-left p from (suc count) n is = by_test (p from) (λ found. next-left p (from + 1) count n found) is
  where
    rest : ℕ → List ℕ
    rest k = filter p (range_with_len (n + 1) k)

    by_test : (b : Bool) → (find p (range_with_len (from + 1) count) ≡ Some n → (from + 1 ≤ n) × (n < from + 1 + count) × (filter p (range_with_len (from + 1) count) ≡ n ∷ rest (from + 1 + count - (n + 1))))
        → cond b (Some from) (find p (range_with_len (from + 1) count)) ≡ Some n
        → (from ≤ n) × (n < from + suc count) × (cond b (from ∷ filter p (range_with_len (from + 1) count)) (filter p (range_with_len (from + 1) count)) ≡ n ∷ rest (from + suc count - (n + 1)))
    by_test true rests found =
        let same : from ≡ n = same_Some _ _ found in
        let size : count ≡ from + suc count - (n + 1) = omega (arith, same) in
        (omega (arith, same), omega (arith, same), ap (λ k. k ∷ filter p (range_with_len (k + 1) count)) same ∙ ap (λ k. n ∷ rest k) size)
    by_test false rests found =
        let later = rests found in
        let size : from + 1 + count - (n + 1) ≡ from + suc count - (n + 1) = omega arith in
        (omega (arith, later.0), omega (arith, later.1), later.2 ∙ ap (λ k. n ∷ rest k) size)

pub bad_from-all : (spans : List Span) (pages : List Page) → bad_touched_from spans pages 0 ≡ bad_touched spans pages
unfolding bad_touched bad_touched_from
bad_from-all spans pages = let all : 64 * length pages - 0 ≡ 64 * length pages = omega arith in ap (λ k. filter (is_bad_touched spans pages) (range_with_len 0 k)) all

pub bad_from-none : (spans : List Span) (pages : List Page) (from : ℕ) → next_bad_touched spans pages from ≡ None → bad_touched_from spans pages from ≡ []
unfolding bad_touched_from next_bad_touched
bad_from-none spans pages from none = none-left (is_bad_touched spans pages) _ none

pub bad_from-next : (spans : List Span) (pages : List Page) (from n : ℕ) → next_bad_touched spans pages from ≡ Some n → bad_touched_from spans pages from ≡ n ∷ bad_touched_from spans pages (n + 1)
unfolding bad_touched_from next_bad_touched
bad_from-next spans pages from n is =
    let size : ℕ = 64 * length pages in
    let left = next-left (is_bad_touched spans pages) from (size - from) n is in
    let same : from + (size - from) - (n + 1) ≡ size - (n + 1) = omega (arith, left.0, left.1) in
    left.2 ∙ ap (λ k. n ∷ filter (is_bad_touched spans pages) (range_with_len (n + 1) k)) same

-- a bad line is one of the pages'
bad-within : (pages : List Page) (n : ℕ) → is_bad_cell (cell_of pages n) ≡ true → n < 64 * length pages
bad-within pages n is = by_page (slice_get pages (n / 64)) refl is
  where
    by_page : (o : Option Page) → slice_get pages (n / 64) ≡ o → is_bad_cell (option_and_then (λ page. cell_in page (n % 64)) o) ≡ true → n < 64 * length pages
    by_page None was bad = absurd (false≢true bad)
    by_page (Some page) was bad = omega (arith, slice_get_within pages (n / 64) page was)

-- what is found is the lowest bad line from one on that some span touches
pub next-lowest : (spans : List Span) (pages : List Page) (from : ℕ) → IsLowestFrom from (is_bad_touched spans pages) (next_bad_touched spans pages from)
unfolding next_bad_touched
next-lowest spans pages from =
    found-lowest (is_bad_touched spans pages) from (64 * length pages - from)
    (λ n passes. omega (arith, bad-within pages n (and_parts (touches_any spans n) (is_bad_cell (cell_of pages n)) passes).1))

pub lowest-next : (spans : List Span) (pages : List Page) (from : ℕ) (lowest : Option ℕ) → IsLowestFrom from (is_bad_touched spans pages) lowest → lowest ≡ next_bad_touched spans pages from
lowest-next spans pages from lowest is = lowest-same from (is_bad_touched spans pages) lowest _ is (next-lowest spans pages from)
