-- The pages that a span touches.
use Rattle.std.proofs.Common.{◌≡◌, inl, inr, ℕ, zero, suc, ◌+◌, ◌-◌, ◌*◌, ◌/◌, ◌<◌, ◌≤◌, ◌&&◌, ◌||◌, Bool, true, false, not, nat_le, nat_lt, List, [], ◌∷◌, Some, length, slice_get, slice_index_or, if◌then◌else◌, refl, sym, ap, ◌∙◌, arith}
use Rattle.std.specs.List.{list_any}
use Rattle.std.proofs.lemmas.Bool.{cases_Bool, cases_lt, le-leb, lt-ltb, leb-true, ltb-true, and_parts, and_from, or_left, or_right, false≢true}
use Rattle.std.proofs.lemmas.List.{get_or_past}
use Rattle.std.proofs.lemmas.Option.{get_or_from_slice_get, same_Some, slice_get-get_or}
use Rattle.nvm_model.specs.Numbered.{map_from, is_among}
use Rattle.nvm_model.specs.Page.{absent_among, absent_touched, touches_absent, touches_page}

-- tests that pass together are the same
pub same_tests : (a b : Bool) → (a ≡ true → b ≡ true) → (b ≡ true → a ≡ true) → a ≡ b
same_tests true b to back = sym (to refl)
same_tests false true to back = back refl
same_tests false false to back = refl

pub among_from : (first count i : ℕ) → first ≤ i → i < first + count → is_among first count i ≡ true
among_from first count i from to = and_from (nat_le first i) (nat_lt i (first + count)) (le-leb first i from) (lt-ltb i (first + count) to)

pub among_bounds : (first count i : ℕ) → is_among first count i ≡ true → (first ≤ i) × (i < first + count)
among_bounds first count i is =
    let parts = and_parts (nat_le first i) (nat_lt i (first + count)) is in
    (leb-true first i parts.0, ltb-true i (first + count) parts.1)

pub not_among : (first count i : ℕ) → ((first ≤ i) → (i < first + count) → ⊥) → is_among first count i ≡ false
not_among first count i out =
    elim (cases_Bool (is_among first count i)) as (λ _. is_among first count i ≡ false) [
      | inl is ↦ let at = among_bounds first count i is in absurd (out at.0 at.1)
      | inr is_not ↦ is_not
    ]

-- the pages that a span touches are those of its units
pub touches_among : (start len i : ℕ) → 1 ≤ len → touches_page start len i ≡ is_among (start / 4096) ((start + len - 1) / 4096 + 1 - start / 4096) i
touches_among start len i some =
    same_tests (touches_page start len i) (is_among (start / 4096) ((start + len - 1) / 4096 + 1 - start / 4096) i)
    (λ is.
    let parts = and_parts (nat_lt start (4096 * i + 4096)) (nat_lt (4096 * i) (start + len)) is in
    let below : start < 4096 * i + 4096 = ltb-true start (4096 * i + 4096) parts.0 in
    let above : 4096 * i < start + len = ltb-true (4096 * i) (start + len) parts.1 in
    among_from (start / 4096) ((start + len - 1) / 4096 + 1 - start / 4096) i (omega arith) (omega arith))
    (λ is.
    let at = among_bounds (start / 4096) ((start + len - 1) / 4096 + 1 - start / 4096) i is in
    and_from (nat_lt start (4096 * i + 4096)) (nat_lt (4096 * i) (start + len)) (lt-ltb start (4096 * i + 4096) (omega (arith, at.0, at.1))) (lt-ltb (4096 * i) (start + len) (omega (arith, at.0, at.1))))

-- a page that is listed as absent is one that isn't there
absent_get : (there : List Bool) (k : ℕ) → slice_index_or there k true ≡ false → slice_get there k ≡ Some false
absent_get there k is =
    elim (cases_lt k (length there)) as (λ _. slice_get there k ≡ Some false) [
      | inl within ↦ slice_get-get_or there k true within ∙ ap (λ (b : Bool). Some b) is
      | inr past ↦ absurd (false≢true (sym is ∙ get_or_past there k true past))
    ]

-- a page counts where it is absent
one_absent : Bool → ℕ
one_absent b = if b then 0 else 1

absent_next : (there : List Bool) (first k : ℕ) (b : Bool) → slice_index_or there (first + k) true ≡ b → absent_among there first (suc k) ≡ absent_among there first k + one_absent b
unfolding one_absent
absent_next there first k b is = ap (λ t. absent_among there first k + one_absent t) is

pub absent_found : (there : List Bool) (first count : ℕ) → 1 ≤ absent_among there first count → (k : ℕ) × (first ≤ k) × (k < first + count) × (slice_get there k ≡ Some false)
unfolding one_absent
absent_found there first zero some = absurd (omega (arith, some))
absent_found there first (suc count) some = by_last (slice_index_or there (first + count) true) refl (λ more. absent_found there first count more)
  where
    by_last : (b : Bool) → slice_index_or there (first + count) true ≡ b
        → (1 ≤ absent_among there first count → (k : ℕ) × (first ≤ k) × (k < first + count) × (slice_get there k ≡ Some false))
        → (k : ℕ) × (first ≤ k) × (k < first + suc count) × (slice_get there k ≡ Some false)
    by_last true is before =
        let rest = before (omega (arith, some, absent_next there first count true is)) in
        (rest.0, rest.1, omega (arith, rest.2), rest.3)
    by_last false is before = (first + count, omega arith, omega arith, absent_get there (first + count) is)

pub absent_at : (there : List Bool) (first count k : ℕ) → first ≤ k → k < first + count → slice_get there k ≡ Some false → 1 ≤ absent_among there first count
unfolding one_absent
absent_at there first zero k from to is = absurd (omega (arith, from, to))
absent_at there first (suc count) k from to is =
    elim (cases_lt k (first + count)) as (λ _. 1 ≤ absent_among there first (suc count)) [
      | inl before ↦ let rest = absent_at there first count k from before is in omega (arith, rest)
      | inr last ↦
          let same : first + count ≡ k = omega (arith, to, last) in
          let next = absent_next there first count false (ap (λ i. slice_index_or there i true) same ∙ get_or_from_slice_get there k false true is) in
          omega (arith, next)
    ]

-- some test passes, and what it passes at
any_at : (p : ℕ → Bool → Bool) (n : ℕ) (there : List Bool) (k : ℕ) (b : Bool) → slice_get there k ≡ Some b → p (n + k) b ≡ true → list_any (λ lacks. lacks) (map_from p n there) ≡ true
any_at p n [] k b is passes = cc
any_at p n (t ∷ ts) zero b is passes =
    let same : t ≡ b = same_Some t b is in
    let at : n + 0 ≡ n = omega arith in
    or_left (p n t) _ (ap (p n) same ∙ sym (ap (λ i. p i b) at) ∙ passes)
any_at p n (t ∷ ts) (suc k) b is passes =
    let at : n + suc k ≡ suc n + k = omega arith in
    or_right (p n t) _ (any_at p (suc n) ts k b is (sym (ap (λ i. p i b) at) ∙ passes))

any_found : (p : ℕ → Bool → Bool) (n : ℕ) (there : List Bool) → list_any (λ lacks. lacks) (map_from p n there) ≡ true → (k : ℕ) × (b : Bool) × (slice_get there k ≡ Some b) × (p (n + k) b ≡ true)
any_found p n [] is = absurd (false≢true is)
any_found p n (t ∷ ts) is = by_head (p n t) refl (λ later. any_found p (suc n) ts later) is
  where
    by_head : (h : Bool) → p n t ≡ h
        → (list_any (λ lacks. lacks) (map_from p (suc n) ts) ≡ true → (k : ℕ) × (b : Bool) × (slice_get ts k ≡ Some b) × (p (suc n + k) b ≡ true))
        → (h || list_any (λ lacks. lacks) (map_from p (suc n) ts)) ≡ true → (k : ℕ) × (b : Bool) × (slice_get (t ∷ ts) k ≡ Some b) × (p (n + k) b ≡ true)
    by_head true here later is = let at : n + 0 ≡ n = omega arith in (0, t, refl, ap (λ i. p i t) at ∙ here)
    by_head false here later is =
        let rest = later is in
        let at : n + suc rest.0 ≡ suc n + rest.0 = omega arith in
        (suc rest.0, rest.1, rest.2, ap (λ i. p i rest.1) at ∙ rest.3)

lacking : (a b : Bool) → (a && not b) ≡ true → (a ≡ true) × (b ≡ false)
lacking true false is = (refl, refl)
lacking true true is = cc
lacking false b is = cc

-- a span touches an absent page where it touches more than none
pub touches_absent-some : (start len : ℕ) (there : List Bool) → 1 ≤ len → touches_absent start len there ≡ nat_lt 0 (absent_touched start len there)
touches_absent-some start len there some =
    same_tests (touches_absent start len there) (nat_lt 0 (absent_touched start len there))
    (λ is.
    let found = any_found (λ i b. touches_page start len i && not b) 0 there is in
    let both = lacking (touches_page start len (0 + found.0)) found.1 found.3 in
    let at : 0 + found.0 ≡ found.0 = omega arith in
    let among = among_bounds (start / 4096) ((start + len - 1) / 4096 + 1 - start / 4096) found.0
    (sym (touches_among start len found.0 some) ∙ ap (touches_page start len) (sym at) ∙ both.0) in
    lt-ltb 0 (absent_touched start len there)
    (omega (arith, absent_at there (start / 4096) ((start + len - 1) / 4096 + 1 - start / 4096) found.0 among.0 among.1 (found.2 ∙ ap (λ (b : Bool). Some b) both.1))))
    (λ is.
    let found = absent_found there (start / 4096) ((start + len - 1) / 4096 + 1 - start / 4096) (omega (arith, ltb-true 0 (absent_touched start len there) is)) in
    let at : 0 + found.0 ≡ found.0 = omega arith in
    any_at (λ i b. touches_page start len i && not b) 0 there found.0 false found.3
    (and_from _ _ (ap (touches_page start len) at ∙ touches_among start len found.0 some ∙ among_from (start / 4096) ((start + len - 1) / 4096 + 1 - start / 4096) found.0 found.1 found.2) refl))
