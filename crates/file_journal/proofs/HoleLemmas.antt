-- Pages that become holes.
use Rattle.std.proofs.Common.{◌≡◌, ◌⊎◌, inl, inr, ℕ, zero, suc, ◌+◌, ◌<◌, ◌≤◌, Bool, List, [], ◌∷◌, ◌++◌, Option, Some, None, is_some, cond, if◌then◌else◌, refl, sym, ap, ◌∙◌, arith}
use Rattle.std.proofs.lemmas.Bool.{cases_eq, eq-eqb, ne_eqb}
use Rattle.std.proofs.lemmas.List.Sums.{sum_by-cons}
use Rattle.std.proofs.lemmas.Option.{same_Some, slice_get_within}
use Rattle.nvm_model.specs.Numbered.{list_from, map_from}
use Rattle.nvm_model.proofs.NumberedLemmas.{length-list_from, slice_get-list_from}
use Rattle.page_table.specs.Pages.{used_pages}
use Rattle.file_journal.specs.Changes.{holes, named_units, unit_for}
use Rattle.file_journal.specs.Switches.{AreHeld, AreSwitches, IsSwitch}

pub list_from-push : {A : Type 0} (f : ℕ → A) (n k : ℕ) → list_from f n (suc k) ≡ list_from f n k ++ f (n + k) ∷ []
list_from-push f n zero = let e : n + zero ≡ n = omega arith in rw e refl
list_from-push f n (suc k) =
    let e : n + suc k ≡ suc n + k = omega arith in
    rw e (ap (λ xs. f n ∷ xs) (list_from-push f (suc n) k))

-- each of them is of a page of its own, to none
pub hole_at : (first count i page : ℕ) (unit : Option ℕ) → IsSwitch (holes first count) i page unit → (i < count) × (page ≡ first + i) × (unit ≡ None)
hole_at first count i page unit is =
    let f : ℕ → ℕ × Option ℕ = λ p. (p, None) in
    let low : i < count = omega (arith, slice_get_within (holes first count) i (page, unit) is, length-list_from f first count) in
    let same : (page, unit) ≡ f (first + i) = same_Some (page, unit) (f (first + i)) (sym is ∙ slice_get-list_from f first count i low) in
    (low, ap (λ (c : ℕ × Option ℕ). c.0) same, ap (λ (c : ℕ × Option ℕ). c.1) same)

no_unit : (unit : ℕ) → Some unit ≡ None → ⊥
no_unit unit e = cc e

pub holes_are : (units first count : ℕ) → first + count ≤ 256 → AreSwitches units (holes first count)
holes_are units first count few =
    let f : ℕ → ℕ × Option ℕ = λ p. (p, None) in
    record {
      few = omega (arith, length-list_from f first count);
      within = λ i page unit is. omega (arith, hole_at first count i page unit is);
      below = λ i page unit is. absurd (no_unit unit (hole_at first count i page (Some unit) is).2);
      distinct = λ i j page a b x y. omega (arith, hole_at first count i page a x, hole_at first count j page b y);
      own = λ i j p q unit x y. absurd (no_unit unit (hole_at first count i p (Some unit) x).2);
    }

pub holes_held : (pages : List (Option ℕ)) (free : List Bool) (first count : ℕ) → AreHeld pages free (holes first count)
holes_held pages free first count i page unit is = absurd (no_unit unit (hole_at first count i page (Some unit) is).2)

pub named_holes : (first count : ℕ) → named_units (holes first count) ≡ 0
named_holes first zero = refl
named_holes first (suc count) = omega (arith, sum_by-cons (λ (c : ℕ × Option ℕ). cond (is_some c.1) 1 0) (first, None) (holes (suc first) count), named_holes (suc first) count)

pub unit_for-hole : (first count page : ℕ) (old : Option ℕ) → first ≤ page → page < first + count → unit_for (holes first count) page old ≡ None
unit_for-hole first zero page old from to = absurd (omega arith)
unit_for-hole first (suc count) page old from to =
    elim (cases_eq first page) as (λ _. unit_for (holes first (suc count)) page old ≡ None) [
      | inl same ↦ ap (λ b. if b then None else unit_for (holes (suc first) count) page old) (eq-eqb first page same)
      | inr other ↦
          ap (λ b. if b then None else unit_for (holes (suc first) count) page old) (ne_eqb first page other)
          ∙ unit_for-hole (suc first) count page old (omega arith) (omega arith)
    ]

-- pages of which some become holes use no more units
pub used_fewer : (f : ℕ → Option ℕ → Option ℕ) → ((k : ℕ) (page : Option ℕ) → (f k page ≡ None) ⊎ (f k page ≡ page)) → (n : ℕ) (pages : List (Option ℕ)) → used_pages (map_from f n pages) ≤ used_pages pages
used_fewer f fewer n [] = omega arith
used_fewer f fewer n (p ∷ ps) =
    let count : Option ℕ → ℕ = λ page. cond (is_some page) 1 0 in
    let rest = used_fewer f fewer (suc n) ps in
    let one = sum_by-cons count (f n p) (map_from f (suc n) ps) in
    let two = sum_by-cons count p ps in
    elim (fewer n p) as (λ _. used_pages (f n p ∷ map_from f (suc n) ps) ≤ used_pages (p ∷ ps)) [
      | inl none ↦ let e : count (f n p) ≡ 0 = ap count none in omega arith
      | inr same ↦ let e : count (f n p) ≡ count p = ap count same in omega arith
    ]
