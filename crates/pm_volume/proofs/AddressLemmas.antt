-- Spans of addresses and the bytes of two ranges with a gap between them.
use Rattle.std.proofs.Common.{◌≡◌, ◌⊎◌, inl, inr, ℕ, ◌+◌, ◌-◌, ◌*◌, ◌<◌, ◌≤◌, ◌↔◌, ◌&&◌, Bool, true, false, nat_le, Option, Some, None, option_map, List, [], ◌∷◌, if◌then◌else◌, refl, sym, ap, ◌∙◌, arith}
use Rattle.std.proofs.lemmas.Bool.{and_from, and_parts, and_right, cases_Bool, cases_lt, le-leb, lt-leb, leb-true}
use Rattle.std.proofs.lemmas.Option.{none-some, same_Some}
use Rattle.nvm_base.specs.declared.units.Span.{Span}
use Rattle.word_tables.specs.declared.geometry.Geometry.{Geometry}
use Rattle.word_tables.specs.Bounds.{IsValid}
use Rattle.word_tables.specs.Layout.{bytes_in, first_line, first_range, second_range, size}
use Rattle.range_sets.specs.Ranges.{has_address, offset_of, offset_of_span}
use Rattle.range_sets.proofs.PlaceLemmas.{has_bounds, has_from, offset_first, offset_later}
use Rattle.pm_volume.specs.Area.{LeavesRanges, volume_ranges}
use Rattle.pm_volume.specs.Refusals.{physical_offset}

abbrev pub range : ℕ → ℕ → Span
range start len = record { start = start; len = len }

lacks : (r : Span) (a : ℕ) → (a < r.start) ⊎ (r.start + r.len ≤ a) → has_address r a ≡ false
lacks r a out =
    elim (cases_Bool (has_address r a)) as (λ _. has_address r a ≡ false) [
      | inl has ↦ let bounds = has_bounds r a has in elim out as (λ _. has_address r a ≡ false) [ inl before ↦ absurd (omega (arith, before, bounds.0)) | inr past ↦ absurd (omega (arith, past, bounds.1)) ]
      | inr hasnt ↦ hasnt
    ]

module _ (f1 s1 f2 s2 : ℕ) (gap : f1 + s1 < f2) where
  abbrev pub two : List Span
  two = range f1 s1 ∷ range f2 s2 ∷ []

  abbrev pub Leaves : ℕ → ℕ → Type 0
  Leaves address len = (k : ℕ) × (k < len) × (offset_of two (address + k) ≡ None)

  byte_in_first : (a : ℕ) → f1 ≤ a → a < f1 + s1 → offset_of two a ≡ Some (a - f1)
  byte_in_first a from to = offset_first (range f1 s1) (range f2 s2 ∷ []) a (has_from (range f1 s1) a from to)

  byte_in_second : (a : ℕ) → f2 ≤ a → a < f2 + s2 → offset_of two a ≡ Some (s1 + (a - f2))
  byte_in_second a from to =
      offset_later (range f1 s1) (range f2 s2 ∷ []) a (lacks (range f1 s1) a (inr (omega (arith, gap, from))))
      ∙ ap (option_map (λ o. s1 + o)) (offset_first (range f2 s2) [] a (has_from (range f2 s2) a from to))

  byte_in_none : (a : ℕ) → (a < f1) ⊎ (f1 + s1 ≤ a) → (a < f2) ⊎ (f2 + s2 ≤ a) → offset_of two a ≡ None
  byte_in_none a one other =
      offset_later (range f1 s1) (range f2 s2 ∷ []) a (lacks (range f1 s1) a one)
      ∙ ap (option_map (λ o. s1 + o)) (offset_later (range f2 s2) [] a (lacks (range f2 s2) a other))

  -- a span that one range has
  span_in_first : (address len : ℕ) → f1 ≤ address → address + len ≤ f1 + s1 → offset_of_span two (range address len) ≡ Some (address - f1)
  span_in_first address len from to =
      ap (λ b. if b then Some (address - f1) else option_map (λ o. s1 + o) (offset_of_span (range f2 s2 ∷ []) (range address len)))
      (and_from _ _ (le-leb f1 address from) (le-leb (address + len) (f1 + s1) to))

  span_in_second : (address len : ℕ) → f2 ≤ address → address + len ≤ f2 + s2 → offset_of_span two (range address len) ≡ Some (s1 + (address - f2))
  span_in_second address len from to =
      ap (λ b. if b then Some (address - f1) else option_map (λ o. s1 + o) (offset_of_span (range f2 s2 ∷ []) (range address len)))
      (and_right (nat_le f1 address) _ (lt-leb (address + len) (f1 + s1) (omega (arith, gap, from))))
      ∙ ap (λ b. option_map (λ o. s1 + o) (if b then Some (address - f2) else None))
      (and_from _ _ (le-leb f2 address from) (le-leb (address + len) (f2 + s2) to))

  pub bytes_follow : (address len offset k : ℕ) → offset_of_span two (range address len) ≡ Some offset → k < len → offset_of two (address + k) ≡ Some (offset + k)
  bytes_follow address len offset k is below =
      by_tests (nat_le f1 address && nat_le (address + len) (f1 + s1)) (nat_le f2 address && nat_le (address + len) (f2 + s2)) refl refl is
    where
      by_tests : (a b : Bool) → (nat_le f1 address && nat_le (address + len) (f1 + s1)) ≡ a → (nat_le f2 address && nat_le (address + len) (f2 + s2)) ≡ b
          → (if a then Some (address - f1) else option_map (λ o. s1 + o) (if b then Some (address - f2) else None)) ≡ Some offset → offset_of two (address + k) ≡ Some (offset + k)
      by_tests true b one other found =
          let parts = and_parts (nat_le f1 address) (nat_le (address + len) (f1 + s1)) one in
          let from : f1 ≤ address = leb-true f1 address parts.0 in
          let to : address + len ≤ f1 + s1 = leb-true (address + len) (f1 + s1) parts.1 in
          let at : address - f1 ≡ offset = same_Some _ _ found in
          let next : address + k - f1 ≡ offset + k = omega (arith, from, at) in
          byte_in_first (address + k) (omega (arith, from)) (omega (arith, to, below)) ∙ ap (λ o. Some o) next
      by_tests false true one other found =
          let parts = and_parts (nat_le f2 address) (nat_le (address + len) (f2 + s2)) other in
          let from : f2 ≤ address = leb-true f2 address parts.0 in
          let to : address + len ≤ f2 + s2 = leb-true (address + len) (f2 + s2) parts.1 in
          let at : s1 + (address - f2) ≡ offset = same_Some _ _ found in
          let next : s1 + (address + k - f2) ≡ offset + k = omega (arith, from, at) in
          byte_in_second (address + k) (omega (arith, from)) (omega (arith, to, below)) ∙ ap (λ o. Some o) next
      by_tests false false one other found = absurd (none-some offset found)

  -- a span that none has leaves them at its first byte, or at the end of the range where it begins
  leaves : (address len : ℕ) → 1 ≤ len → offset_of_span two (range address len) ≡ None → Leaves address len
  leaves address len some none =
      elim (cases_Bool (has_address (range f1 s1) address)) as (λ _. Leaves address len) [
        | inl one ↦ in_first (has_bounds (range f1 s1) address one)
        | inr not_one ↦ elim (cases_Bool (has_address (range f2 s2) address)) as (λ _. Leaves address len) [
          | inl other ↦ in_second (has_bounds (range f2 s2) address other)
          | inr not_other ↦ (0, some, at_once not_one not_other)
        ]
      ]
    where
      at_once : has_address (range f1 s1) address ≡ false → has_address (range f2 s2) address ≡ false → offset_of two (address + 0) ≡ None
      at_once not_one not_other =
          let e : address + 0 ≡ address = omega arith in
          ap (offset_of two) e ∙ offset_later (range f1 s1) (range f2 s2 ∷ []) address not_one ∙ ap (option_map (λ o. s1 + o)) (offset_later (range f2 s2) [] address not_other)

      in_first : (f1 ≤ address) × (address < f1 + s1) → Leaves address len
      in_first at =
          elim (cases_lt (f1 + s1) (address + len)) as (λ _. Leaves address len) [
            | inl past ↦
                let end : address + (f1 + s1 - address) ≡ f1 + s1 = omega (arith, at.1) in
                (f1 + s1 - address, omega (arith, past, at.1), ap (offset_of two) end ∙ byte_in_none (f1 + s1) (inr (omega arith)) (inl gap))
            | inr within ↦ absurd (none-some _ (sym none ∙ span_in_first address len at.0 within))
          ]

      in_second : (f2 ≤ address) × (address < f2 + s2) → Leaves address len
      in_second at =
          elim (cases_lt (f2 + s2) (address + len)) as (λ _. Leaves address len) [
            | inl past ↦
                let end : address + (f2 + s2 - address) ≡ f2 + s2 = omega (arith, at.1) in
                (f2 + s2 - address, omega (arith, past, at.1), ap (offset_of two) end ∙ byte_in_none (f2 + s2) (inr (omega (arith, gap))) (inr (omega arith)))
            | inr within ↦ absurd (none-some _ (sym none ∙ span_in_second address len at.0 within))
          ]

  left : (address len : ℕ) → Leaves address len → offset_of_span two (range address len) ≡ None
  left address len out = by_answer (offset_of_span two (range address len)) refl
    where
      by_answer : (o : Option ℕ) → offset_of_span two (range address len) ≡ o → o ≡ None
      by_answer None is = refl
      by_answer (Some offset) is = absurd (none-some _ (sym out.2 ∙ bytes_follow address len offset out.0 is out.1))

  pub none_exactly : (address len : ℕ) → 1 ≤ len → (offset_of_span two (range address len) ≡ None) ↔ Leaves address len
  none_exactly address len some = (leaves address len some, left address len)

module _ (geo : Geometry) (valid : IsValid geo) where
  ranges_apart : (bytes_in geo first_range).start + (bytes_in geo first_range).len < (bytes_in geo second_range).start
  unfolding first_line size
  ranges_apart = omega arith

  pub address_none : (address len : ℕ) → 1 ≤ len → (physical_offset geo address len ≡ None) ↔ LeavesRanges geo address len
  address_none address len some = none_exactly (64 * first_line geo first_range) (64 * size geo first_range) (64 * first_line geo second_range) (64 * size geo second_range) ranges_apart address len some

  pub address_some : (address len offset k : ℕ) → physical_offset geo address len ≡ Some offset → k < len → offset_of (volume_ranges geo) (address + k) ≡ Some (offset + k)
  address_some address len offset k is below = bytes_follow (64 * first_line geo first_range) (64 * size geo first_range) (64 * first_line geo second_range) (64 * size geo second_range) ranges_apart address len offset k is below
