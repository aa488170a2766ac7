-- Addresses of whole lines.
use Rattle.std.proofs.Common.{◌≡◌, ◌<◌, ◌≤◌, ◌+◌, ◌-◌, ◌*◌, ◌/◌, ◌%◌, ℕ, zero, suc, true, false, List, [], ◌∷◌, Some, All, refl, sym, ap, ◌∙◌, inl, inr, arith}
use Rattle.std.specs.List.{list_all}
use Rattle.std.proofs.lemmas.Bool.{cases_lt, cases_Bool, eqb-true, leb-true, false≢true, and_parts, not-true}
use Rattle.std.proofs.lemmas.List.Elements.{All-head, All-tail}
use Rattle.std.proofs.lemmas.Option.{same_Some, none-some}
use Rattle.nvm_base.specs.declared.units.Span.{Span}
use Rattle.range_sets.specs.Lines.{is_whole_lines, fits}
use Rattle.range_sets.specs.Ranges.{total_of, has_address, address_of, offset_of, is_disjoint}
use Rattle.range_sets.proofs.PlaceLemmas.{total_of-cons, place_first, place_later, place_none, place-offset_of, has_from, has_bounds, offset_first, offset_later, mapped_some, none_has, disjoint_parts}

whole : (count : ℕ) (r : Span) → is_whole_lines count r ≡ true → (r.start % 64 ≡ 0) × (r.len % 64 ≡ 0) × (r.start + r.len ≤ 64 * count)
whole count r is =
    let parts = and_parts _ _ is in
    let lines = and_parts _ _ parts.0 in
    let start : r.start % 64 ≡ 0 = eqb-true _ _ lines.0 in
    let len : r.len % 64 ≡ 0 = eqb-true _ _ lines.1 in
    let end : (r.start + r.len) / 64 ≤ count = leb-true _ _ parts.1 in
    (start, len, omega arith)

fits_parts : (count : ℕ) (r : Span) (rs : List Span) → fits (r ∷ rs) count ≡ true → (is_whole_lines count r ≡ true) × (fits rs count ≡ true)
fits_parts count r rs is = and_parts (is_whole_lines count r) (list_all (is_whole_lines count) rs) is

-- a line of the set begins at a line of the device
pub address_of-line : (ranges : List Span) (count offset address : ℕ) → fits ranges count ≡ true → offset % 64 ≡ 0 → address_of ranges offset ≡ Some address → (address % 64 ≡ 0) × (address + 64 ≤ 64 * count)
address_of-line [] count offset address is line found = absurd (none-some address found)
address_of-line (r ∷ rs) count offset address is line found =
    let parts = fits_parts count r rs is in
    let lines = whole count r parts.0 in
    elim (cases_lt offset r.len) as (λ _. (address % 64 ≡ 0) × (address + 64 ≤ 64 * count)) [
      | inl here ↦
          let is_at : r.start + offset ≡ address = same_Some _ _ (sym (place_first r rs offset here) ∙ found) in
          (omega (arith, lines.0, lines.1, lines.2), omega (arith, lines.0, lines.1, lines.2))
      | inr past ↦ address_of-line rs count (offset - r.len) address parts.1 (omega (arith, lines.1)) (sym (place_later r rs offset past) ∙ found)
    ]

-- and the other way round
pub offset_of-line : (ranges : List Span) (count address offset : ℕ) → fits ranges count ≡ true → address % 64 ≡ 0 → offset_of ranges address ≡ Some offset → offset % 64 ≡ 0
offset_of-line [] count address offset is line found = absurd (none-some offset found)
offset_of-line (r ∷ rs) count address offset is line found =
    let parts = fits_parts count r rs is in
    let lines = whole count r parts.0 in
    elim (cases_Bool (has_address r address)) as (λ _. offset % 64 ≡ 0) [
      | inl has ↦
          let bounds = has_bounds r address has in
          let is_at : address - r.start ≡ offset = same_Some _ _ (sym (offset_first r rs address has) ∙ found) in
          omega (arith, lines.0, bounds.0)
      | inr lacks ↦
          let later = mapped_some (λ n. r.len + n) (offset_of rs address) offset (sym (offset_later r rs address lacks) ∙ found) in
          let rest = offset_of-line rs count address later.0 parts.1 line later.1 in
          omega (arith, lines.1, rest, later.2)
    ]

pub offset_of-within : (ranges : List Span) (address offset : ℕ) → offset_of ranges address ≡ Some offset → offset < total_of ranges
offset_of-within ranges address offset found =
    elim (cases_lt offset (total_of ranges)) [
      | inl within ↦ within
      | inr past ↦ absurd (none-some address (sym (place_none ranges offset past) ∙ place-offset_of ranges address offset found))
    ]

-- a set of whole lines has whole lines
pub total_of-lines : (ranges : List Span) (count : ℕ) → fits ranges count ≡ true → total_of ranges % 64 ≡ 0
total_of-lines [] count is = refl
total_of-lines (r ∷ rs) count is =
    let parts = fits_parts count r rs is in
    let lines = whole count r parts.0 in
    let rest = total_of-lines rs count parts.1 in
    omega (arith, total_of-cons r rs, lines.1, rest)

-- the bytes of ranges below an address
below : List Span → ℕ → ℕ
below [] n = 0
below (r ∷ rs) n = n - r.start - (n - (r.start + r.len)) + below rs n

below-outside : (ranges : List Span) (n : ℕ) → All (λ r. has_address r n ≡ false) ranges → below ranges (n + 1) ≡ below ranges n
unfolding below
below-outside [] n none = refl
below-outside (r ∷ rs) n none =
    let lacks = All-head (λ (s : Span). has_address s n ≡ false) r rs none in
    let rest = below-outside rs n (All-tail (λ (s : Span). has_address s n ≡ false) r rs none) in
    elim (cases_lt n r.start) [
      | inl before ↦ omega (arith, rest)
      | inr from ↦ elim (cases_lt n (r.start + r.len)) [
        | inl in_it ↦ absurd (false≢true (sym lacks ∙ has_from r n from in_it))
        | inr past ↦ omega (arith, rest)
      ]
    ]

below-more : (ranges : List Span) (n : ℕ) → is_disjoint ranges ≡ true → below ranges (n + 1) ≤ below ranges n + 1
unfolding below
below-more [] n disjoint = omega arith
below-more (r ∷ rs) n disjoint =
    let parts = disjoint_parts r rs disjoint in
    elim (cases_Bool (has_address r n)) [
      | inl has ↦
          let bounds = has_bounds r n has in
          let rest = below-outside rs n (none_has r rs n has (not-true _ parts.0)) in
          omega (arith, rest, bounds.0, bounds.1)
      | inr lacks ↦
          let rest = below-more rs n parts.1 in
          elim (cases_lt n r.start) [
            | inl before ↦ omega (arith, rest)
            | inr from ↦ elim (cases_lt n (r.start + r.len)) [
              | inl in_it ↦ absurd (false≢true (sym lacks ∙ has_from r n from in_it))
              | inr past ↦ omega (arith, rest)
            ]
          ]
    ]

below-zero : (ranges : List Span) → below ranges 0 ≡ 0
unfolding below
below-zero [] = refl
below-zero (r ∷ rs) = omega (arith, below-zero rs)

below-few : (ranges : List Span) (n : ℕ) → is_disjoint ranges ≡ true → below ranges n ≤ n
below-few ranges zero disjoint = omega (arith, below-zero ranges)
below-few ranges (suc n) disjoint =
    let more = below-more ranges n disjoint in
    let few = below-few ranges n disjoint in
    let next : below ranges (suc n) ≡ below ranges (n + 1) = ap (below ranges) (omega arith) in
    omega (arith, more, few, next)

below-all : (ranges : List Span) (count : ℕ) → fits ranges count ≡ true → below ranges (64 * count) ≡ total_of ranges
unfolding below
below-all [] count is = refl
below-all (r ∷ rs) count is =
    let parts = fits_parts count r rs is in
    let lines = whole count r parts.0 in
    let rest = below-all rs count parts.1 in
    omega (arith, total_of-cons r rs, lines.2, rest)

-- a set of whole lines has no more of them than the device
pub total_of-fits : (ranges : List Span) (count : ℕ) → is_disjoint ranges ≡ true → fits ranges count ≡ true → total_of ranges ≤ 64 * count
total_of-fits ranges count disjoint is =
    let few = below-few ranges (64 * count) disjoint in
    omega (arith, below-all ranges count is, few)

-- a set's lines are on the device
pub lines_in_all : (ranges : List Span) (count : ℕ) → is_disjoint ranges ≡ true → fits ranges count ≡ true → total_of ranges / 64 ≤ count
lines_in_all ranges count disjoint is =
    let few = total_of-fits ranges count disjoint is in
    omega (arith, few)

pub line_within : (ranges : List Span) (n : ℕ) → n < total_of ranges / 64 → 64 * n < total_of ranges
line_within ranges n within = omega arith

pub line_past : (ranges : List Span) (count n : ℕ) → fits ranges count ≡ true → total_of ranges ≤ 64 * n → n ≡ total_of ranges / 64 + (n - total_of ranges / 64)
line_past ranges count n is past =
    let lines = total_of-lines ranges count is in
    omega (arith, lines)

pub address_of-some : (ranges : List Span) (offset : ℕ) → offset < total_of ranges → (address : ℕ) × (address_of ranges offset ≡ Some address)
address_of-some [] offset within = absurd (omega arith)
address_of-some (r ∷ rs) offset within =
    let total = total_of-cons r rs in
    elim (cases_lt offset r.len) [
      | inl here ↦ (r.start + offset, place_first r rs offset here)
      | inr past ↦
          let rest = address_of-some rs (offset - r.len) (omega arith) in
          (rest.0, place_later r rs offset past ∙ rest.1)
    ]

-- where a line of the set lies on the device
pub line_behind : (ranges : List Span) (count n : ℕ) → fits ranges count ≡ true → n < total_of ranges / 64 → (address : ℕ) × (address_of ranges (64 * n) ≡ Some address) × (address / 64 < count) × (64 * (address / 64) ≡ address)
line_behind ranges count n is within =
    let found = address_of-some ranges (64 * n) (line_within ranges n within) in
    let begins : 64 * n % 64 ≡ 0 = omega arith in
    let line = address_of-line ranges count (64 * n) found.0 is begins found.1 in
    (found.0, found.1, omega (arith, line.0, line.1), omega (arith, line.0))

-- and which line of the set is a line of the device
pub line_ahead : (ranges : List Span) (count line offset : ℕ) → fits ranges count ≡ true → offset_of ranges (64 * line) ≡ Some offset → (64 * (offset / 64) ≡ offset) × (64 * (offset / 64) < total_of ranges)
line_ahead ranges count line offset is found =
    let begins : 64 * line % 64 ≡ 0 = omega arith in
    let lines = offset_of-line ranges count (64 * line) offset is begins found in
    let within = offset_of-within ranges (64 * line) offset found in
    (omega (arith, lines), omega (arith, lines, within))
