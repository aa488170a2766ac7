-- Addresses and offsets go back and forth.
use Rattle.std.proofs.Common.{◌≡◌, ◌<◌, ◌≤◌, ◌+◌, ◌-◌, ◌↔◌, ℕ, true, false, List, [], ◌∷◌, Option, Some, None, IsNone, IsSome, IfSome, All, get_or, cond, ltb, leb, not, refl, sym, ap, ◌∙◌, inl, inr, arith}
use Rattle.std.specs.List.{list_any}
use Rattle.std.specs.Option.{option_map, is_some}
use Rattle.std.proofs.lemmas.Bool.{cases_lt, lt-ltb, le-ltb, le-leb, ltb-true, leb-true, cases_Bool, false≢true, and_parts, and_from, or_parts, not-true}
use Rattle.std.proofs.lemmas.List.Elements.{All-head, All-tail, All-nil, All-cons}
use Rattle.std.proofs.lemmas.List.Sums.{sum_by-cons}
use Rattle.std.proofs.lemmas.Option.{same_Some, none-some}
use Rattle.nvm_base.specs.declared.units.Span.{Span}
use Rattle.nvm_base.specs.Units.{overlap, Holds}
use Rattle.range_sets.specs.Ranges.{total_of, has_address, address_of, offset_of, is_disjoint}

pub total_of-cons : (r : Span) (rs : List Span) → total_of (r ∷ rs) ≡ r.len + total_of rs
total_of-cons r rs = sum_by-cons (λ (s : Span). s.len) r rs

-- in the first range, or past it
pub place_first : (r : Span) (rs : List Span) (offset : ℕ) → offset < r.len → address_of (r ∷ rs) offset ≡ Some (r.start + offset)
place_first r rs offset within = ap (λ b. cond b (Some (r.start + offset)) (address_of rs (offset - r.len))) (lt-ltb offset r.len within)

pub place_later : (r : Span) (rs : List Span) (offset : ℕ) → r.len ≤ offset → address_of (r ∷ rs) offset ≡ address_of rs (offset - r.len)
place_later r rs offset past = ap (λ b. cond b (Some (r.start + offset)) (address_of rs (offset - r.len))) (le-ltb offset r.len past)

-- an address is in the range, or not
pub has_from : (r : Span) (address : ℕ) → r.start ≤ address → address < r.start + r.len → has_address r address ≡ true
has_from r address from below = and_from _ _ (le-leb r.start address from) (lt-ltb address (r.start + r.len) below)

pub has_bounds : (r : Span) (address : ℕ) → has_address r address ≡ true → (r.start ≤ address) × (address < r.start + r.len)
has_bounds r address has =
    let parts = and_parts (leb r.start address) (ltb address (r.start + r.len)) has in
    (leb-true _ _ parts.0, ltb-true _ _ parts.1)

pub offset_first : (r : Span) (rs : List Span) (address : ℕ) → has_address r address ≡ true → offset_of (r ∷ rs) address ≡ Some (address - r.start)
offset_first r rs address has = ap (λ b. cond b (Some (address - r.start)) (option_map (λ offset. r.len + offset) (offset_of rs address))) has

pub offset_later : (r : Span) (rs : List Span) (address : ℕ) → has_address r address ≡ false → offset_of (r ∷ rs) address ≡ option_map (λ offset. r.len + offset) (offset_of rs address)
offset_later r rs address lacks = ap (λ b. cond b (Some (address - r.start)) (option_map (λ offset. r.len + offset) (offset_of rs address))) lacks

-- a byte has an address exactly where it is one of the ranges'
pub place_none : (ranges : List Span) (offset : ℕ) → total_of ranges ≤ offset → address_of ranges offset ≡ None
place_none [] offset past = refl
place_none (r ∷ rs) offset past =
    let total = total_of-cons r rs in
    place_later r rs offset (omega arith) ∙ place_none rs (offset - r.len) (omega arith)

pub place_some : (ranges : List Span) (offset : ℕ) → offset < total_of ranges → IsSome (address_of ranges offset)
place_some [] offset within = absurd (omega arith)
place_some (r ∷ rs) offset within =
    let total = total_of-cons r rs in
    elim (cases_lt offset r.len) [
      | inl here ↦ ap is_some (place_first r rs offset here)
      | inr past ↦ ap is_some (place_later r rs offset past) ∙ place_some rs (offset - r.len) (omega arith)
    ]

-- the address of a byte is in one of the ranges
pub place_in : (ranges : List Span) (offset address : ℕ) → address_of ranges offset ≡ Some address → All (λ r. has_address r address ≡ false) ranges → ⊥
place_in [] offset address found none = none-some address found
place_in (r ∷ rs) offset address found none =
    elim (cases_lt offset r.len) [
      | inl here ↦
          let is : r.start + offset ≡ address = same_Some _ _ (sym (place_first r rs offset here) ∙ found) in
          false≢true (sym (All-head (λ (s : Span). has_address s address ≡ false) r rs none) ∙ has_from r address (omega arith) (omega arith))
      | inr past ↦ place_in rs (offset - r.len) address (sym (place_later r rs offset past) ∙ found) (All-tail (λ (s : Span). has_address s address ≡ false) r rs none)
    ]

-- an address is a byte exactly where a range has it
pub offset_none : (ranges : List Span) (address : ℕ) → All (λ r. has_address r address ≡ false) ranges → offset_of ranges address ≡ None
offset_none [] address none = refl
offset_none (r ∷ rs) address none =
    offset_later r rs address (All-head (λ (s : Span). has_address s address ≡ false) r rs none)
    ∙ ap (option_map (λ offset. r.len + offset)) (offset_none rs address (All-tail (λ (s : Span). has_address s address ≡ false) r rs none))

pub total_from_none : (ranges : List Span) (offset : ℕ) → address_of ranges offset ≡ None → total_of ranges ≤ offset
total_from_none ranges offset none =
    elim (cases_lt offset (total_of ranges)) [
      | inl within ↦ absurd (false≢true (sym (ap is_some none) ∙ place_some ranges offset within))
      | inr past ↦ past
    ]

mapped_none : (f : ℕ → ℕ) (o : Option ℕ) → option_map f o ≡ None → o ≡ None
mapped_none f None none = refl
mapped_none f (Some x) none = absurd (none-some (f x) (sym none))

pub mapped_some : (f : ℕ → ℕ) (o : Option ℕ) (y : ℕ) → option_map f o ≡ Some y → (x : ℕ) × (o ≡ Some x) × (f x ≡ y)
mapped_some f None y some = absurd (none-some y some)
mapped_some f (Some x) y some = (x, refl, same_Some _ _ some)

pub none_from_offset : (ranges : List Span) (address : ℕ) → offset_of ranges address ≡ None → All (λ r. has_address r address ≡ false) ranges
none_from_offset [] address none = All-nil (λ (s : Span). has_address s address ≡ false)
none_from_offset (r ∷ rs) address none =
    elim (cases_Bool (has_address r address)) [
      | inl has ↦ absurd (none-some _ (sym none ∙ offset_first r rs address has))
      | inr lacks ↦ All-cons (λ (s : Span). has_address s address ≡ false) r rs lacks (none_from_offset rs address (mapped_none (λ offset. r.len + offset) (offset_of rs address) (sym (offset_later r rs address lacks) ∙ none)))
    ]

-- the byte at an address has that address
pub place-offset_of : (ranges : List Span) (address offset : ℕ) → offset_of ranges address ≡ Some offset → address_of ranges offset ≡ Some address
place-offset_of [] address offset found = absurd (none-some offset found)
place-offset_of (r ∷ rs) address offset found =
    elim (cases_Bool (has_address r address)) [
      | inl has ↦
          let is : address - r.start ≡ offset = same_Some _ _ (sym (offset_first r rs address has) ∙ found) in
          let bounds = has_bounds r address has in
          place_first r rs offset (omega arith) ∙ ap (λ (n : ℕ). Some n) (omega arith)
      | inr lacks ↦
          let later = mapped_some (λ offset. r.len + offset) (offset_of rs address) offset (sym (offset_later r rs address lacks) ∙ found) in
          let rest : offset - r.len ≡ later.0 = omega (arith, later.2) in
          place_later r rs offset (omega (arith, later.2)) ∙ ap (address_of rs) rest ∙ place-offset_of rs address later.0 later.1
    ]

-- an address is in one range at most
one_has : (r s : Span) (address : ℕ) → has_address r address ≡ true → overlap r s ≡ false → has_address s address ≡ false
one_has r s address has apart =
    elim (cases_Bool (has_address s address)) [
      | inl both ↦
          let first = has_bounds r address has in
          let second = has_bounds s address both in
          absurd (false≢true (sym apart ∙ and_from _ _ (lt-ltb r.start (s.start + s.len) (omega arith)) (lt-ltb s.start (r.start + r.len) (omega arith))))
      | inr lacks ↦ lacks
    ]

pub none_has : (r : Span) (rs : List Span) (address : ℕ) → has_address r address ≡ true → list_any (overlap r) rs ≡ false → All (λ s. has_address s address ≡ false) rs
none_has r [] address has none = All-nil (λ (s : Span). has_address s address ≡ false)
none_has r (s ∷ rs) address has none =
    let parts = or_parts (overlap r s) (list_any (overlap r) rs) none in
    All-cons (λ (q : Span). has_address q address ≡ false) s rs (one_has r s address has parts.0) (none_has r rs address has parts.1)

pub disjoint_parts : (r : Span) (rs : List Span) → is_disjoint (r ∷ rs) ≡ true → (not (list_any (overlap r) rs) ≡ true) × (is_disjoint rs ≡ true)
disjoint_parts r rs disjoint = and_parts (not (list_any (overlap r) rs)) (is_disjoint rs) disjoint

-- the address of a byte leads back to it
pub offset_of-place : (ranges : List Span) (offset address : ℕ) → is_disjoint ranges ≡ true → address_of ranges offset ≡ Some address → offset_of ranges address ≡ Some offset
offset_of-place [] offset address apart found = absurd (none-some address found)
offset_of-place (r ∷ rs) offset address apart found =
    elim (cases_lt offset r.len) [
      | inl here ↦
          let is : r.start + offset ≡ address = same_Some _ _ (sym (place_first r rs offset here) ∙ found) in
          offset_first r rs address (has_from r address (omega arith) (omega arith)) ∙ ap (λ (n : ℕ). Some n) (omega arith)
      | inr past ↦
          let found_later = sym (place_later r rs offset past) ∙ found in
          let lacks = elim (cases_Bool (has_address r address)) as (λ _. has_address r address ≡ false) [
            | inl has ↦ absurd (place_in rs (offset - r.len) address found_later (none_has r rs address has (not-true _ (disjoint_parts r rs apart).0)))
            | inr none ↦ none
          ] in
          offset_later r rs address lacks
          ∙ ap (option_map (λ n. r.len + n)) (offset_of-place rs (offset - r.len) address (disjoint_parts r rs apart).1 found_later)
          ∙ ap (λ (n : ℕ). Some n) (omega arith)
    ]

holds_from : (r : Span) (address : ℕ) → has_address r address ≡ true → Holds r address
holds_from r address has = record { from = (has_bounds r address has).0; below = (has_bounds r address has).1 }

lacks_from : (r : Span) (address : ℕ) → ¬ Holds r address → has_address r address ≡ false
lacks_from r address none = elim (cases_Bool (has_address r address)) [ inl has ↦ absurd (none (holds_from r address has)) | inr lacks ↦ lacks ]

not_held : (r : Span) (address : ℕ) → has_address r address ≡ false → ¬ Holds r address
not_held r address lacks held = false≢true (sym lacks ∙ has_from r address held.from held.below)

-- what the calls say of their answers
pub place_is_none : (ranges : List Span) (offset : ℕ) (answer : Option ℕ) → answer ≡ address_of ranges offset → IsNone answer ↔ (total_of ranges ≤ offset)
place_is_none ranges offset None is = (λ _. total_from_none ranges offset (sym is), λ _. refl)
place_is_none ranges offset (Some address) is = (λ none. absurd (false≢true (sym none)), λ past. absurd (none-some address (sym (is ∙ place_none ranges offset past))))

pub place_leads_back : (ranges : List Span) (offset : ℕ) (answer : Option ℕ) → is_disjoint ranges ≡ true → answer ≡ address_of ranges offset → IfSome answer (λ address. offset_of ranges address ≡ Some offset)
place_leads_back ranges offset None disjoint is = tt
place_leads_back ranges offset (Some address) disjoint is = offset_of-place ranges offset address disjoint (sym is)

pub offset_is_none : (ranges : List Span) (address : ℕ) (answer : Option ℕ) → answer ≡ offset_of ranges address → IsNone answer ↔ All (λ r. ¬ Holds r address) ranges
offset_is_none ranges address None is = (λ _ k d within. not_held (get_or ranges k d) address (none_from_offset ranges address (sym is) k d within), λ _. refl)
offset_is_none ranges address (Some offset) is = (λ none. absurd (false≢true (sym none)), λ lack. absurd (none-some offset (sym (is ∙ offset_none ranges address (λ k d within. lacks_from (get_or ranges k d) address (lack k d within))))))

pub offset_leads_back : (ranges : List Span) (address : ℕ) (answer : Option ℕ) → answer ≡ offset_of ranges address → IfSome answer (λ offset. address_of ranges offset ≡ Some address)
offset_leads_back ranges address None is = tt
offset_leads_back ranges address (Some offset) is = place-offset_of ranges address offset (sym is)
