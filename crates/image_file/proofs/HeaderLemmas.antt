-- The fields before the lines.
use Rattle.std.proofs.Common.{◌≡◌, ℕ, ◌+◌, ◌≤◌, ◌&&◌, Bool, true, false, not, nat_eq, nat_le, List, ◌++◌, length, take, drop, Option, Some, None, Ok, if◌then◌else◌, refl, sym, ap, ◌∙◌, arith, inl, inr}
use Rattle.std.specs.Int.{w64, from_le_bytes}
use Rattle.std.specs.List.{starts_with}
use Rattle.std.proofs.lemmas.Bool.{cases_lt, leb-true}
use Rattle.std.proofs.lemmas.Nat.{le_bytes_8}
use Rattle.std.proofs.lemmas.List.{take-append-drop, length-take, length-drop, drop-drop, get_or-drop, get_or-take, get_or_past}
use Rattle.line_device.specs.Panel.{IsUnit}
use Rattle.byteorder.specs.Endian.{little_number}
use Rattle.byteorder.specs.Numbers.{little_from-take}
use Rattle.image_file.specs.declared.Units.{Units}
use Rattle.image_file.specs.declared.Units.TheVariants.{Words, All}
use Rattle.image_file.specs.Text.{AreFileBytes, TakesUnit, image_head, image_magic, image_text, line_text, number_text}
use Rattle.image_file.specs.WrongField.{field_number, first_wrong_offset, unit_number, wrong_in_lines}
use Rattle.image_file.specs.Laws.{IsSpelled}
use Rattle.image_file.proofs.LineLemmas.{lines_lined}
use Rattle.std.specs.List.{flat_map}
use Rattle.image_file.specs.Results.{ReadsHead}
use Rattle.std.specs.Option.{option_or}
use Rattle.std.proofs.lemmas.Slice.Eq.{bytes_eq-Decides}

fit-drop : (n : ℕ) (bytes : List ℕ) → AreFileBytes bytes → AreFileBytes (drop n bytes)
fit-drop n bytes fit i = rw get_or-drop (fit (n + i))

fit-take : (n : ℕ) (bytes : List ℕ) → AreFileBytes bytes → AreFileBytes (take n bytes)
fit-take n bytes fit i =
    elim (cases_lt i n) [
      | inl lt ↦ rw (get_or-take n bytes i 0 lt) (fit i)
      | inr le ↦ rw (get_or_past (take n bytes) i 0 (omega (arith, length-take n bytes))) (omega arith)
    ]

number_is : (bytes : List ℕ) → little_number 8 bytes ≡ from_le_bytes w64 bytes
number_is bytes = omega arith

-- eight bytes are the text of their number
number_back : (bytes : List ℕ) → AreFileBytes bytes → 8 ≤ length bytes → take 8 bytes ≡ number_text (little_number 8 bytes)
number_back bytes fit long =
    sym (le_bytes_8 (take 8 bytes) (little_number 8 bytes) (omega (arith, length-take 8 bytes)) (fit-take 8 bytes fit) (sym (little_from-take 0 8 8 bytes (omega arith)) ∙ number_is (take 8 bytes)))

pub record FieldIs (bytes : List ℕ) (offset least most n : ℕ) : Type 0 where
  pub there : offset + 8 ≤ length bytes
  pub above : least ≤ n
  pub below : n ≤ most
  pub number : little_number 8 (drop offset bytes) ≡ n

pub field_is : (bytes : List ℕ) (offset least most n : ℕ) → field_number bytes offset least most ≡ Some n → FieldIs bytes offset least most n
field_is bytes offset least most n e = go (nat_le (offset + 8) (length bytes)) (nat_le least number) (nat_le number most) refl refl refl e
  where
    number : ℕ
    number = little_number 8 (drop offset bytes)

    go : (a b c : Bool) → nat_le (offset + 8) (length bytes) ≡ a → nat_le least number ≡ b → nat_le number most ≡ c → (if a && b && c then Some number else None) ≡ Some n → FieldIs bytes offset least most n
    go true true true p q r e = let same : number ≡ n = cc in record { there = leb-true _ _ p; above = rw (← same) (leb-true _ _ q); below = rw (← same) (leb-true _ _ r); number = same }
    go true true false p q r e = absurd (cc)
    go true false c p q r e = absurd (cc)
    go false b c p q r e = absurd (cc)

-- units that are taken are units
pub taken_known : (units : Units) (unit : ℕ) → TakesUnit units unit → IsUnit unit
taken_known Words unit taken = inl taken
taken_known All unit taken = taken

pub eight_taken : (units : Units) → TakesUnit units 8
eight_taken Words = refl
eight_taken All = inl refl

-- the unit is in the second eight bytes, and is taken
pub record UnitIs (units : Units) (bytes : List ℕ) (unit : ℕ) : Type 0 where
  pub there : 16 ≤ length bytes
  pub number : little_number 8 (drop 8 bytes) ≡ unit
  pub taken : TakesUnit units unit

pub unit_found : (units : Units) (bytes : List ℕ) (unit : ℕ) → unit_number units bytes ≡ Some unit → UnitIs units bytes unit
unit_found Words bytes unit e =
    let at8 = field_is bytes 8 8 8 unit e in
    record { there = omega (arith, at8.there); number = at8.number; taken = omega (arith, at8.above, at8.below) }
unit_found All bytes unit e = go (field_number bytes 8 8 8) refl e
  where
    go : (o : Option ℕ) → field_number bytes 8 8 8 ≡ o → option_or o (field_number bytes 8 1 1) ≡ Some unit → UnitIs All bytes unit
    go None p e =
        let at8 = field_is bytes 8 1 1 unit e in
        record { there = omega (arith, at8.there); number = at8.number; taken = inr (omega (arith, at8.above, at8.below)) }
    go (Some n) p e =
        let at8 = field_is bytes 8 8 8 unit (p ∙ e) in
        record { there = omega (arith, at8.there); number = at8.number; taken = inl (omega (arith, at8.above, at8.below)) }

-- the second eight bytes
pub unit_is : (units : Units) (bytes : List ℕ) (unit : ℕ) → AreFileBytes bytes → UnitIs units bytes unit → take 8 (drop 8 bytes) ≡ number_text unit
unit_is units bytes unit fit u =
    number_back (drop 8 bytes) (fit-drop 8 bytes fit) (omega (arith, u.there, length-drop 8 bytes)) ∙ ap number_text u.number

-- what the first 24 bytes are
head_is : (units : Units) (bytes : List ℕ) (unit lines : ℕ) → AreFileBytes bytes → take 8 bytes ≡ image_magic → UnitIs units bytes unit → FieldIs bytes 16 1 118016 lines → bytes ≡ image_head unit lines ++ drop 24 bytes
head_is units bytes unit lines fit magic u at16 =
    let second : take 8 (drop 8 bytes) ≡ number_text unit = unit_is units bytes unit fit u in
    let third : take 8 (drop 16 bytes) ≡ number_text lines = number_back (drop 16 bytes) (fit-drop 16 bytes fit) (omega (arith, at16.there, length-drop 16 bytes)) ∙ ap number_text at16.number in
    sym (take-append-drop 8 bytes) ∙ ap (λ t. t ++ drop 8 bytes) magic
    ∙ ap (λ t. image_magic ++ t) (sym (take-append-drop 8 (drop 8 bytes)) ∙ ap (λ t. t ++ drop 8 (drop 8 bytes)) second)
    ∙ ap (λ t. image_magic ++ (number_text unit ++ t)) (drop-drop 8 8 bytes ∙ sym (take-append-drop 8 (drop 16 bytes)) ∙ ap (λ t. t ++ drop 8 (drop 16 bytes)) third ∙ ap (λ t. number_text lines ++ t) (drop-drop 8 16 bytes))

-- a right header leaves what is wrong to the lines
pub head_read : (units : Units) (bytes : List ℕ) (unit lines : ℕ) → AreFileBytes bytes → starts_with nat_eq bytes image_magic ≡ true → unit_number units bytes ≡ Some unit → field_number bytes 16 1 118016 ≡ Some lines
    → ReadsHead units bytes (Ok (unit, lines))
unfolding first_wrong_offset
head_read units bytes unit lines fit magic e8 e16 =
    let u = unit_found units bytes unit e8 in
    let at16 = field_is bytes 16 1 118016 lines e16 in
    let same : take 8 bytes ≡ image_magic = sym ((bytes_eq-Decides image_magic (take 8 bytes)).0 magic) in
    (u.taken, (at16.above, at16.below), at16.there, head_is units bytes unit lines fit same u at16, rw (magic, e8, e16) refl)

-- what is wrong, by the three fields before the lines
abbrev pub wrong_by : Bool → Option ℕ → Option ℕ → List ℕ → Option ℕ
wrong_by magic unit lines bytes =
    if not magic then Some 0
    else elim unit [ None ↦ Some 8 | Some u ↦ elim lines [ None ↦ Some 16 | Some n ↦ wrong_in_lines n 24 (drop 24 bytes) ] ]

-- bytes of which nothing is wrong are an image's
pub spelled : (units : Units) (bytes : List ℕ) → AreFileBytes bytes → first_wrong_offset units bytes ≡ None → IsSpelled units bytes
unfolding first_wrong_offset image_text
spelled units bytes fit e = go (starts_with nat_eq bytes image_magic) (unit_number units bytes) (field_number bytes 16 1 118016) refl refl refl e
  where
    go : (magic : Bool) (unit lines : Option ℕ) → starts_with nat_eq bytes image_magic ≡ magic → unit_number units bytes ≡ unit → field_number bytes 16 1 118016 ≡ lines
        → wrong_by magic unit lines bytes ≡ None → IsSpelled units bytes
    go false unit lines p q r e = absurd (cc)
    go true None lines p q r e = absurd (cc)
    go true (Some u) None p q r e = absurd (cc)
    go true (Some u) (Some n) p q r e =
        let read = head_read units bytes u n fit p q r in
        let l = lines_lined n 24 (drop 24 bytes) e in
        record {
          m = record { unit = u; lines = l.all };
          right = record { unit = taken_known units u read.0; count = rw l.count read.1; whole = l.whole };
          taken = read.0;
          is = read.3 ∙ ap (λ t. image_head u n ++ t) l.is ∙ ap (λ k. image_head u k ++ flat_map line_text l.all) (sym l.count);
        }
