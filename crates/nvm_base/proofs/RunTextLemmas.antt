-- Printed runs are read back.
use Rattle.std.proofs.Common.{◌≡◌, ◌==◌, ◌||◌, ◌&&◌, ℕ, ◌+◌, ◌*◌, ◌/◌, ◌%◌, ◌^◌, ◌<◌, ◌≤◌, Bool, true, false, [], ◌∷◌, nat_lt, nat_le, Some, decimal, refl, sym, ap, arith, rules, tests}
use Rattle.std.specs.Char.{digit_value, is_ascii_digit}
use Rattle.std.specs.Fmt.{digit_glyph}
use Rattle.std.specs.List.{list_all}
use Rattle.std.proofs.lemmas.Str.{digit_value-digit_char}
use Rattle.nvm_base.specs.Data.{ByteRun, run, pair_of, item_of, run_text}
use Rattle.nvm_base.proofs.SplitLemmas.{list_all-weaker}
use Rattle.nvm_base.proofs.DecimalLemmas.{number_of-decimal, decimal-digits}

-- a digit of 16 in lower case, or `*`
abbrev pub is_item_byte : ℕ → Bool
is_item_byte c = is_ascii_digit c || nat_le 97 c && nat_le c 102 || c == 42

item_digit : (c : ℕ) → is_ascii_digit c ≡ true → is_item_byte c ≡ true
item_digit c e = rw e refl

-- a digit of 16
glyph-value : (d : ℕ) → d < 16 → digit_value (digit_glyph false d) ≡ d
glyph-value d small = digit_value-digit_char d (omega arith)

glyph-item : (d : ℕ) → d < 16 → is_item_byte (digit_glyph false d) ≡ true
glyph-item d small = go (nat_lt d 10) refl
  where
    go : (b : Bool) → nat_lt d 10 ≡ b → is_item_byte (digit_glyph false d) ≡ true
    go true e = rw (e, digit_glyph) (let low : d < 10 = search (rules, tests) in search (rules, tests))
    go false e = rw (e, digit_glyph) (let high : 10 ≤ d = search (rules, tests) in search (rules, tests))

-- two digits
pair_of-glyphs : (byte : ℕ) → byte < 256 → pair_of (digit_glyph false (byte / 16)) (digit_glyph false (byte % 16)) ≡ Some byte
pair_of-glyphs byte small =
    let high : byte / 16 < 16 = omega arith in
    let low : byte % 16 < 16 = omega arith in
    let first : nat_lt (byte / 16) 16 ≡ true = search (rules, tests) in
    let second : nat_lt (byte % 16) 16 ≡ true = search (rules, tests) in
    let sum : 16 * (byte / 16) + byte % 16 ≡ byte = omega arith in
    rw (glyph-value (byte / 16) high, glyph-value (byte % 16) low, first, second) (ap Some sum)

-- a run, its byte and count in range
pub record IsProper (r : ByteRun) : Type 0 where
  pub byte : r.byte < 256
  pub some : 1 ≤ r.count

run-is : (r : ByteRun) → r.count ≡ 1 → run r.byte 1 ≡ r ∷ []
run-is r e = ap (λ n. run r.byte n) (sym e)

pub item_of-run_text : (r : ByteRun) → IsProper r → r.count < 2 ^ 32 → item_of (run_text r) ≡ Some (r ∷ [])
item_of-run_text r proper small = go (r.count == 1) refl
  where
    go : (b : Bool) → (r.count == 1) ≡ b → item_of (run_text r) ≡ Some (r ∷ [])
    go true e =
        let one : r.count ≡ 1 = search (rules, tests) in
        rw (e, run_text, pair_of-glyphs r.byte proper.byte) (ap Some (run-is r one))
    go false e =
        let some : nat_lt 0 r.count ≡ true = let low = proper.some in search (rules, tests) in
        rw (e, run_text, pair_of-glyphs r.byte proper.byte, number_of-decimal r.count small, some) refl

pub run_text-items : (r : ByteRun) → IsProper r → r.count < 2 ^ 32 → list_all is_item_byte (run_text r) ≡ true
run_text-items r proper small =
    let high = glyph-item (r.byte / 16) (let b = proper.byte in omega arith) in
    let low = glyph-item (r.byte % 16) (omega arith) in
    go (r.count == 1) refl high low
  where
    go : (b : Bool) → (r.count == 1) ≡ b → is_item_byte (digit_glyph false (r.byte / 16)) ≡ true → is_item_byte (digit_glyph false (r.byte % 16)) ≡ true → list_all is_item_byte (run_text r) ≡ true
    go true e high low = rw (e, run_text, high, low) refl
    go false e high low = rw (e, run_text, high, low) (list_all-weaker is_ascii_digit is_item_byte item_digit (decimal r.count) (decimal-digits r.count (omega arith)))
