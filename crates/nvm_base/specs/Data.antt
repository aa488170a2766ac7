-- DATA: bytes in text, as runs of equal bytes.
use Rattle.std.specs.Prelude.{ℕ, ◌+◌, ◌*◌, ◌/◌, ◌%◌, true, false, ◌&&◌, ◌==◌, nat_lt, nat_le, List, [], ◌∷◌, ◌++◌, map, replicate, Option, Some, None, option_map, Result, Ok, Err, if◌then◌else◌, decimal}
use Rattle.std.specs.Char.{digit_value}
use Rattle.std.specs.Fmt.{digit_glyph}
use Rattle.std.specs.List.{slice_split, join_with_byte}
use Rattle.nvm_base.specs.Numbers.{number_of}
use Rattle.nvm_base.specs.declared.reading.TextFault.{TextFault}
use Rattle.nvm_base.specs.declared.reading.TextFault.TheVariants.{Bad, TooLong}

-- so many equal bytes
pub record ByteRun : Type 0 where
  pub byte : ℕ
  pub count : ℕ

-- how many bytes the runs have together
abbrev pub byte_count : List ByteRun → ℕ
byte_count [] = 0
byte_count (r ∷ rs) = r.count + byte_count rs

-- their bytes
abbrev pub spelled : List ByteRun → List ℕ
spelled [] = []
spelled (r ∷ rs) = replicate r.count r.byte ++ spelled rs

-- one after the other, where both are there
abbrev pub followed : Option (List ByteRun) → Option (List ByteRun) → Option (List ByteRun)
followed None more = None
followed (Some rs) None = None
followed (Some rs) (Some more) = Some (rs ++ more)

-- the run of that byte and length
abbrev pub run : ℕ → ℕ → List ByteRun
run byte count = record { byte = byte; count = count } ∷ []

-- the byte of two hexadecimal digits
abbrev pub pair_of : ℕ → ℕ → Option ℕ
pair_of high low =
    if nat_lt (digit_value high) 16 && nat_lt (digit_value low) 16 then Some (16 * digit_value high + digit_value low) else None

-- pairs of digits, each a byte
abbrev pub pairs_of : List ℕ → Option (List ByteRun)
pairs_of [] = Some []
pairs_of (a ∷ []) = None
pairs_of (a ∷ b ∷ text) = followed (option_map (λ byte. run byte 1) (pair_of a b)) (pairs_of text)

-- a byte and how often it comes, at least once
abbrev pub repeated : Option ℕ → Option ℕ → Option (List ByteRun)
repeated None count = None
repeated (Some byte) None = None
repeated (Some byte) (Some count) = if nat_lt 0 count then Some (run byte count) else None

-- an item of DATA: pairs, or one pair, `*` and a number
abbrev pub item_of : List ℕ → Option (List ByteRun)
item_of [] = None
item_of (a ∷ []) = None
item_of (a ∷ b ∷ []) = pairs_of (a ∷ b ∷ [])
item_of (a ∷ b ∷ c ∷ text) =
    elim (c == 42) [ true ↦ repeated (pair_of a b) (number_of text) | false ↦ pairs_of (a ∷ b ∷ c ∷ text) ]

-- items, one after the other
abbrev pub items_of : List (List ℕ) → Option (List ByteRun)
items_of [] = Some []
items_of (item ∷ items) = followed (item_of item) (items_of items)

-- what DATA spells, as runs: items between commas; None where the text is no DATA
unfoldable pub runs_of : List ℕ → Option (List ByteRun)
runs_of text = items_of (slice_split (λ c. c == 44) text)

-- the bytes that DATA spells
unfoldable pub data_of : List ℕ → Option (List ℕ)
data_of text = option_map spelled (runs_of text)

-- the bytes of the runs where they are at most so many, and else why not
abbrev pub within : ℕ → Option (List ByteRun) → Result (List ℕ) TextFault
within room None = Err Bad
within room (Some runs) = elim (nat_le (byte_count runs) room) [ true ↦ Ok (spelled runs) | false ↦ Err TooLong ]

-- the bytes that DATA spells where they are at most so many, and else why not
unfoldable pub data_within : ℕ → List ℕ → Result (List ℕ) TextFault
data_within room text = within room (runs_of text)

-- the runs with one more byte in front
abbrev pub onto : ℕ → List ByteRun → List ByteRun
onto byte [] = run byte 1
onto byte (r ∷ rs) =
    if byte == r.byte then record r { count = r.count + 1 } ∷ rs else record { byte = byte; count = 1 } ∷ r ∷ rs

-- the maximal runs of equal bytes
abbrev pub runs_in : List ℕ → List ByteRun
runs_in [] = []
runs_in (byte ∷ bytes) = onto byte (runs_in bytes)

-- a byte as two digits
abbrev pub pair_text : ℕ → List ℕ
pair_text byte = digit_glyph false (byte / 16) ∷ digit_glyph false (byte % 16) ∷ []

-- a run as printed: `HH`, or `HH*N` from two bytes on
abbrev pub run_text : ByteRun → List ℕ
run_text r = pair_text r.byte ++ (if r.count == 1 then [] else 42 ∷ decimal r.count)

-- bytes as printed DATA
unfoldable pub data_text : List ℕ → List ℕ
data_text bytes = join_with_byte 44 (map run_text (runs_in bytes))
