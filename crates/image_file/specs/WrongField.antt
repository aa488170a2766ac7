-- The first field of bytes by which they are no image.
use Rattle.std.specs.Prelude.{◌+◌, ◌&&◌, ℕ, zero, suc, not, List, [], ◌∷◌, length, drop, nat_eq, nat_le, nat_lt, Option, Some, None, if◌then◌else◌}
use Rattle.std.specs.List.{starts_with}
use Rattle.std.specs.Option.{option_or}
use Rattle.byteorder.specs.Endian.{little_number}
use Rattle.image_file.specs.Text.{image_magic}
use Rattle.image_file.specs.declared.Units.{Units}
use Rattle.image_file.specs.declared.Units.TheVariants.{Words, All}

-- how many bytes follow the tag of a healthy line, of a weak and of a bad one, and any other, which may not stand in an image
abbrev pub tag_len : ℕ → Option ℕ
tag_len zero = Some 64
tag_len (suc zero) = Some 64
tag_len (suc (suc zero)) = Some 0
tag_len (suc (suc (suc tag))) = None

-- where the first wrong field of so many lines begins, in the bytes from this offset on
unfoldable pub wrong_in_lines : ℕ → ℕ → List ℕ → Option ℕ
wrong_in_lines zero offset [] = None
wrong_in_lines zero offset (byte ∷ bytes) = Some offset
wrong_in_lines (suc lines) offset [] = Some offset
wrong_in_lines (suc lines) offset (tag ∷ bytes) = elim (tag_len tag) [
  | None ↦ Some offset
  | Some len ↦ if nat_lt (length bytes) len then Some (offset + 1) else wrong_in_lines lines (offset + 1 + len) (drop len bytes)
]

-- the number in the eight bytes at an offset, where these are there and it is within two bounds
abbrev pub field_number : List ℕ → ℕ → ℕ → ℕ → Option ℕ
field_number bytes offset least most =
    if nat_le (offset + 8) (length bytes) && nat_le least (little_number 8 (drop offset bytes)) && nat_le (little_number 8 (drop offset bytes)) most
    then Some (little_number 8 (drop offset bytes)) else None

-- the unit in the eight bytes at offset 8, where the reader takes it
abbrev pub unit_number : Units → List ℕ → Option ℕ
unit_number Words bytes = field_number bytes 8 8 8
unit_number All bytes = option_or (field_number bytes 8 8 8) (field_number bytes 8 1 1)

-- where the first field begins that is missing, cut short or not allowed, or the first byte past the end
unfoldable pub first_wrong_offset : Units → List ℕ → Option ℕ
first_wrong_offset units bytes =
    if not (starts_with nat_eq bytes image_magic) then Some 0
    else elim (unit_number units bytes) [
      | None ↦ Some 8
      | Some unit ↦ elim (field_number bytes 16 1 118016) [
        | None ↦ Some 16
        | Some lines ↦ wrong_in_lines lines 24 (drop 24 bytes)
      ]
    ]
