-- Laws of images and their bytes, and worked images.
use Rattle.std.specs.Prelude.{◌≡◌, ◌+◌, ℕ, List, [], ◌∷◌, ◌++◌, take, drop, replicate, Some, None}
use Rattle.line_device.specs.declared.line.LineState.TheVariants.{Healthy, Weak, Bad}
use Rattle.image_file.specs.Text.{Snapshot, TakesUnit, image_magic, image_text, number_text, IsSnapshot}
use Rattle.image_file.specs.WrongField.{first_wrong_offset}
use Rattle.image_file.specs.declared.Units.{Units}
use Rattle.image_file.specs.declared.Units.TheVariants.{Words, All}

-- an image of a unit that is taken, which these bytes spell
pub record IsSpelled (units : Units) (bytes : List ℕ) : Type 0 where
  pub m : Snapshot
  pub right : IsSnapshot m
  pub taken : TakesUnit units m.unit
  pub is : bytes ≡ image_text m

-- an image of one line of zeros
abbrev pub one_line : List ℕ
one_line = image_text (record { unit = 8; lines = Healthy (replicate 64 0) ∷ [] })

-- an image of a bad line, a weak one and a healthy one
abbrev pub three_lines : List ℕ
three_lines = image_text (record { unit = 8; lines = Bad ∷ Weak (replicate 64 0) ∷ Healthy (replicate 64 0) ∷ [] })

-- bytes with another one at a place
abbrev pub with_byte : ℕ → ℕ → List ℕ → List ℕ
with_byte place byte bytes = take place bytes ++ byte ∷ drop (place + 1) bytes

-- where images of one line and of three are wrong once they are changed
pub record ImageRows (units : Units) : Type 0 where
  pub right : first_wrong_offset units one_line ≡ None
  pub nothing : first_wrong_offset units [] ≡ Some 0
  pub first_byte : first_wrong_offset units (with_byte 0 0 one_line) ≡ Some 0
  pub magic_cut : first_wrong_offset units (take 7 one_line) ≡ Some 0
  pub no_unit : first_wrong_offset units (take 8 one_line) ≡ Some 8
  pub unit_of_0 : first_wrong_offset units (with_byte 8 0 one_line) ≡ Some 8
  pub unit_of_2 : first_wrong_offset units (with_byte 8 2 one_line) ≡ Some 8
  pub unit_of_9 : first_wrong_offset units (with_byte 8 9 one_line) ≡ Some 8
  pub large_unit : first_wrong_offset units (with_byte 15 1 one_line) ≡ Some 8
  pub count_cut : first_wrong_offset units (take 23 one_line) ≡ Some 16
  pub no_lines : first_wrong_offset units (with_byte 16 0 one_line) ≡ Some 16
  pub too_many_lines : first_wrong_offset units (with_byte 18 2 one_line) ≡ Some 16
  pub no_tag : first_wrong_offset units (take 24 one_line) ≡ Some 24
  pub tag_of_3 : first_wrong_offset units (with_byte 24 3 one_line) ≡ Some 24
  pub no_bytes : first_wrong_offset units (take 25 one_line) ≡ Some 25
  pub last_byte_cut : first_wrong_offset units (take 88 one_line) ≡ Some 25
  pub weak : first_wrong_offset units (with_byte 24 1 one_line) ≡ None
  pub weak_without_bytes : first_wrong_offset units (take 25 (with_byte 24 1 one_line)) ≡ Some 25
  pub weak_cut_short : first_wrong_offset units (take 88 (with_byte 24 1 one_line)) ≡ Some 25
  pub bad : first_wrong_offset units (take 25 (with_byte 24 2 one_line)) ≡ None
  pub bad_with_a_byte : first_wrong_offset units (take 26 (with_byte 24 2 one_line)) ≡ Some 25
  pub bad_with_bytes : first_wrong_offset units (with_byte 24 2 one_line) ≡ Some 25
  pub second_line_missing : first_wrong_offset units (with_byte 16 2 one_line) ≡ Some 89
  pub byte_too_many : first_wrong_offset units (one_line ++ 0 ∷ []) ≡ Some 89
  pub all_three : first_wrong_offset units three_lines ≡ None
  pub second_of_three_missing : first_wrong_offset units (take 25 three_lines) ≡ Some 25
  pub second_of_three_cut : first_wrong_offset units (take 89 three_lines) ≡ Some 26
  pub second_of_three_bad : first_wrong_offset units (with_byte 25 2 three_lines) ≡ Some 91
  pub third_of_three_missing : first_wrong_offset units (take 90 three_lines) ≡ Some 90
  pub third_of_three_cut : first_wrong_offset units (take 154 three_lines) ≡ Some 91
  pub tag_of_255 : first_wrong_offset units (with_byte 90 255 three_lines) ≡ Some 90
  pub byte_behind_three : first_wrong_offset units (three_lines ++ 2 ∷ []) ≡ Some 155

-- the same image of one line, of unit 1
abbrev pub byte_line : List ℕ
byte_line = image_text (record { unit = 1; lines = Healthy (replicate 64 0) ∷ [] })

-- where it is wrong for a reader that takes unit 1; one that does not finds it wrong at the unit, whatever follows
pub record UnitRows : Type 0 where
  pub right : first_wrong_offset All byte_line ≡ None
  pub unit_cut : first_wrong_offset All (take 15 byte_line) ≡ Some 8
  pub large_unit : first_wrong_offset All (with_byte 9 1 byte_line) ≡ Some 8
  pub no_count : first_wrong_offset All (take 16 byte_line) ≡ Some 16
  pub byte_too_many : first_wrong_offset All (byte_line ++ 0 ∷ []) ≡ Some 89
  pub not_taken : first_wrong_offset Words byte_line ≡ Some 8
  pub not_with_any : (rest : List ℕ) → first_wrong_offset Words (image_magic ++ number_text 1 ++ rest) ≡ Some 8
