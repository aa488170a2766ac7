-- An image as a row of fields, and where bytes leave such rows.
use Rattle.std.specs.Prelude.{◌≡◌, ℕ, List, [], ◌∷◌, ◌++◌, length}
use Rattle.std.specs.List.{concat, flat_map}
use Rattle.line_device.specs.declared.line.LineState.{LineState}
use Rattle.line_device.specs.declared.line.LineState.TheVariants.{Healthy, Weak, Bad}
use Rattle.image_file.specs.Text.{Snapshot, IsSnapshot, TakesUnit, image_magic, number_text}
use Rattle.image_file.specs.declared.Units.{Units}

-- a line's tag and its bytes
abbrev pub line_fields : LineState → List (List ℕ)
line_fields (Healthy bytes) = (0 ∷ []) ∷ bytes ∷ []
line_fields (Weak bytes) = (1 ∷ []) ∷ bytes ∷ []
line_fields Bad = (2 ∷ []) ∷ []

abbrev pub image_fields : Snapshot → List (List ℕ)
image_fields m = image_magic ∷ number_text m.unit ∷ number_text (length m.lines) ∷ flat_map line_fields m.lines

-- some image of a unit that is taken has these as its first fields
pub record BeginsImage (units : Units) (fields : List (List ℕ)) : Type 0 where
  pub m : Snapshot
  pub right : IsSnapshot m
  pub taken : TakesUnit units m.unit
  pub more : List (List ℕ)
  pub is : image_fields m ≡ fields ++ more

-- Up to the offset the bytes are first fields of an image, and they go on with no field by which these would be so again.
pub record IsFirstWrong (units : Units) (bytes : List ℕ) (offset : ℕ) : Type 0 where
  pub fields : List (List ℕ)
  pub rest : List ℕ
  pub parts : bytes ≡ concat fields ++ rest
  pub here : offset ≡ length (concat fields)
  pub begun : BeginsImage units fields
  pub ended : (field after : List ℕ) → rest ≡ field ++ after → BeginsImage units (fields ++ field ∷ []) → ⊥
