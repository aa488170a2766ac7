-- What is found of a word of a file, side after side.
use Rattle.std.specs.Prelude.{◌≡◌, ◌||◌, ℕ, List}
use Rattle.std.specs.List.{list_any}
use Rattle.value_tables.specs.declared.file_values.FileValues.{FileValues}
use Rattle.value_tables.specs.Left.{FileSide}
use Rattle.value_tables.specs.Values.{cells_of, is_missing, is_past, may_be_bad, values_with}

-- what word w may be at these sides is added
pub record Adds (w : ℕ) (sides : List FileSide) (old new : FileValues) : Type 0 where
  pub missing : new.is_missing ≡ (old.is_missing || list_any is_missing sides)
  pub past : new.is_past ≡ (old.is_past || list_any is_past sides)
  pub bad : new.word.is_bad ≡ (old.word.is_bad || may_be_bad (cells_of sides))
  pub values : new.word.values.items ≡ values_with w old.word.values.items (cells_of sides)
