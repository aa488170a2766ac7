-- What has a choice where the power goes: each word and each block whose row in a table has more than one value there, and each file that
-- may be there or not, or of different lengths.
use Rattle.std.specs.Prelude.{◌+◌, ◌*◌, ◌/◌, ◌%◌, ◌&&◌, ℕ, Bool, false, not, List, length, nat_lt, is_some, Option, Some, None, option_map, if◌then◌else◌}
use Rattle.std.specs.List.{list_any}
use Rattle.nvm_model.specs.Cell.{Cell}
use Rattle.nvm_model.specs.Listing.{file_name, file_of}
use Rattle.nvm_model.specs.Numbered.{list_from}
use Rattle.nvm_model.specs.Storage.{File, Mapping}
use Rattle.script_text.specs.Action.{Action}
use Rattle.cut_places.specs.FileMixing.{way_left}
use Rattle.cut_places.specs.MachineModel.Commands.{meaning}
use Rattle.cut_places.specs.MachineModel.Machine.{Machine}
use Rattle.cut_places.specs.MachineModel.Meaning.{FilesLeft}
use Rattle.value_tables.specs.declared.shown.Shown.{Shown}
use Rattle.value_tables.specs.declared.shown.Shown.TheVariants.{Block, FileWord, Refuses, Word}
use Rattle.value_tables.specs.Left.{FileSide, Found, found}
use Rattle.witnesses.specs.Sizes.{same_pages}
use Rattle.value_tables.specs.Values.{block_values, cells_of, is_missing, is_past, may_be_bad, word_values}

-- one, where it is so
abbrev pub one_if : Bool → ℕ
one_if is = if is then 1 else 0

-- how many values a word has: those of its lines, and `poison`; of a file `missing` and `range` too
abbrev pub word_count : ℕ → List Cell → ℕ
word_count w cells = one_if (may_be_bad cells) + length (word_values w cells)

abbrev pub side_count : ℕ → List FileSide → ℕ
side_count w sides = one_if (list_any is_missing sides) + (one_if (list_any is_past sides) + word_count w (cells_of sides))

-- and a row
abbrev pub value_count : Found → Shown → ℕ
value_count may (Word p) = word_count (p % 8) (may.lines (p / 8))
value_count may (Block b) = length (block_values (may.blocks b))
value_count may (FileWord name p) = side_count (p % 8) (may.files name p)
value_count may (Refuses why) = 1

abbrev pub has_choice : Machine → Shown → Bool
has_choice off shown = nat_lt 1 (value_count (found off) shown)

-- which of the eight words of line n have one, and of a line of a file
abbrev pub line_choices : Machine → ℕ → List Bool
line_choices off n = list_from (λ w. has_choice off (Word (8 * n + w))) 0 8

abbrev pub file_line_choices : Machine → List ℕ × ℕ → List Bool
file_line_choices off line = list_from (λ w. has_choice off (FileWord line.0 (8 * line.1 + w))) 0 8

-- how many pages the file of a name has, None where there is none
abbrev pub pages_of : List ℕ → List File → Option ℕ
pages_of name files = option_map (λ (file : File). length file.pages) (file_of file_name name files)

-- Whether it may be there or not, or of different lengths: the old files and the new ones don't have it alike, where a cut may leave the new.
abbrev pub is_mixed : FilesLeft → Bool
is_mixed left = is_some (way_left left)

abbrev pub differs_by : List Mapping → List File → List ℕ → Action → Bool
differs_by mappings files name action =
    is_mixed ((meaning action).files_left mappings) && not (same_pages (pages_of name files) (pages_of name ((meaning action).files mappings files)))

abbrev pub size_differs : List Mapping → List File → List ℕ → Option Action → Bool
size_differs mappings files name None = false
size_differs mappings files name (Some action) = differs_by mappings files name action

abbrev pub size_choice : Machine → List ℕ → Bool
size_choice off name = size_differs off.mappings off.files name off.interrupted
