-- Lines of files that may be left have words, each with a value.
use Rattle.std.proofs.Common.{◌≡◌, ℕ, suc, ◌/◌, ◌≤◌, nat_lt, Bool, true, false, cond, Option, Some, None, List, [], ◌∷◌, length, slice_get, refl, subst}
use Rattle.nvm_model.specs.Cell.{Cell}
use Rattle.nvm_model.specs.Cell.Cell.{Bad, Kept}
use Rattle.nvm_model.specs.Listing.{file_name, file_of, is_named}
use Rattle.nvm_model.specs.Page.{Page, cell_of}
use Rattle.nvm_model.specs.Storage.{File, Mapping}
use Rattle.script_text.specs.Action.{Action}
use Rattle.script_text.specs.Action.Action.{PoisonFile, WeakenFile}
use Rattle.cut_places.specs.MachineModel.Commands.{meaning}
use Rattle.cut_places.specs.MachineModel.Meaning.{FilesLeft}
use Rattle.cut_places.specs.MachineModel.Meaning.FilesLeft.{Unchanged, OldOrNew, StoredInPart, SyncedInPart}
use Rattle.cut_places.specs.Durable.Durable.{AllHaveLines, HaveLines, IsLineThere}
use Rattle.cut_places.specs.Durable.Place.{is_line_present}
use Rattle.cut_places.proofs.Durable.FileThereLemmas.{lines-files_altered}
use Rattle.cut_places.proofs.Durable.PresenceLemmas.{absent_line}
use Rattle.cut_places.specs.Outcomes.Outcome.{AllHaveValues, HaveValues}
use Rattle.outcome_runs.proofs.FileValueLemmas.{files_made_have}
use Rattle.cut_places.specs.SightsSeen.Seeing.{or_zeros, seen}
use Rattle.cut_places.proofs.SightsSeen.PassLemmas.{EachUnit}
use Rattle.value_tables.specs.Left.{FileSide, file_side, files_left, of_files, side_of}
use Rattle.value_tables.specs.Left.FileSide.{NoFile, PastEnd, OfLine}
use Rattle.value_tables.specs.Listed.{HasWords, HaveOne}
use Rattle.value_tables.proofs.HistoryLemmas.{zero_has}

have_one : (words : List (List ℕ)) → ((w : ℕ) (history : List ℕ) → slice_get words w ≡ Some history → 1 ≤ length history) → HaveOne words
have_one [] each = tt
have_one (history ∷ words) each = (each 0 history refl, have_one words (λ w other is. each (suc w) other is))

-- a line as reads see it
pub seen_has : (pages : List Page) (n : ℕ) → HaveLines pages → HaveValues pages → HasWords (seen pages n)
seen_has pages n lines values = by_line (cell_of pages n) refl
  where
    present : (cell : Cell) → cell_of pages n ≡ Some cell → is_line_present pages n ≡ true
    present cell is = by_test (is_line_present pages n) refl
      where
        by_test : (b : Bool) → is_line_present pages n ≡ b → b ≡ true
        by_test true told = refl
        by_test false told = cc (absent_line pages n told, is)

    by_line : (o : Option Cell) → cell_of pages n ≡ o → HasWords (or_zeros o)
    by_line None is = zero_has
    by_line (Some Bad) is = tt
    by_line (Some (Kept weak words)) is = (
      subst IsLineThere is (lines n (present (Kept weak words) is)),
      have_one words (values n (Kept weak words) is),
    )

-- where a word is sought has words
abbrev pub SideHasWords : FileSide → Type 0
SideHasWords NoFile = Unit {0}
SideHasWords PastEnd = Unit {0}
SideHasWords (OfLine cell) = HasWords cell

module _ (name : List ℕ) (p : ℕ) where
  side_has : (files : List File) → AllHaveLines files → AllHaveValues files → SideHasWords (file_side name p files)
  side_has [] lines values = tt
  side_has (x ∷ files) lines values = by_name (is_named file_name name x) (side_has files lines.1 values.1)
    where
      by_place : (b : Bool) → SideHasWords (cond b (OfLine (seen x.pages (p / 8))) PastEnd)
      by_place true = seen_has x.pages (p / 8) lines.0 values.0
      by_place false = tt

      by_name : (b : Bool) → SideHasWords (file_side name p files) → SideHasWords (side_of p (cond b (Some x) (file_of file_name name files)))
      by_name true rest = by_place (nat_lt (p / 512) (length x.pages))
      by_name false rest = rest

  -- so have the files that a command would make
  meant_lines : (action : Action) (mappings : List Mapping) (files : List File) → AllHaveLines files → AllHaveLines ((meaning action).files mappings files)
  meant_lines (PoisonFile text offset) mappings files all = all
  meant_lines (WeakenFile text offset) mappings files all = all
  meant_lines action mappings files all = lines-files_altered action mappings files all

  both_have : (left : FilesLeft) (old new : FileSide) → SideHasWords old → SideHasWords new → EachUnit SideHasWords (of_files left old new)
  both_have Unchanged old new has had = (has, tt)
  both_have OldOrNew old new has had = (has, (had, tt))
  both_have (StoredInPart text offset bytes) old new has had = (has, (had, tt))
  both_have (SyncedInPart text spans) old new has had = (has, (had, tt))

  pub sides_have : (mappings : List Mapping) (o : Option Action) (files : List File) → AllHaveLines files → AllHaveValues files → EachUnit SideHasWords (files_left mappings o files name p)
  sides_have mappings None files lines values = (side_has files lines values, tt)
  sides_have mappings (Some action) files lines values =
      both_have ((meaning action).files_left mappings) (file_side name p files) (file_side name p ((meaning action).files mappings files)) (side_has files lines values)
      (side_has ((meaning action).files mappings files) (meant_lines action mappings files lines) (files_made_have action mappings files values))
