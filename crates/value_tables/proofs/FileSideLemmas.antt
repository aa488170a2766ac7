-- What is held of words of files is what may be left of them where a cut falls.
use Rattle.std.proofs.Common.{◌≡◌, ℕ, ◌/◌, ◌==◌, ◌||◌, nat_lt, Bool, true, false, cond, Option, Some, None, option_map, List, [], ◌∷◌, ◌++◌, length, map, refl, sym, ap, ◌∙◌}
use Rattle.std.specs.List.{find}
use Rattle.std.specs.Str.{bytes_eq}
use Rattle.std.proofs.lemmas.Bool.{eqb-true}
use Rattle.nvm_model.specs.Cell.{Cell}
use Rattle.nvm_model.specs.Listing.{AreAlike, file_name, file_of, is_named}
use Rattle.nvm_model.specs.Storage.{File}
use Rattle.script_text.specs.Action.{Action}
use Rattle.cut_places.specs.MachineModel.Commands.{refusal, while_interrupted}
use Rattle.cut_places.specs.MachineModel.Machine.{Machine}
use Rattle.cut_places.specs.MachineModel.Meaning.{FilesLeft}
use Rattle.cut_places.specs.MachineModel.Meaning.FilesLeft.{Unchanged, OldOrNew, StoredInPart, SyncedInPart}
use Rattle.cut_places.specs.Durable.Durable.{IsComplete}
use Rattle.cut_places.specs.SightsSeen.Seeing.{seen}
use Rattle.cut_places.specs.Sights.{files_once_done}
use Rattle.cut_places.specs.declared.line.FileLine.{FileLine}
use Rattle.cut_places.specs.FileChanges.{FilesChange, files_changed, left_by}
use Rattle.cut_places.specs.FileCommands.{files_change}
use Rattle.cut_places.specs.FileLines.{line_held}
use Rattle.cut_places.specs.Maps.{uncopied}
use Rattle.cut_places.specs.SeesFiles.{AreLines, SeesFile, SeesFiles, is_held, line_numbers}
use Rattle.cut_places.specs.FilesState.{FileState, FilesState, files_after, name_seen}
use Rattle.cut_places.proofs.CommandLemmas.{command_follows}
use Rattle.cut_places.proofs.HeldLemmas.{files_follow}
use Rattle.cut_places.proofs.LeftLemmas.{left_same}
use Rattle.value_tables.specs.Left.{file_left, file_side, files_left, of_files, side_of}
use Rattle.value_tables.specs.Left.FileSide.{PastEnd, OfLine}
use Rattle.value_tables.specs.Sides.{AreFilesLeft, new_side, side_at, side_held, side_in, where_files_mixed}

-- a line that is held
line_found : (f : ℕ → Cell) (lines : List FileLine) (n : ℕ) → AreLines f lines → is_held (line_numbers lines) n ≡ true → line_held n lines ≡ Some (f n)
line_found f [] n are held = cc held
line_found f (line ∷ lines) n are held = by_number (line.number == n) refl held (line_found f lines n are.1)
  where
    by_number : (b : Bool) → (line.number == n) ≡ b → (b || is_held (line_numbers lines) n) ≡ true → (is_held (line_numbers lines) n ≡ true → line_held n lines ≡ Some (f n))
        → option_map (λ (other : FileLine). other.line) (cond b (Some line) (find (λ (other : FileLine). other.number == n) lines)) ≡ Some (f n)
    by_number true is any rest = ap Some (are.0 ∙ ap f (eqb-true line.number n is))
    by_number false is any rest = rest any

module _ (numbers : List ℕ) (name : List ℕ) (p : ℕ) (held : is_held numbers (p / 8) ≡ true) where
  -- word p of a file
  side_found : (x : FileState) (y : File) → SeesFile numbers x y → side_held p (Some x) ≡ side_of p (Some y) ∷ []
  side_found x y sees =
      ap (λ n. cond (nat_lt (p / 512) n) (side_in (line_held (p / 8) x.lines)) (PastEnd ∷ [])) sees.pages
      ∙ ap (λ o. cond (nat_lt (p / 512) (length y.pages)) (side_in o) (PastEnd ∷ []))
      (line_found (seen y.pages) x.lines (p / 8) sees.lines (ap (λ ns. is_held ns (p / 8)) sees.held ∙ held))
      ∙ by_place (nat_lt (p / 512) (length y.pages))
    where
      by_place : (b : Bool) → cond b (OfLine (seen y.pages (p / 8)) ∷ []) (PastEnd ∷ []) ≡ cond b (OfLine (seen y.pages (p / 8))) PastEnd ∷ []
      by_place true = refl
      by_place false = refl

  -- and of the file of a name
  sides_found : (kept : List FileState) (files : List File) → AreAlike name_seen file_name (SeesFile numbers) kept files → side_held p (file_of name_seen name kept) ≡ file_side name p files ∷ []
  sides_found [] [] alike = refl
  sides_found [] (y ∷ files) alike = absurd alike
  sides_found (x ∷ kept) [] alike = absurd alike
  sides_found (x ∷ kept) (y ∷ files) alike =
      ap (λ b. side_held p (cond b (Some x) (file_of name_seen name kept))) (ap (λ text. bytes_eq text name) alike.0)
      ∙ by_name (is_named file_name name y) (sides_found kept files alike.2)
    where
      by_name : (b : Bool) → side_held p (file_of name_seen name kept) ≡ file_side name p files ∷ []
          → side_held p (cond b (Some x) (file_of name_seen name kept)) ≡ side_of p (cond b (Some y) (file_of file_name name files)) ∷ []
      by_name true rest = side_found x y alike.1
      by_name false rest = rest

module _ (h : Machine) (now : FilesState) (sees : SeesFiles now h) where
  -- at rest
  pub files_rest : h.interrupted ≡ None → AreFilesLeft (file_left h) now None
  files_rest settled = λ name p is.
      at_rest name p h.interrupted settled ∙ sym (ap (λ sides. sides ++ []) (sides_found now.numbers name p is now.files h.files sees.files))
    where
      at_rest : (name : List ℕ) (p : ℕ) (o : Option Action) → o ≡ None → files_left h.mappings o h.files name p ≡ file_side name p h.files ∷ []
      at_rest name p None is = refl
      at_rest name p (Some action) is = cc is

  -- inside a command
  module _ (action : Action) (allowed : refusal h action ≡ None) (whole : IsComplete h) (new : FilesState) (made : new ≡ files_once_done action now) where
    abbrev change : FilesChange
    change = files_change (map uncopied h.mappings) action

    made_so : new.files ≡ files_after change now.numbers now.files
    made_so = ap (λ (s : FilesState). s.files) made ∙ ap (λ ms. files_after (files_change ms action) now.numbers now.files) sees.mappings

    alike : AreAlike name_seen file_name (SeesFile now.numbers) (files_after change now.numbers now.files) (files_changed change h.files)
    alike = files_follow change now.numbers now.files h.files (command_follows h sees.handles action allowed).may whole.file_lines sees.in_order sees.files

    module _ (name : List ℕ) (p : ℕ) (is : is_held now.numbers (p / 8) ≡ true) where
      old_side : side_at now name p ≡ file_side name p h.files ∷ []
      old_side = sides_found now.numbers name p is now.files h.files sees.files

      made_side : side_at new name p ≡ file_side name p (files_changed change h.files) ∷ []
      made_side =
          ap (λ files. side_held p (file_of name_seen name files)) made_so
          ∙ sides_found now.numbers name p is (files_after change now.numbers now.files) (files_changed change h.files) alike

      both_sides : file_side name p h.files ∷ file_side name p (files_changed change h.files) ∷ [] ≡ side_at now name p ++ side_at new name p
      both_sides = sym (ap (λ sides. sides ++ side_at new name p) old_side ∙ ap (λ sides. file_side name p h.files ∷ sides) made_side)

      by_left : (left : FilesLeft)
          → of_files left (file_side name p h.files) (file_side name p (files_changed change h.files)) ≡ side_at now name p ++ new_side (where_files_mixed left new) name p
      by_left Unchanged = sym (ap (λ sides. sides ++ []) old_side)
      by_left OldOrNew = both_sides
      by_left (StoredInPart text offset bytes) = both_sides
      by_left (SyncedInPart text spans) = both_sides

    pub files_cut : AreFilesLeft (file_left (while_interrupted h action)) now (where_files_mixed (left_by (files_change now.mappings.mappings action)) new)
    files_cut = λ name p is.
        left_same (λ left to. of_files left (file_side name p h.files) (file_side name p to)) h.files (λ to. refl) h.mappings action
        ∙ ap (λ ms. of_files (left_by (files_change ms action)) (file_side name p h.files) (file_side name p (files_changed change h.files))) (sym sees.mappings)
        ∙ by_left name p is (left_by (files_change now.mappings.mappings action))
