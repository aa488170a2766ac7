-- A line of a file that a cut leaves is as it was, or as a command makes it.
use Rattle.std.proofs.Common.{◌≡◌, ◌⊎◌, inl, inr, ℕ, ◌/◌, ◌==◌, nat_lt, Bool, true, false, cond, Option, Some, None, List, [], ◌∷◌, find, map, option_map, if◌then◌else◌, refl, sym, ap, subst, ◌∙◌}
use Rattle.nvm_model.specs.Cell.{Cell}
use Rattle.nvm_model.specs.Listing.{file_of, is_named}
use Rattle.script_text.specs.Action.{Action}
use Rattle.cut_places.specs.Outcomes.Files.{FileRead}
use Rattle.cut_places.specs.SightsSeen.declared.way.Way.{Way}
use Rattle.cut_places.specs.declared.line.FileLine.{FileLine}
use Rattle.cut_places.specs.FileChanges.{FilesChange, LinesChange, left_by}
use Rattle.cut_places.specs.FileChanges.FilesChange.{Nothing, Makes, Removes, Renames, Resizes, Changes, Maps, Unmaps}
use Rattle.cut_places.specs.FileChanges.LinesChange.{Puts, Persists, Rewrites, Zeroes, Loses, Weakens, Clears}
use Rattle.cut_places.specs.FileCommands.{files_change}
use Rattle.cut_places.specs.FileFitting.{fit_now, now_fits}
use Rattle.cut_places.specs.FileLeaving.{files_left, left_by_line, left_either, line_left, lines_left}
use Rattle.cut_places.specs.FileLines.{line_held}
use Rattle.cut_places.specs.FileMixing.{way_left}
use Rattle.cut_places.specs.FilesState.{FileState, FilesState, after, line_after, line_of_after, lines_after, name_seen}
use Rattle.cut_places.specs.Sights.{files_once_done}
use Rattle.cut_places.proofs.LeavingLemmas.{found_changed, left_number}
use Rattle.witnesses.specs.Files.{files_made, files_way, left_there, line_there}
use Rattle.witnesses.specs.Leaving.{made_by, mixing}

-- files as a cut inside a change may leave them beside what was
abbrev mixed_by : Option Way → FilesChange → FilesState → FilesState
mixed_by None change s = s
mixed_by (Some way) change s = after change s

module _ (reads : List FileRead) (s : FilesState) (text : List ℕ) (n : ℕ) (c : Cell) where
  -- the line is so in these files
  abbrev IsThere : List FileState → Type 0
  IsThere files = line_there n (file_of name_seen text files) ≡ Some c

  either : (change : FilesChange) → IsThere (left_either change reads s).files → IsThere s.files ⊎ IsThere (after change s).files
  either change = by_fit (fit_now reads s)
    where
      by_fit : (b : Bool) → IsThere (cond b s (after change s)).files → IsThere s.files ⊎ IsThere (after change s).files
      by_fit true is = inl is
      by_fit false is = inr is

  module _ (name : List ℕ) (change : LinesChange) where
    number_after : (pages : ℕ) (line : FileLine) → (line_of_after pages change line).number ≡ line.number
    number_after pages line = by_page (nat_lt (line.number / 64) pages)
      where
        by_page : (b : Bool) → (cond b (line_after change line) line).number ≡ line.number
        by_page true = refl
        by_page false = refl

    abbrev of_number : FileLine → Bool
    of_number line = line.number == n

    abbrev cell_in : Option FileLine → Option Cell
    cell_in o = option_map (λ (line : FileLine). line.line) o

    each_held : (pages : ℕ) (lines : List FileLine) → line_held n (map (line_left reads name change pages) lines) ≡ Some c
        → (line_held n lines ≡ Some c) ⊎ (line_held n (map (line_of_after pages change) lines) ≡ Some c)
    each_held pages [] is = cc is
    each_held pages (line ∷ lines) is =
        elim (by_number (line.number == n) (each_held pages lines)
        (sym (ap (λ m. cell_in (cond (m == n) (Some (line_left reads name change pages line)) (find of_number (map (line_left reads name change pages) lines)))) (left_number reads name change pages line)) ∙ is)) as (λ _. (line_held n (line ∷ lines) ≡ Some c) ⊎ (line_held n (map (line_of_after pages change) (line ∷ lines)) ≡ Some c)) [
          | inl old ↦ inl old
          | inr new ↦ inr (ap (λ m. cell_in (cond (m == n) (Some (line_of_after pages change line)) (find of_number (map (line_of_after pages change) lines)))) (number_after pages line) ∙ new)
        ]
      where
        by_fit : (b : Bool) → Some (cond b line (line_of_after pages change line)).line ≡ Some c → (Some line.line ≡ Some c) ⊎ (Some (line_of_after pages change line).line ≡ Some c)
        by_fit true so = inl so
        by_fit false so = inr so

        by_number : (b : Bool)
            → (line_held n (map (line_left reads name change pages) lines) ≡ Some c → (line_held n lines ≡ Some c) ⊎ (line_held n (map (line_of_after pages change) lines) ≡ Some c))
            → cell_in (cond b (Some (line_left reads name change pages line)) (find of_number (map (line_left reads name change pages) lines))) ≡ Some c
            → (cell_in (cond b (Some line) (find of_number lines)) ≡ Some c) ⊎ (cell_in (cond b (Some (line_of_after pages change line)) (find of_number (map (line_of_after pages change) lines))) ≡ Some c)
        by_number true rest so = by_fit (now_fits reads name pages line) so
        by_number false rest so = rest so

    abbrev kept_file : FileState → FileState
    kept_file y = if is_named name_seen name y then lines_left reads name change y else y

    abbrev made_file : FileState → FileState
    made_file y = if is_named name_seen name y then lines_after change y else y

    by_line : IsThere (left_by_line name change reads s).files → IsThere s.files ⊎ IsThere (after (Changes name change) s).files
    by_line is =
        elim (by_file (file_of name_seen text s.files) (sym (ap (line_there n) (found_changed text name (lines_left reads name change) (λ y. refl) s.files)) ∙ is)) as (λ _. IsThere s.files ⊎ IsThere (after (Changes name change) s).files) [
          | inl old ↦ inl old
          | inr new ↦ inr (ap (line_there n) (found_changed text name (lines_after change) (λ y. refl) s.files) ∙ new)
        ]
      where
        by_page : (y : FileState) (b : Bool) → cond b (line_held n (lines_left reads name change y).lines) None ≡ Some c
            → (cond b (line_held n y.lines) None ≡ Some c) ⊎ (cond b (line_held n (lines_after change y).lines) None ≡ Some c)
        by_page y true so = each_held y.pages y.lines so
        by_page y false so = cc so

        by_name : (y : FileState) (b : Bool) → line_there n (Some (cond b (lines_left reads name change y) y)) ≡ Some c
            → (line_there n (Some y) ≡ Some c) ⊎ (line_there n (Some (cond b (lines_after change y) y)) ≡ Some c)
        by_name y true so = by_page y (nat_lt (n / 64) y.pages) so
        by_name y false so = inl so

        by_file : (o : Option FileState) → line_there n (option_map kept_file o) ≡ Some c → (line_there n o ≡ Some c) ⊎ (line_there n (option_map made_file o) ≡ Some c)
        by_file None so = cc so
        by_file (Some y) so = by_name y (is_named name_seen name y) so

  by_change : (change : FilesChange) → IsThere (files_left (Some change) reads s).files → IsThere s.files ⊎ IsThere (mixed_by (way_left (left_by change)) change s).files
  by_change Nothing is = inl is
  by_change (Makes name pages) is = either (Makes name pages) is
  by_change (Removes name) is = either (Removes name) is
  by_change (Renames name to) is = either (Renames name to) is
  by_change (Resizes name pages) is = either (Resizes name pages) is
  by_change (Changes name (Puts at bytes)) is = by_line name (Puts at bytes) is
  by_change (Changes name (Persists spans)) is = by_line name (Persists spans) is
  by_change (Changes name (Rewrites ranges bytes)) is = either (Changes name (Rewrites ranges bytes)) is
  by_change (Changes name (Zeroes page count)) is = either (Changes name (Zeroes page count)) is
  by_change (Changes name (Loses line)) is = inl is
  by_change (Changes name (Weakens line)) is = inl is
  by_change (Changes name (Clears line)) is = either (Changes name (Clears line)) is
  by_change (Maps name span kind) is = inl is
  by_change (Unmaps handle) is = inl is

  mixed_so : (action : Action) (way : Option Way) → made_by files_once_done (mixing way (Some action)) s ≡ mixed_by way (files_change s.mappings.mappings action) s
  mixed_so action None = refl
  mixed_so action (Some way) = refl

  pub left_there_is : (inside : Option Action) → IsThere (left_there inside reads s).files → IsThere s.files ⊎ IsThere (files_made inside s).files
  left_there_is None is = inl is
  left_there_is (Some action) is =
      subst (λ (made : FilesState). IsThere s.files ⊎ IsThere made.files) (sym (mixed_so action (files_way s action))) (by_change (files_change s.mappings.mappings action) is)
