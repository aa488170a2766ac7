-- The lines of files as a cut leaves them: in each file one cell of each number.
use Rattle.std.proofs.Common.{◌≡◌, ℕ, Bool, true, false, cond, Option, Some, None, List, option_map, if◌then◌else◌, refl, sym, subst, ◌∙◌}
use Rattle.nvm_model.specs.Cell.{Cell}
use Rattle.nvm_model.specs.Listing.{file_name, file_of, is_named}
use Rattle.nvm_model.proofs.AlikeLemmas.{alike-found}
use Rattle.script_text.specs.Action.{Action}
use Rattle.sights.specs.MachineModel.Commands.{meaning, refusal}
use Rattle.sights.specs.MachineModel.Machine.{Machine}
use Rattle.sights.specs.Durable.Durable.{IsComplete}
use Rattle.sights.specs.Outcomes.Files.{FileRead}
use Rattle.sights.specs.Outcomes.Stops.{led_to}
use Rattle.sights.specs.Seeing.{seen}
use Rattle.cut_places.specs.FileChanges.{FilesChange, LinesChange}
use Rattle.cut_places.specs.FileChanges.FilesChange.{Nothing, Makes, Removes, Renames, Resizes, Changes, Maps, Unmaps}
use Rattle.cut_places.specs.FileChanges.LinesChange.{Puts, Persists, Rewrites, Zeroes, Loses, Weakens, Clears}
use Rattle.cut_places.specs.FileCommands.{files_change}
use Rattle.cut_places.specs.FileFitting.{fit_now}
use Rattle.cut_places.specs.FileLeaving.{files_left, left_by_line, left_either, left_of_lines, line_left, lines_left}
use Rattle.cut_places.specs.SeesFiles.{AreLines, SeesFile, SeesFiles, line_numbers}
use Rattle.cut_places.specs.FilesState.{FileState, FilesState, after, name_seen}
use Rattle.cut_places.proofs.LeavingLemmas.{found_changed, left_lines, left_numbers}
use Rattle.cut_places.proofs.SeesLemmas.{sees_done}

-- a file has lines of these numbers, each told by its number
abbrev pub HasLines : List ℕ → FileState → Type 0
HasLines numbers x = (f : ℕ → Cell) × (line_numbers x.lines ≡ numbers) × AreLines f x.lines

-- so has one that is there
abbrev HaveLines : List ℕ → Option FileState → Type 0
HaveLines numbers None = Unit {0}
HaveLines numbers (Some x) = HasLines numbers x

-- and each file of these
abbrev pub AllHaveLines : List ℕ → List FileState → Type 0
AllHaveLines numbers files = (name : List ℕ) (x : FileState) → file_of name_seen name files ≡ Some x → HasLines numbers x

seen_have : (held : FilesState) (h : Machine) → SeesFiles held h → AllHaveLines held.numbers held.files
seen_have held h sees name x found =
    let there = alike-found name_seen file_name (SeesFile held.numbers) name held.files h.files sees.files x found in (seen there.0.pages, there.3.held, there.3.lines)

module _ (reads : List FileRead) (s : FilesState) (now : AllHaveLines s.numbers s.files) where
  by_line_have : (name : List ℕ) (c : LinesChange) → AllHaveLines s.numbers (left_by_line name c reads s).files
  by_line_have name c text x found =
      by_found (file_of name_seen text s.files) refl (sym (found_changed text name (lines_left reads name c) (λ y. refl) s.files) ∙ found)
    where
      by_name : (y : FileState) → HasLines s.numbers y → (b : Bool) → HasLines s.numbers (cond b (lines_left reads name c y) y)
      by_name y has true =
          (λ n. (line_left reads name c y.pages (record { number = n; line = has.0 n })).line, left_numbers reads name c y.pages y.lines ∙ has.1, left_lines reads name c y.pages has.0 y.lines has.2)
      by_name y has false = has

      by_found : (o : Option FileState) → file_of name_seen text s.files ≡ o → option_map (λ y. if is_named name_seen name y then lines_left reads name c y else y) o ≡ Some x → HasLines s.numbers x
      by_found None none is = cc is
      by_found (Some y) here is =
          subst (HaveLines s.numbers) is (by_name y (now text y here) (is_named name_seen name y))

  module _ (change : FilesChange) (made : AllHaveLines s.numbers (after change s).files) where
    either_have : AllHaveLines s.numbers (left_either change reads s).files
    either_have = by_fit (fit_now reads s)
      where
        by_fit : (b : Bool) → AllHaveLines s.numbers (cond b s (after change s)).files
        by_fit true = now
        by_fit false = made

  lines_have : (name : List ℕ) (c : LinesChange) → AllHaveLines s.numbers (after (Changes name c) s).files → AllHaveLines s.numbers (left_of_lines name c reads s).files
  lines_have name (Puts at bytes) made = by_line_have name (Puts at bytes)
  lines_have name (Persists spans) made = by_line_have name (Persists spans)
  lines_have name (Rewrites ranges bytes) made = either_have (Changes name (Rewrites ranges bytes)) made
  lines_have name (Zeroes page count) made = either_have (Changes name (Zeroes page count)) made
  lines_have name (Loses line) made = now
  lines_have name (Weakens line) made = now
  lines_have name (Clears line) made = either_have (Changes name (Clears line)) made

  inside_have : (change : FilesChange) → AllHaveLines s.numbers (after change s).files → AllHaveLines s.numbers (files_left (Some change) reads s).files
  inside_have Nothing made = now
  inside_have (Makes name pages) made = either_have (Makes name pages) made
  inside_have (Removes name) made = either_have (Removes name) made
  inside_have (Renames name to) made = either_have (Renames name to) made
  inside_have (Resizes name pages) made = either_have (Resizes name pages) made
  inside_have (Changes name c) made = lines_have name c made
  inside_have (Maps name span kind) made = now
  inside_have (Unmaps handle) made = now

-- where a cut falls now, or inside a command
pub left_have : (held : FilesState) (h : Machine) (inside : Option Action) (reads : List FileRead) → SeesFiles held h → IsComplete h
    → ((action : Action) → inside ≡ Some action → refusal h action ≡ None)
    → AllHaveLines held.numbers (files_left (option_map (files_change held.mappings.mappings) inside) reads held).files
left_have held h None reads sees complete allowed = seen_have held h sees
left_have held h (Some action) reads sees complete allowed =
    inside_have reads held (seen_have held h sees) (files_change held.mappings.mappings action)
    (seen_have (after (files_change held.mappings.mappings action) held) (led_to h ((meaning action).comes h))
    (sees_done held h action (after (files_change held.mappings.mappings action) held) refl sees complete (allowed action refl)))
