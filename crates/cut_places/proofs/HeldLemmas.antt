-- Files that are held as reads see them are so after a change.
use Rattle.std.proofs.Common.{◌≡◌, ℕ, ◌/◌, ◌≤◌, nat_lt, Bool, true, false, cond, Some, List, [], ◌∷◌, length, map, replicate, refl, sym, ap, ◌∙◌, arith}
use Rattle.std.proofs.lemmas.List.{length-replicate}
use Rattle.nvm_model.specs.Cell.{Cell, zero_cell}
use Rattle.nvm_model.specs.Files.{new_file, on_pages, with_name as with_new_name, with_pages as with_new_pages}
use Rattle.nvm_model.specs.Listing.{AreAlike, file_name, file_of, has_file, rises}
use Rattle.nvm_model.specs.Page.{Page}
use Rattle.nvm_model.specs.Page.Page.{Absent}
use Rattle.nvm_model.specs.Storage.{File}
use Rattle.nvm_model.proofs.AlikeLemmas.{alike-put}
use Rattle.nvm_model.proofs.AlikeChangeLemmas.{alike-rename, alike-without}
use Rattle.nvm_model.proofs.RiseLemmas.{rises-put}
use Rattle.sights.specs.Durable.Durable.{AllHaveLines, HaveLines}
use Rattle.sights.specs.Seeing.{seen}
use Rattle.cut_places.specs.declared.line.FileLine.{FileLine}
use Rattle.cut_places.specs.FileChanges.{FilesChange, LinesChange, files_changed, line_changed, pages_changed}
use Rattle.cut_places.specs.FileChanges.FilesChange.{Nothing, Makes, Removes, Renames, Resizes, Changes, Maps, Unmaps}
use Rattle.cut_places.specs.SeesFiles.{AreLines, SeesFile, line_numbers}
use Rattle.cut_places.specs.FilesState.{FileState, files_after, hole_at, holes, line_after, line_of_after, line_within, lines_after, name_seen, with_name, with_pages}
use Rattle.cut_places.proofs.PageChangeLemmas.{MarksThere, length_changed, length_resized, seen_changed, seen_hole, seen_past, seen_resized}
use Rattle.cut_places.proofs.RisingLemmas.{alike_changed, rises_changed, rises_renamed, rises_without}

-- lines of other pages, each by what is made of it
numbers_same : (f : FileLine → FileLine) (lines : List FileLine) → ((line : FileLine) → (f line).number ≡ line.number) → line_numbers (map f lines) ≡ line_numbers lines
numbers_same f [] same = refl
numbers_same f (line ∷ lines) same = ap (λ n. n ∷ line_numbers (map f lines)) (same line) ∙ ap (λ ns. line.number ∷ ns) (numbers_same f lines same)

lines_made : (f : FileLine → FileLine) (old new : ℕ → Cell) (lines : List FileLine) → ((line : FileLine) → line.line ≡ old line.number → (f line).line ≡ new (f line).number)
    → AreLines old lines → AreLines new (map f lines)
lines_made f old new [] each are = tt
lines_made f old new (line ∷ lines) each are = (each line are.0, lines_made f old new lines each are.1)

-- a line once its file changed
module _ (c : LinesChange) (pages : List Page) (whole : HaveLines pages) (there : MarksThere c pages) where
  pub line_follows : (count : ℕ) (line : FileLine) → count ≡ length pages → line.line ≡ seen pages line.number
      → ((line_of_after count c line).number ≡ line.number) × ((line_of_after count c line).line ≡ seen (pages_changed c pages) line.number)
  line_follows count line size is = by_test (nat_lt (line.number / 64) count) refl
    where
      by_test : (b : Bool) → nat_lt (line.number / 64) count ≡ b
          → ((cond b (line_after c line) line).number ≡ line.number) × ((cond b (line_after c line) line).line ≡ seen (pages_changed c pages) line.number)
      by_test true low = (refl, ap (line_changed c line.number) is ∙ sym (seen_changed c pages line.number whole there (grind (arith, size))))
      by_test false past =
          let behind : length pages ≤ line.number / 64 = grind (arith, size) in
          let still : length (pages_changed c pages) ≤ line.number / 64 = omega (arith, length_changed c pages, behind) in
          (refl, is ∙ seen_past pages line.number behind ∙ sym (seen_past (pages_changed c pages) line.number still))

module _ (numbers : List ℕ) where
  -- file by file
  sees_changed : (c : LinesChange) (x : FileState) (y : File) → HaveLines y.pages → MarksThere c y.pages → SeesFile numbers x y
      → SeesFile numbers (lines_after c x) (on_pages (pages_changed c) y)
  sees_changed c x y whole there sees = record {
    pages = sees.pages ∙ sym (length_changed c y.pages);
    held = numbers_same (line_of_after x.pages c) x.lines same_number ∙ sees.held;
    lines = lines_made (line_of_after x.pages c) (seen y.pages) (seen (pages_changed c y.pages)) x.lines
        (λ line is. let made = line_follows c y.pages whole there x.pages line sees.pages is in made.1 ∙ ap (seen (pages_changed c y.pages)) (sym made.0)) sees.lines;
  }
    where
      same_number : (line : FileLine) → (line_of_after x.pages c line).number ≡ line.number
      same_number line = by_test (nat_lt (line.number / 64) x.pages)
        where
          by_test : (b : Bool) → (cond b (line_after c line) line).number ≡ line.number
          by_test true = refl
          by_test false = refl

  sees_resized : (count : ℕ) (x : FileState) (y : File) → SeesFile numbers x y → SeesFile numbers (with_pages count x) (with_new_pages count y)
  sees_resized count x y sees = record {
    pages = sym (length_resized count y.pages);
    held = numbers_same (line_within count) x.lines same_number ∙ sees.held;
    lines = lines_made (line_within count) (seen y.pages) (seen (with_new_pages count y).pages) x.lines (λ line is. by_place line is (nat_lt (line.number / 64) count) refl) sees.lines;
  }
    where
      same_number : (line : FileLine) → (line_within count line).number ≡ line.number
      same_number line = by_test (nat_lt (line.number / 64) count)
        where
          by_test : (b : Bool) → (cond b line (hole_at line.number)).number ≡ line.number
          by_test true = refl
          by_test false = refl

      by_place : (line : FileLine) → line.line ≡ seen y.pages line.number → (b : Bool) → nat_lt (line.number / 64) count ≡ b
          → (cond b line (hole_at line.number)).line ≡ seen (with_new_pages count y).pages (cond b line (hole_at line.number)).number
      by_place line is true low = is ∙ sym (seen_resized count y.pages line.number ∙ ap (λ b. cond b (seen y.pages line.number) zero_cell) low)
      by_place line is false past = sym (seen_resized count y.pages line.number ∙ ap (λ b. cond b (seen y.pages line.number) zero_cell) past)

  sees_named : (name : List ℕ) (x : FileState) (y : File) → SeesFile numbers x y → SeesFile numbers (with_name name x) (with_new_name name y)
  sees_named name x y sees = record { pages = sees.pages; held = sees.held; lines = sees.lines }

  sees_holes : (name : List ℕ) (count : ℕ) → SeesFile numbers (holes numbers name count) (new_file name count)
  sees_holes name count = record { pages = sym (length-replicate count Absent); held = numbers_kept numbers; lines = zeros numbers }
    where
      numbers_kept : (ns : List ℕ) → line_numbers (map hole_at ns) ≡ ns
      numbers_kept [] = refl
      numbers_kept (n ∷ ns) = ap (λ ms. n ∷ ms) (numbers_kept ns)

      zeros : (ns : List ℕ) → AreLines (seen (replicate count Absent)) (map hole_at ns)
      zeros [] = tt
      zeros (n ∷ ns) = (sym (seen_hole count n), zeros ns)

  -- all files have their lines
  abbrev pub SeesWhole : FileState → File → Type 0
  SeesWhole x y = SeesFile numbers x y × HaveLines y.pages

  pub all_whole : (held : List FileState) (files : List File) → AllHaveLines files → AreAlike name_seen file_name (SeesFile numbers) held files → AreAlike name_seen file_name SeesWhole held files
  all_whole [] [] whole alike = tt
  all_whole [] (y ∷ files) whole alike = absurd alike
  all_whole (x ∷ held) [] whole alike = absurd alike
  all_whole (x ∷ held) (y ∷ files) whole alike = (alike.0, (alike.1, whole.0), all_whole held files whole.1 alike.2)

-- a change of files can be made: no file has a new name, and a line that is marked is there
abbrev pub MayChange : FilesChange → List File → Type 0
MayChange Nothing files = Unit {0}
MayChange (Makes name pages) files = has_file file_name name files ≡ false
MayChange (Removes name) files = Unit {0}
MayChange (Renames name to) files = has_file file_name to files ≡ false
MayChange (Resizes name pages) files = Unit {0}
MayChange (Changes name lines) files = (y : File) → file_of file_name name files ≡ Some y → MarksThere lines y.pages
MayChange (Maps name span kind) files = Unit {0}
MayChange (Unmaps handle) files = Unit {0}

-- what is held of files follows them
pub files_follow : (change : FilesChange) (numbers : List ℕ) (held : List FileState) (files : List File) → MayChange change files → AllHaveLines files → rises file_name files ≡ true
    → AreAlike name_seen file_name (SeesFile numbers) held files → AreAlike name_seen file_name (SeesFile numbers) (files_after change numbers held) (files_changed change files)
files_follow Nothing numbers held files may whole up alike = alike
files_follow (Makes name pages) numbers held files may whole up alike =
    alike-put name_seen file_name (SeesFile numbers) (holes numbers name pages) (new_file name pages) held files refl (sees_holes numbers name pages) alike
files_follow (Removes name) numbers held files may whole up alike = alike-without name_seen file_name (SeesFile numbers) name held files alike
files_follow (Renames name to) numbers held files may whole up alike =
    alike-rename name_seen file_name (SeesFile numbers) name (with_name to) (with_new_name to) held files (λ x y sees. (refl, sees_named numbers to x y sees)) alike
files_follow (Resizes name pages) numbers held files may whole up alike =
    alike_changed name_seen file_name (SeesFile numbers) (SeesFile numbers) name (with_pages pages) (with_new_pages pages) held files
    (λ x y found sees. (refl, refl, sees_resized numbers pages x y sees)) (λ x y sees. sees) up alike
files_follow (Changes name lines) numbers held files may whole up alike =
    alike_changed name_seen file_name (SeesWhole numbers) (SeesFile numbers) name (lines_after lines) (on_pages (pages_changed lines)) held files
    (λ x y found sees. (refl, refl, sees_changed numbers lines x y sees.1 (may y found) sees.0)) (λ x y sees. sees.0) up (all_whole numbers held files whole alike)
files_follow (Maps name span kind) numbers held files may whole up alike = alike
files_follow (Unmaps handle) numbers held files may whole up alike = alike

-- and they stay in order
pub files_rise : (change : FilesChange) (files : List File) → MayChange change files → rises file_name files ≡ true → rises file_name (files_changed change files) ≡ true
files_rise Nothing files may up = up
files_rise (Makes name pages) files may up = rises-put file_name (new_file name pages) files may up
files_rise (Removes name) files may up = rises_without file_name name files up
files_rise (Renames name to) files may up = rises_renamed file_name name to (with_new_name to) files (λ x. refl) may up
files_rise (Resizes name pages) files may up = rises_changed file_name name (with_new_pages pages) (λ x. refl) files up
files_rise (Changes name lines) files may up = rises_changed file_name name (on_pages (pages_changed lines)) (λ x. refl) files up
files_rise (Maps name span kind) files may up = up
files_rise (Unmaps handle) files may up = up
