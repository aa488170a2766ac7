-- The file of an inode once it was changed, and the room that its weak lines have.
use Rattle.std.proofs.Common.{◌≡◌, ◌+◌, ◌≤◌, ◌∙◌, ℕ, true, None, List, [], ◌∷◌, length, refl, sym, ap, subst, arith}
use Rattle.std.specs.List.{list_all}
use Rattle.std.proofs.lemmas.Bool.{and_from, and_parts}
use Rattle.line_device.specs.Medium.{Medium}
use Rattle.nvm_base.specs.declared.units.Span.{Span}
use Rattle.nvm_model.specs.Cell.{weaken_cell}
use Rattle.nvm_model.specs.Events.{count_in_pages, is_weak_cell, weak_file_lines}
use Rattle.nvm_model.specs.Files.{on_pages}
use Rattle.nvm_model.specs.Listing.{AreAlike, AreApart, change_file, file_name, is_before, rises}
use Rattle.nvm_model.specs.Page.{Page, change_line}
use Rattle.nvm_model.specs.Storage.{File}
use Rattle.nvm_model.specs.Touched.{bad_touched, next_bad_touched, persist_spans}
use Rattle.nvm_model.proofs.OneFileLemmas.{found-change}
use Rattle.nvm_model.proofs.RiseLemmas.{rises-in_order}
use Rattle.file_journal.specs.Files.{files_of, unit_file_name, unit_slots}
use Rattle.file_journal.specs.Object.{JournalState}
use Rattle.file_journal.specs.Standing.{FileStands, FilesStand}
use Rattle.file_journal.specs.Tables.{AreTables, Tables}
use Rattle.file_journal.proofs.FilesOfLemmas.{file_of-slot}
use Rattle.file_pages.specs.Object.{IsFileAt}
use Rattle.file_pages.proofs.PassLemmas.{pages_on}
use Rattle.machine_host.proofs.LineSumLemmas.{AreWhole}
use Rattle.machine_host.proofs.WeakFileLemmas.{change-one-weak}
use Rattle.machine_host.proofs.WeakLineLemmas.{persist-weak_found, weaken-weak}

-- files that are alike are in the same order
all-alike : {A B : Type 0} (name : A → List ℕ) (other : B → List ℕ) (R : A → B → Type 0) (first : List ℕ) (xs : List A) (ys : List B) → AreAlike name other R xs ys
    → list_all (λ x. is_before first (name x)) xs ≡ true → list_all (λ y. is_before first (other y)) ys ≡ true
all-alike name other R first [] [] alike all = refl
all-alike name other R first [] (y ∷ ys) alike all = absurd alike
all-alike name other R first (x ∷ xs) [] alike all = absurd alike
all-alike name other R first (x ∷ xs) (y ∷ ys) alike all =
    let parts = and_parts (is_before first (name x)) (list_all (λ z. is_before first (name z)) xs) all in
    and_from (is_before first (other y)) (list_all (λ z. is_before first (other z)) ys) (ap (is_before first) (sym alike.0) ∙ parts.0) (all-alike name other R first xs ys alike.2 parts.1)

alike-rises : {A B : Type 0} (name : A → List ℕ) (other : B → List ℕ) (R : A → B → Type 0) (xs : List A) (ys : List B) → AreAlike name other R xs ys → rises name xs ≡ true → rises other ys ≡ true
alike-rises name other R [] [] alike up = refl
alike-rises name other R [] (y ∷ ys) alike up = absurd alike
alike-rises name other R (x ∷ xs) [] alike up = absurd alike
alike-rises name other R (x ∷ xs) (y ∷ ys) alike up =
    let parts = and_parts (list_all (λ z. is_before (name x) (name z)) xs) (rises name xs) up in
    and_from (list_all (λ z. is_before (other y) (other z)) ys) (rises other ys)
    (subst (λ n. list_all (λ z. is_before n (other z)) ys ≡ true) alike.0 (all-alike name other R (name x) xs ys alike.2 parts.0)) (alike-rises name other R xs ys alike.2 parts.1)

-- the files of tables have names of their own
units_apart : (size : ℕ) (t : Tables) → AreTables size t → AreApart unit_file_name (unit_slots t)
units_apart size t are = λ i j x y at_i at_j same.
    let one = file_of-slot t i x at_i in
    let other = file_of-slot t j y at_j in
    are.names.apart i j one.0 other.0 one.1 other.1 (one.2 ∙ same ∙ sym other.2)

pub files_rise : (s : JournalState) (m : Medium) (files : List File) → AreTables s.geo.fpages s.tables → FilesStand s.geo m s.tables files → rises file_name files ≡ true
files_rise s m files are stand =
    alike-rises unit_file_name file_name (FileStands s.geo m) (files_of s.tables) files stand (rises-in_order unit_file_name (unit_slots s.tables) (units_apart s.geo.fpages s.tables are))

module _ (s : JournalState) (are : AreTables s.geo.fpages s.tables) (old : Medium) (inode : ℕ) (files : List File) (file : File) (at : IsFileAt s old inode files file) where
  whole : AreWhole file.pages
  whole = (pages_on s old inode files file are at).stand.whole

  -- it is the inode's still
  pub changed_at : (new : Medium) (f : List Page → List Page) → FilesStand s.geo new s.tables (change_file file_name file.name (on_pages f) files)
      → IsFileAt s new inode (change_file file_name file.name (on_pages f) files) (on_pages f file)
  changed_at new f stand = record { named = record { file = at.named.file; is = at.named.is; named = at.named.named }; stand = stand; found = found-change file.name f files file at.found }

  one : (f : List Page → List Page) → weak_file_lines (change_file file_name file.name (on_pages f) files) + count_in_pages is_weak_cell file.pages ≡ weak_file_lines files + count_in_pages is_weak_cell (f file.pages)
  one f = change-one-weak file.name f files file (files_rise s old files are at.stand) at.found

  -- The lines that a flush loses were weak.
  pub weak-flushed : (spans : List Span) → next_bad_touched spans file.pages 0 ≡ None
      → weak_file_lines (change_file file_name file.name (on_pages (persist_spans spans)) files) + length (bad_touched spans (persist_spans spans file.pages)) ≤ weak_file_lines files
  weak-flushed spans none = let lost = persist-weak_found spans file.pages whole none in let sum = one (persist_spans spans) in omega (arith, lost, sum)

  -- A line that is made weak is one more.
  pub weak-weakened : (n : ℕ) → weak_file_lines (change_file file_name file.name (on_pages (change_line weaken_cell n)) files) ≤ weak_file_lines files + 1
  weak-weakened n = let more = weaken-weak n file.pages whole in let sum = one (change_line weaken_cell n) in omega (arith, more, sum)
