-- Marked lines of files, counted on the units of their pages.
use Rattle.std.proofs.Common.{◌≡◌, ℕ, ◌+◌, ◌*◌, ◌/◌, ◌%◌, ◌<◌, ◌≤◌, true, false, sum_by, take, is_some, cond, Option, Some, None, option_map, List, length, slice_get, slice_index_or, refl, sym, ap, subst, ◌∙◌, inl, inr, arith}
use Rattle.std.proofs.lemmas.Bool.{cases_Bool}
use Rattle.std.proofs.lemmas.List.{length-map, take-take}
use Rattle.std.proofs.lemmas.List.Sums.{count_by_more_no, count_by_more_yes, sum_by-take-le}
use Rattle.std.proofs.lemmas.Option.{get_or_from_slice_get, slice_get-get_or, slice_get-map}
use Rattle.line_device.specs.Medium.{Medium}
use Rattle.word_tables.specs.declared.geometry.Geometry.{Geometry}
use Rattle.word_tables.specs.Layout.{file_line, first_line, size, total_lines}
use Rattle.nvm_base.specs.declared.files.FileEntry.{FileEntry}
use Rattle.inode_table.specs.Slots.{pages_of}
use Rattle.page_table.specs.Pages.{used_by, used_pages}
use Rattle.nvm_model.specs.Events.{count_in_files, count_in_page, count_in_pages}
use Rattle.nvm_model.specs.Listing.{file_name}
use Rattle.nvm_model.specs.Numbered.{list_from}
use Rattle.nvm_model.specs.Page.{Page, is_present}
use Rattle.nvm_model.specs.Page.Page.{Absent, Present}
use Rattle.nvm_model.specs.Storage.{File}
use Rattle.nvm_model.proofs.NumberedLemmas.{length-map_from, slice_get-map_from}
use Rattle.nvm_model.proofs.SumLemmas.{of_slot, sum-alike, sum-each, sum-in_order}
use Rattle.file_journal.specs.Files.{UnitFile, files_of, unit_file, unit_file_name, unit_slots}
use Rattle.file_journal.specs.Standing.{FileStands, FilesStand, line_of_file, line_on}
use Rattle.file_journal.specs.Tables.{AreTables, Tables, unit_at}
use Rattle.marked_lines.specs.declared.mark.Mark.{Mark}
use Rattle.marked_lines.specs.Counting.{cell_has, marked_in_inode, marked_on_unit}
use Rattle.marked_lines.proofs.CountLemmas.{lines_marked}

-- how many lines of a file's units have a mark
abbrev pub marked_on_units : Mark → Geometry → Medium → UnitFile → ℕ
marked_on_units kind geo m on = sum_by (marked_on_unit kind geo m) on.units

-- a page and its unit
module _ (geo : Geometry) (m : Medium) (on : UnitFile) (file : File) (stands : FileStands geo m on file) (i : ℕ) where
  both_there : option_map is_present (slice_get file.pages i) ≡ option_map is_some (slice_get on.units i)
  both_there = sym (slice_get-map is_present file.pages i) ∙ ap (λ l. slice_get l i) stands.there ∙ slice_get-map is_some on.units i

  line_there : (unit k : ℕ) → slice_get on.units i ≡ Some (Some unit) → k < 64 → line_of_file geo on (64 * i + k) ≡ file_line geo unit + k
  line_there unit k is small =
      let at : (64 * i + k) / 64 ≡ i = omega (arith, small) in
      let inside : (64 * i + k) % 64 ≡ k = omega (arith, small) in
      ap (λ j. line_on geo (slice_index_or on.units j None) (64 * i + k)) at
      ∙ ap (λ u. line_on geo u (64 * i + k)) (get_or_from_slice_get on.units i (Some unit) None is)
      ∙ ap (λ n. file_line geo unit + n) inside

  unit_marked : (kind : Mark) (page : Page) (unit : Option ℕ) → slice_get file.pages i ≡ Some page → slice_get on.units i ≡ Some unit → count_in_page (cell_has kind) page ≡ marked_on_unit kind geo m unit
  unit_marked kind Absent None was is = refl
  unit_marked kind Absent (Some unit) was is =
      let wrong : Some false ≡ Some true = sym (ap (option_map is_present) was) ∙ both_there ∙ ap (option_map is_some) is in cc
  unit_marked kind (Present cells) None was is =
      let wrong : Some true ≡ Some false = sym (ap (option_map is_present) was) ∙ both_there ∙ ap (option_map is_some) is in cc
  unit_marked kind (Present cells) (Some unit) was is =
      lines_marked kind (line_of_file geo on) m file.pages i (file_line geo unit) cells stands.stand was (λ k small. line_there unit k is small)

module _ (kind : Mark) where
  -- a file
  file_marked : (geo : Geometry) (m : Medium) (on : UnitFile) (file : File) → FileStands geo m on file → marked_on_units kind geo m on ≡ count_in_pages (cell_has kind) file.pages
  file_marked geo m on file stands =
      sym (sum-each (count_in_page (cell_has kind)) (marked_on_unit kind geo m) file.pages on.units same (λ i. unit_marked geo m on file stands i kind))
    where
      same : length file.pages ≡ length on.units
      same = sym (length-map file.pages is_present) ∙ ap length stands.there ∙ length-map on.units is_some

  -- all files, inode by inode
  pub files_marked : (geo : Geometry) (m : Medium) (t : Tables) (files : List File) → FilesStand geo m t files
      → count_in_files (cell_has kind) files ≡ sum_by (of_slot (marked_on_units kind geo m)) (unit_slots t)
  files_marked geo m t files stand =
      sym (sum-alike unit_file_name file_name (FileStands geo m) (marked_on_units kind geo m) (λ (file : File). count_in_pages (cell_has kind) file.pages) (files_of t) files (file_marked geo m) stand)
      ∙ sum-in_order unit_file_name (marked_on_units kind geo m) (unit_slots t)

pub length-unit_slots : (t : Tables) → length (unit_slots t) ≡ length t.files
length-unit_slots t = length-map_from (λ inode slot. option_map (unit_file t inode) slot) 0 t.files

pub inode_marked : (kind : Mark) (geo : Geometry) (m : Medium) (t : Tables) (inode : ℕ) → inode < length t.files
    → of_slot (marked_on_units kind geo m) (slice_index_or (unit_slots t) inode None) ≡ marked_in_inode kind geo m t inode
inode_marked kind geo m t inode below = by_slot (slice_index_or t.files inode None) refl
  where
    at : 0 + inode ≡ inode
    at = omega arith

    own : (slot : Option FileEntry) → of_slot (marked_on_units kind geo m) (option_map (unit_file t inode) slot) ≡ sum_by (marked_on_unit kind geo m) (list_from (unit_at t inode) 0 (pages_of slot))
    own None = refl
    own (Some file) = refl

    by_slot : (slot : Option FileEntry) → slice_index_or t.files inode None ≡ slot
        → of_slot (marked_on_units kind geo m) (slice_index_or (unit_slots t) inode None) ≡ marked_in_inode kind geo m t inode
    by_slot slot is =
        let there : slice_get t.files inode ≡ Some slot = slice_get-get_or t.files inode None below ∙ ap (λ (o : Option FileEntry). Some o) is in
        let found : slice_get (unit_slots t) inode ≡ Some (option_map (unit_file t inode) slot) =
        slice_get-map_from (λ j s. option_map (unit_file t j) s) 0 t.files inode ∙ ap (option_map (option_map (unit_file t (0 + inode)))) there
        ∙ ap (λ j. Some (option_map (unit_file t j) slot)) at in
        ap (of_slot (marked_on_units kind geo m)) (get_or_from_slice_get (unit_slots t) inode (option_map (unit_file t inode) slot) None found)
        ∙ own slot ∙ ap (λ s. sum_by (marked_on_unit kind geo m) (list_from (unit_at t inode) 0 (pages_of s))) (sym is)

-- one page more
pub used-next : (pages : List (Option ℕ)) (i : ℕ) → i < length pages → used_pages (take (i + 1) pages) ≡ used_pages (take i pages) + used_by (slice_index_or pages i None)
used-next pages i within =
    elim (cases_Bool (is_some (slice_index_or pages i None))) [
      | inl there ↦ count_by_more_yes is_some pages i None within there ∙ ap (λ b. used_pages (take i pages) + cond b 1 0) (sym there)
      | inr hole ↦ count_by_more_no is_some pages i None within hole ∙ nothing _ ∙ ap (λ b. used_pages (take i pages) + cond b 1 0) (sym hole)
    ]
  where
    nothing : (n : ℕ) → n ≡ n + 0
    nothing n = omega arith

pub used-few : (pages : List (Option ℕ)) (i : ℕ) → used_pages (take i pages) ≤ used_pages pages
used-few pages i = sum_by-take-le (λ page. cond (is_some page) 1 0) pages i

pub used-fewer : (pages : List (Option ℕ)) (i j : ℕ) → i ≤ j → used_pages (take i pages) ≤ used_pages (take j pages)
used-fewer pages i j below =
    subst (λ l. used_pages l ≤ used_pages (take j pages)) (take-take i j pages below)
    (used-few (take j pages) i)

-- a unit of a page lies on the device
pub unit_within : (size : ℕ) (t : Tables) (inode page unit : ℕ) → AreTables size t → inode < 64 → page < 256 → unit_at t inode page ≡ Some unit → unit < size
unit_within size t inode page unit are low below is =
    are.table.within (256 * inode + page) unit
    (slice_get-get_or t.pages (256 * inode + page) None (omega (arith, low, below, are.table.all)) ∙ ap (λ (o : Option ℕ). Some o) is)

pub unit_on_device : (geo : Geometry) (unit : ℕ) → unit < geo.fpages → file_line geo unit + 64 ≤ total_lines geo
unfolding first_line size total_lines
unit_on_device geo unit below = omega arith
