-- The files that a device stands for, while lines of other areas are worked on.
use Rattle.std.proofs.Common.{◌≡◌, ℕ, ◌+◌, ◌*◌, ◌/◌, ◌%◌, ◌<◌, true, is_some, List, Option, Some, None, option_map, slice_get, length, refl, sym, ap, subst, ◌∙◌, arith}
use Rattle.std.proofs.lemmas.Option.{get_or_from_slice_get, slice_get-get_or, slice_get-map, slice_get_within}
use Rattle.std.specs.List.{Contains}
use Rattle.line_device.specs.Medium.{Medium}
use Rattle.nvm_base.specs.declared.files.FileEntry.{FileEntry}
use Rattle.word_tables.specs.declared.geometry.Geometry.{Geometry}
use Rattle.word_tables.specs.Layout.{file_line, file_pages, size, HasLine}
use Rattle.page_table.specs.Pages.{IsOn}
use Rattle.nvm_model.specs.Cell.{Cell}
use Rattle.nvm_model.specs.Listing.{file_name}
use Rattle.nvm_model.specs.Numbered.{list_from}
use Rattle.nvm_model.specs.Page.{Page, cell_of, presence_of}
use Rattle.nvm_model.specs.Storage.{File}
use Rattle.nvm_model.proofs.AlikeLemmas.{alike-among}
use Rattle.nvm_model.proofs.KeptLemmas.{LineKept, pages_stand-kept}
use Rattle.nvm_model.proofs.ListedLemmas.{in_order-contains}
use Rattle.nvm_model.proofs.NumberedLemmas.{length-list_from, slice_get-list_from, slice_get-map_from}
use Rattle.nvm_model.proofs.PageLemmas.{page_of_line}
use Rattle.file_journal.specs.Files.{UnitFile, files_of, unit_file, unit_file_name, unit_slots}
use Rattle.file_journal.specs.Standing.{FileStands, FilesStand, line_of_file, line_on, pages_there}
use Rattle.file_journal.specs.Tables.{AreTables, Tables, unit_at}

-- a unit's lines are those of files
pub unit_line_in : (geo : Geometry) (unit n : ℕ) → unit < geo.fpages → HasLine geo file_pages (file_line geo unit + n % 64)
unfolding size
unit_line_in geo unit n below = (omega arith, omega (arith, below))

-- a file of tables is that of an inode
pub record IsOfInode (t : Tables) (on : UnitFile) : Type 0 where
  pub inode : ℕ
  pub file : FileEntry
  pub is : slice_get t.files inode ≡ Some (Some file)
  pub units : on ≡ unit_file t inode file

pub inode_of_file : (t : Tables) (on : UnitFile) → Contains (files_of t) on → IsOfInode t on
inode_of_file t on has =
    let listed = in_order-contains unit_file_name (unit_slots t) on has in
    by_slot listed.0 (slice_get t.files listed.0) refl
    (sym (slice_get-map_from (λ j s. option_map (unit_file t j) s) 0 t.files listed.0)
    ∙ slice_get-get_or (unit_slots t) listed.0 (Some on) listed.1 ∙ ap (λ (o : Option UnitFile). Some o) listed.2)
  where
    by_slot : (j : ℕ) (o : Option (Option FileEntry)) → slice_get t.files j ≡ o → option_map (option_map (unit_file t (0 + j))) o ≡ Some (Some on) → IsOfInode t on
    by_slot j None was is = cc
    by_slot j (Some None) was is = cc
    by_slot j (Some (Some file)) was is =
        let e : 0 + j ≡ j = omega arith in
        let same : unit_file t (0 + j) file ≡ on = cc in
        record { inode = j; file = file; is = was; units = sym same ∙ ap (λ k. unit_file t k file) e }

-- a unit of such a file is a page's of the tables
pub entry_of_unit : (size : ℕ) (t : Tables) (on : UnitFile) → AreTables size t → Contains (files_of t) on → (k unit : ℕ) → slice_get on.units k ≡ Some (Some unit)
    → (entry : ℕ) × IsOn t.pages entry unit
entry_of_unit size t on are has k unit is =
    let of = inode_of_file t on has in
    let units : on.units ≡ list_from (unit_at t of.inode) 0 of.file.pages = ap (λ (x : UnitFile). x.units) of.units in
    let within : k < of.file.pages = omega (arith, slice_get_within on.units k (Some unit) is, ap (λ (us : List (Option ℕ)). length us) units, length-list_from (unit_at t of.inode) 0 of.file.pages) in
    let e : 0 + k ≡ k = omega arith in
    let at : unit_at t of.inode k ≡ Some unit = cc (ap (λ (us : List (Option ℕ)). slice_get us k) units, slice_get-list_from (unit_at t of.inode) 0 of.file.pages k within, e, is) in
    let few = are.names.pages of.inode of.file of.is in
    let low = slice_get_within t.files of.inode (Some of.file) of.is in (
      256 * of.inode + k,
      slice_get-get_or t.pages (256 * of.inode + k) None (omega (arith, are.table.all, are.names.all)) ∙ ap (λ (o : Option ℕ). Some o) at,
    )

-- a page that is there is on a unit
pub unit_there : (on : UnitFile) (k : ℕ) → slice_get (pages_there on) k ≡ Some true → (unit : ℕ) × (slice_get on.units k ≡ Some (Some unit))
unit_there on k is = by_page (slice_get on.units k) refl (sym (slice_get-map is_some on.units k) ∙ is)
  where
    by_page : (o : Option (Option ℕ)) → slice_get on.units k ≡ o → option_map is_some o ≡ Some true → (unit : ℕ) × (slice_get on.units k ≡ Some (Some unit))
    by_page None was is = cc
    by_page (Some None) was is = cc
    by_page (Some (Some unit)) was is = (unit, was)

-- so each line that is there is one of those of files
pub line_there_in : (geo : Geometry) (t : Tables) (on : UnitFile) → AreTables geo.fpages t → Contains (files_of t) on → (n : ℕ) → slice_get (pages_there on) (n / 64) ≡ Some true
    → HasLine geo file_pages (line_of_file geo on n)
line_there_in geo t on are has n is =
    let unit = unit_there on (n / 64) is in
    let entry = entry_of_unit geo.fpages t on are has (n / 64) unit.0 unit.1 in
    subst (λ (o : Option ℕ). HasLine geo file_pages (line_on geo o n)) (sym (get_or_from_slice_get on.units (n / 64) (Some unit.0) None unit.1))
    (unit_line_in geo unit.0 n (are.table.within entry.0 unit.0 entry.1))

pub file_line_in : (geo : Geometry) (t : Tables) (on : UnitFile) (pages : List Page) → AreTables geo.fpages t → Contains (files_of t) on → presence_of pages ≡ pages_there on
    → (n : ℕ) (cell : Cell) → cell_of pages n ≡ Some cell → HasLine geo file_pages (line_of_file geo on n)
file_line_in geo t on pages are has there n cell is = line_there_in geo t on are has n (ap (λ (bs : List _). slice_get bs (n / 64)) (sym there) ∙ page_of_line pages n cell is)

-- files stay where lines of files are only written back
pub files-kept : (geo : Geometry) (old new : Medium) (t : Tables) (files : List File) → AreTables geo.fpages t → ((n : ℕ) → HasLine geo file_pages n → LineKept old new n)
    → FilesStand geo old t files → FilesStand geo new t files
files-kept geo old new t files are kept stand =
    alike-among unit_file_name file_name (FileStands geo old) (FileStands geo new) (files_of t) files
    (λ on file has same stands. record {
      there = stands.there;
      stand = pages_stand-kept (line_of_file geo on) old new file.pages
          (λ n cell is. kept (line_of_file geo on n) (file_line_in geo t on file.pages are has stands.there n cell is)) stands.stand;
    })
    stand
