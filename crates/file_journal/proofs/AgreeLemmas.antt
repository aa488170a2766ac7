-- What tables tell of files, and what files that they stand for tell: the same.
use Rattle.std.proofs.Common.{◌≡◌, ◌≤◌, ℕ, true, is_some, List, [], ◌∷◌, length, map, Option, Some, slice_get, refl, sym, ap, ap₂, ◌∙◌, arith}
use Rattle.std.proofs.lemmas.Option.{slice_get-get_or}
use Rattle.std.proofs.lemmas.List.Sums.{count_by-le-length}
use Rattle.std.specs.List.{Contains}
use Rattle.line_device.specs.Medium.{Medium}
use Rattle.nvm_base.specs.Names.{is_name}
use Rattle.nvm_base.specs.declared.files.FileEntry.{FileEntry}
use Rattle.word_tables.specs.declared.geometry.Geometry.{Geometry}
use Rattle.inode_table.specs.Slots.{file_count}
use Rattle.nvm_model.specs.Files.{entry_of_file}
use Rattle.nvm_model.specs.Listing as list
use Rattle.nvm_model.specs.Listing.{AreAlike, file_name}
use Rattle.nvm_model.specs.Storage.{File}
use Rattle.nvm_model.proofs.AlikeLemmas.{alike-has, alike-length}
use Rattle.nvm_model.proofs.ListedLemmas.{in_order-contains, length-in_order}
use Rattle.file_journal.specs.Files.{UnitFile, entry_of, files_of, unit_file_name}
use Rattle.file_journal.specs.Listing.{entry_name, listed}
use Rattle.file_journal.specs.Standing.{FileStands, FilesStand}
use Rattle.file_journal.specs.Tables.{AreTables, Tables, has_file}
use Rattle.file_journal.proofs.EntryLemmas.{entries-files_of, length-files_of}
use Rattle.file_journal.proofs.FileChangeLemmas.{units-pages}
use Rattle.file_journal.proofs.NamedFileLemmas.{has_file-files_of}

entries_alike : (geo : Geometry) (m : Medium) (xs : List UnitFile) (ys : List File) → AreAlike unit_file_name file_name (FileStands geo m) xs ys → map entry_of xs ≡ map entry_of_file ys
entries_alike geo m [] [] alike = refl
entries_alike geo m [] (y ∷ ys) alike = absurd alike
entries_alike geo m (x ∷ xs) [] alike = absurd alike
entries_alike geo m (x ∷ xs) (y ∷ ys) alike =
    let one : entry_of x ≡ entry_of_file y =
    ap₂ (λ (n : List ℕ) (k : ℕ). let e : FileEntry = record { name = n; pages = k } in e) alike.0 (sym (units-pages geo m x y alike.1)) in
    ap₂ (λ (e : FileEntry) (es : List FileEntry). e ∷ es) one (entries_alike geo m xs ys alike.2)

module _ (geo : Geometry) (m : Medium) (t : Tables) (files : List File) (stand : FilesStand geo m t files) where
  -- whether there is a file of a name
  pub has_file-stands : (size : ℕ) (name : List ℕ) → AreTables size t → has_file t name ≡ list.has_file file_name name files
  has_file-stands size name are = has_file-files_of size t are name ∙ alike-has unit_file_name file_name (FileStands geo m) name (files_of t) files stand

  -- how many there are
  pub file_count-stands : file_count t.files ≡ length files
  file_count-stands = sym (length-files_of t) ∙ alike-length unit_file_name file_name (FileStands geo m) (files_of t) files stand

  -- their names and page counts in order
  pub listed-stands : listed t ≡ map entry_of_file files
  listed-stands = sym (entries-files_of t) ∙ entries_alike geo m (files_of t) files stand

-- a listed file is that of an inode, so its name is one and it has at most 256 pages
pub listed-right : (size : ℕ) (t : Tables) (file : FileEntry) → AreTables size t → Contains (listed t) file → (is_name file.name ≡ true) × (file.pages ≤ 256)
listed-right size t file are has =
    let slot = in_order-contains entry_name t.files file has in
    let is : slice_get t.files slot.0 ≡ Some (Some file) =
    slice_get-get_or t.files slot.0 (Some file) slot.1 ∙ ap (λ (o : Option FileEntry). Some o) slot.2 in
    (are.names.name slot.0 file is, are.names.pages slot.0 file is)

-- there are at most 64
pub listed-few : (size : ℕ) (t : Tables) → AreTables size t → length (listed t) ≤ 64
listed-few size t are = omega (arith, length-in_order entry_name t.files, count_by-le-length is_some t.files, are.names.all)
