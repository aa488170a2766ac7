-- What changes of tables make of the files that a device stands for.
use Rattle.std.proofs.Common.{◌≡◌, ◌≢◌, ◌⊎◌, inl, inr, ℕ, ◌-◌, ◌/◌, ◌<◌, ◌≤◌, true, false, is_some, List, None, length, map, replicate, take, ◌++◌, slice_index_or, refl, sym, ap, subst, ◌∙◌, arith}
use Rattle.std.proofs.lemmas.List.{length-map}
use Rattle.std.proofs.lemmas.Option.{get_or_from_slice_get, slice_get-get_or}
use Rattle.line_device.specs.Medium.{Medium}
use Rattle.nvm_base.specs.Names.{is_name}
use Rattle.word_tables.specs.declared.geometry.Geometry.{Geometry}
use Rattle.word_tables.specs.Layout.{file_pages, HasLine}
use Rattle.inode_table.specs.Slots.{file_count}
use Rattle.nvm_model.specs.Files.{new_file, with_name, with_pages}
use Rattle.nvm_model.specs.Listing.{AreAlike, change_file, file_name, put_file, rename_file, without_file}
use Rattle.nvm_model.specs.Page.{is_present}
use Rattle.nvm_model.specs.Page.Page.{Absent}
use Rattle.nvm_model.specs.Storage.{File}
use Rattle.nvm_model.proofs.AlikeChangeLemmas.{alike-change, alike-rename, alike-without}
use Rattle.nvm_model.proofs.AlikeLemmas.{alike-put}
use Rattle.nvm_model.proofs.KeptLemmas.{LineKept}
use Rattle.nvm_model.proofs.ResizeLemmas.{map-replicate, map-resized, pages_stand-absent, pages_stand-resized, presence_of-resized, resized-kept}
use Rattle.file_journal.specs.Changes.{created, deleted, renamed, resized}
use Rattle.file_journal.specs.Files.{UnitFile, files_of, hole_file, named_file, resized_file, unit_file_name}
use Rattle.file_journal.specs.Holds.{Holds}
use Rattle.file_journal.specs.Images.{EachReadsTables, IsEither}
use Rattle.file_journal.specs.Standing.{EachReadsFiles, FileStands, FilesStand, ReadsFiles, line_of_file, line_on}
use Rattle.file_journal.specs.Tables.{AreTables, Tables, has_file}
use Rattle.file_journal.proofs.FilesOfLemmas.{files_of-created}
use Rattle.file_journal.proofs.NamedFileLemmas.{files_of-deleted, files_of-renamed, files_of-resized}
use Rattle.file_journal.proofs.StandingLemmas.{files-kept}
use Rattle.file_journal.proofs.TableChangeLemmas.{created_are, deleted_are, renamed_are, resized_are}

-- Tables become others as the files become those that f makes of them.
pub record Becomes (geo : Geometry) (old new : Tables) (f : List File → List File) : Type 0 where
  pub right : AreTables geo.fpages new
  pub keeps : (m : Medium) (files : List File) → FilesStand geo m old files → FilesStand geo m new (f files)

-- as many pages in both
pub units-pages : (geo : Geometry) (m : Medium) (on : UnitFile) (file : File) → FileStands geo m on file → length file.pages ≡ length on.units
units-pages geo m on file stands = sym (length-map file.pages is_present) ∙ ap length stands.there ∙ length-map on.units is_some

-- a new file stands anywhere
pub file_stands-new : (geo : Geometry) (m : Medium) (name : List ℕ) (pages : ℕ) → FileStands geo m (hole_file name pages) (new_file name pages)
file_stands-new geo m name pages = record {
  there = map-replicate is_present pages Absent ∙ sym (map-replicate is_some pages None);
  stand = pages_stand-absent (line_of_file geo (hole_file name pages)) m pages;
}

-- a file that is cut or made longer stands on the units that are left
pub file_stands-resized : (geo : Geometry) (m : Medium) (pages : ℕ) (on : UnitFile) (file : File) → FileStands geo m on file
    → FileStands geo m (resized_file pages on) (with_pages pages file)
file_stands-resized geo m pages on file stands =
    let size = units-pages geo m on file stands in
    let there : map is_present file.pages ≡ map is_some on.units = stands.there in
    record {
      there = presence_of-resized pages file.pages
          ∙ ap (λ bs. take pages bs ++ replicate (pages - length bs) false) there
          ∙ sym (map-resized is_some pages on.units None);
      stand = pages_stand-resized (line_of_file geo on) (line_of_file geo (resized_file pages on)) m pages file.pages
          (λ k low within.
          let inside : k / 64 < length on.units = omega (arith, within, size) in
          ap (λ o. line_on geo o k) (unit_kept (k / 64) low inside))
          stands.stand;
    }
  where
    unit_kept : (i : ℕ) → i < pages → i < length on.units → slice_index_or (resized_file pages on).units i None ≡ slice_index_or on.units i None
    unit_kept i low inside =
        let unit = slice_index_or on.units i None in
        let is = slice_get-get_or on.units i None inside in
        get_or_from_slice_get (resized_file pages on).units i unit None (resized-kept pages on.units None i low inside ∙ is)

-- What each command makes of them.
module _ (geo : Geometry) (t : Tables) (are : AreTables geo.fpages t) (name : List ℕ) where
  abbrev alike : Medium → List UnitFile → List File → Type 0
  alike m xs files = AreAlike unit_file_name file_name (FileStands geo m) xs files

  pub created_becomes : (pages : ℕ) → is_name name ≡ true → pages ≤ 256 → has_file t name ≡ false → file_count t.files ≢ 64
      → Becomes geo t (created name pages t) (put_file file_name (new_file name pages))
  created_becomes pages good few none room = record {
    right = created_are geo.fpages t are name pages good few none room;
    keeps = λ m files stand.
        subst (λ xs. alike m xs (put_file file_name (new_file name pages) files)) (sym (files_of-created geo.fpages t are name pages few none room))
        (alike-put unit_file_name file_name (FileStands geo m) (hole_file name pages) (new_file name pages) (files_of t) files refl (file_stands-new geo m name pages) stand);
  }

  pub deleted_becomes : Becomes geo t (deleted name t) (without_file file_name name)
  deleted_becomes = record {
    right = deleted_are geo.fpages t are name;
    keeps = λ m files stand.
        subst (λ xs. alike m xs (without_file file_name name files)) (sym (files_of-deleted geo.fpages t are name))
        (alike-without unit_file_name file_name (FileStands geo m) name (files_of t) files stand);
  }

  pub renamed_becomes : (to : List ℕ) → is_name to ≡ true → has_file t to ≡ false → Becomes geo t (renamed name to t) (rename_file file_name name (with_name to))
  renamed_becomes to good none = record {
    right = renamed_are geo.fpages t are name to good none;
    keeps = λ m files stand.
        subst (λ xs. alike m xs (rename_file file_name name (with_name to) files)) (sym (files_of-renamed geo.fpages t are name to none))
        (alike-rename unit_file_name file_name (FileStands geo m) name (named_file to) (with_name to) (files_of t) files
        (λ on file stands. (refl, record { there = stands.there; stand = stands.stand })) stand);
  }

  pub resized_becomes : (pages : ℕ) → pages ≤ 256 → Becomes geo t (resized name pages t) (change_file file_name name (with_pages pages))
  resized_becomes pages few = record {
    right = resized_are geo.fpages t are name pages few;
    keeps = λ m files stand.
        subst (λ xs. alike m xs (change_file file_name name (with_pages pages) files)) (sym (files_of-resized geo.fpages t are name pages few))
        (alike-change unit_file_name file_name (FileStands geo m) (FileStands geo m) name (resized_file pages) (with_pages pages) (files_of t) files
        (λ on file is is_file stands. (is ∙ sym is_file, file_stands-resized geo m pages on file stands))
        (λ on file other same stands. stands) stand);
  }

-- Each image that holds the tables before a change or after it reads as the files before it or after it.
pub changed_images : (geo : Geometry) (old new : Medium) (t after : Tables) (f : List File → List File) (files : List File) → AreTables geo.fpages t → Becomes geo t after f
    → FilesStand geo old t files → ((n : ℕ) → HasLine geo file_pages n → LineKept old new n) → EachReadsTables geo new (IsEither t after)
    → EachReadsFiles geo new (λ x. (x ≡ files) ⊎ (x ≡ f files))
changed_images geo old new t after f files are becomes stand kept each image is =
    let reads = each image is in
    let now = files-kept geo old new t files are kept stand in
    elim reads.is as (λ _. ReadsFiles geo new (λ x. (x ≡ files) ⊎ (x ≡ f files)) image) [
      | inl same ↦ record {
        tables = t;
        right = are;
        word = reads.word;
        replays = reads.replays;
        holds = subst (Holds geo reads.word) same reads.holds;
        files = files;
        is = inl refl;
        stand = now;
      }
      | inr same ↦ record {
        tables = after;
        right = becomes.right;
        word = reads.word;
        replays = reads.replays;
        holds = subst (Holds geo reads.word) same reads.holds;
        files = f files;
        is = inr refl;
        stand = becomes.keeps new files now;
      }
    ]
