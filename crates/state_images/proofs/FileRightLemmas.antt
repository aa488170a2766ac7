-- A mount finds nothing wrong with the tables of files in the image.
use Rattle.std.proofs.Common.{◌≡◌, ℕ, zero, suc, ◌+◌, ◌*◌, ◌/◌, ◌%◌, ◌<◌, ◌≤◌, true, Option, Some, None, option_map, List, [], ◌∷◌, length, map, get_or, slice_get, refl, sym, ap, ap₂, subst, ◌∙◌, arith}
use Rattle.std.specs.List.{list_all}
use Rattle.std.proofs.lemmas.Bool.{and_parts, false≢true}
use Rattle.std.proofs.lemmas.List.FromFn.{fill_by_all}
use Rattle.std.proofs.lemmas.Option.{get_or_from_slice_get, slice_get-map, slice_get_within}
use Rattle.nvm_base.specs.Names.{is_name, name_in}
use Rattle.nvm_base.specs.declared.files.FileEntry.{FileEntry}
use Rattle.nvm_base.proofs.NameLemmas.{name_in-padded}
use Rattle.word_tables.specs.declared.geometry.Geometry.{Geometry}
use Rattle.word_tables.specs.Bounds.{IsValid}
use Rattle.word_tables.specs.Layout.{file_log, inodes, page_tables}
use Rattle.word_tables.specs.Words.{place, of_inode}
use Rattle.word_log.proofs.ReplayLemmas.{replays_closed}
use Rattle.inode_table.specs.Holds.{HoldsSlot}
use Rattle.inode_table.specs.Slots as names
use Rattle.inode_table.specs.Slots.{pages_of}
use Rattle.inode_table.proofs.NameWordLemmas.{bytes_in-name}
use Rattle.page_table.specs.Pages as units
use Rattle.page_table.specs.Pages.{IsOn, IsWithinCounts, used_pages, word_of}
use Rattle.nvm_model.specs.Listing.{is_before, rises}
use Rattle.nvm_model.specs.Numbered.{list_from}
use Rattle.nvm_model.specs.Page.{Page}
use Rattle.nvm_model.specs.Storage.{Block, File}
use Rattle.nvm_model.proofs.NumberedLemmas.{list_from-same}
use Rattle.nvm_model.proofs.OrderLemmas.{before-itself}
use Rattle.file_journal.specs.Area.{file_area}
use Rattle.file_journal.specs.Files.{UnitFile, entry_of, unit_file_name}
use Rattle.file_journal.specs.Holds.{Holds, inode_at}
use Rattle.file_journal.specs.Reading.{tables_read, wrong_file_place}
use Rattle.file_journal.proofs.TableReadLemmas.{no_wrong_file}
use Rattle.state_images.specs.Files.{all_present, entry_word_of, inode_word_of, unit_files_of, unit_in, unit_of_entry, word_in_inode}
use Rattle.state_images.specs.Images.{image_of}
use Rattle.state_images.specs.Storable.{IsStorableFiles}
use Rattle.state_images.proofs.NumberLemmas.{file-number, file-once, used-files}
use Rattle.state_images.proofs.TableLemmas.{entry, entry-is, entry_lines, inode_lines, log_some, pages-all, slot-is, slots-all, unit-is}
use Rattle.state_images.proofs.UnitLemmas.{IsEntry, units-rise}
use Rattle.state_images.proofs.WordLemmas.{gate-closed, table-word}

-- the words of a file's inode hold its slot
inode-held : (file : Option UnitFile) → ((on : UnitFile) → file ≡ Some on → IsEntry on) → HoldsSlot (list_from (word_in_inode file) 0 8) (option_map entry_of file)
inode-held None right = record { first = refl; name = tt; rest = nothing }
  where
    nothing : (k : ℕ) → 5 ≤ k → k < 8 → get_or (list_from (word_in_inode None) 0 8) k 0 ≡ 0
    nothing zero from below = refl
    nothing (suc zero) from below = refl
    nothing (suc (suc zero)) from below = refl
    nothing (suc (suc (suc zero))) from below = refl
    nothing (suc (suc (suc (suc zero)))) from below = refl
    nothing (suc (suc (suc (suc (suc zero))))) from below = refl
    nothing (suc (suc (suc (suc (suc (suc zero)))))) from below = refl
    nothing (suc (suc (suc (suc (suc (suc (suc zero))))))) from below = refl
    nothing (suc (suc (suc (suc (suc (suc (suc (suc k)))))))) from below = refl
inode-held (Some on) right = record {
  first = refl;
  name = ap name_in (bytes_in-name on.name (right on refl).name) ∙ name_in-padded on.name (right on refl).name;
  rest = nothing;
}
  where
    nothing : (k : ℕ) → 5 ≤ k → k < 8 → get_or (list_from (word_in_inode (Some on)) 0 8) k 0 ≡ 0
    nothing zero from below = absurd (omega arith)
    nothing (suc zero) from below = absurd (omega arith)
    nothing (suc (suc zero)) from below = absurd (omega arith)
    nothing (suc (suc (suc zero))) from below = absurd (omega arith)
    nothing (suc (suc (suc (suc zero)))) from below = absurd (omega arith)
    nothing (suc (suc (suc (suc (suc zero))))) from below = refl
    nothing (suc (suc (suc (suc (suc (suc zero)))))) from below = refl
    nothing (suc (suc (suc (suc (suc (suc (suc zero))))))) from below = refl
    nothing (suc (suc (suc (suc (suc (suc (suc (suc k)))))))) from below = refl

-- names that rise are different
module _ {A : Type 0} (name : A → List ℕ) where
  all-at : (lowest : List ℕ) (xs : List A) (i : ℕ) (x : A) → list_all (λ y. is_before lowest (name y)) xs ≡ true → slice_get xs i ≡ Some x → is_before lowest (name x) ≡ true
  all-at lowest [] i x all is = cc
  all-at lowest (y ∷ ys) zero x all is = let same : y ≡ x = cc in ap (λ z. is_before lowest (name z)) (sym same) ∙ (and_parts _ _ all).0
  all-at lowest (y ∷ ys) (suc i) x all is = all-at lowest ys i x (and_parts _ _ all).1 is

  not-itself : (a b : List ℕ) → a ≡ b → is_before a b ≡ true → ⊥
  not-itself a b same before = false≢true (sym (before-itself b) ∙ ap (λ n. is_before n b) (sym same) ∙ before)

  one-of_name : (xs : List A) (i j : ℕ) (x y : A) → rises name xs ≡ true → slice_get xs i ≡ Some x → slice_get xs j ≡ Some y → name x ≡ name y → i ≡ j
  one-of_name [] i j x y up is also same = cc
  one-of_name (z ∷ zs) zero zero x y up is also same = refl
  one-of_name (z ∷ zs) zero (suc j) x y up is also same =
      let first : z ≡ x = cc in absurd (not-itself (name z) (name y) (ap name first ∙ same) (all-at (name z) zs j y (and_parts _ _ up).0 also))
  one-of_name (z ∷ zs) (suc i) zero x y up is also same =
      let first : z ≡ y = cc in absurd (not-itself (name z) (name x) (ap name first ∙ sym same) (all-at (name z) zs i x (and_parts _ _ up).0 is))
  one-of_name (z ∷ zs) (suc i) (suc j) x y up is also same = ap suc (one-of_name zs i j x y (and_parts _ _ up).1 is also same)

-- the file of an inode in use
file-of : (o : Option UnitFile) (file : FileEntry) → Some (option_map entry_of o) ≡ Some (Some file) → (on : UnitFile) × (o ≡ Some on) × (entry_of on ≡ file)
file-of None file is = cc
file-of (Some on) file is = (on, refl, cc)

-- a page that is on a unit is one of the file's
page-of : (o : Option UnitFile) (page unit : ℕ) → unit_in o page ≡ Some unit → page < pages_of (option_map entry_of o)
page-of None page unit is = cc
page-of (Some on) page unit is = inside on.units page is
  where
    inside : (us : List (Option ℕ)) (page : ℕ) → get_or us page None ≡ Some unit → page < length us
    inside [] page is = cc
    inside (u ∷ us) zero is = omega arith
    inside (u ∷ us) (suc page) is = omega (arith, inside us page is)

module _ (geo : Geometry) (blocks : List Block) (volume : List Page) (files : List File) (storable : IsStorableFiles geo files) where
  inode-at : (i : ℕ) → i < 64 → inode_at geo (image_of geo blocks volume files).word i ≡ list_from (word_in_inode (slice_get (unit_files_of files) i)) 0 8
  inode-at i below =
      list_from-same (λ k. (image_of geo blocks volume files).word (place geo (of_inode i k))) (word_in_inode (slice_get (unit_files_of files) i)) 0 0 8 (λ k low.
      let at : 0 + k ≡ k = omega arith in
      let inode : (8 * i + k) / 8 ≡ i = omega arith in
      let rest : (8 * i + k) % 8 ≡ k = omega arith in
      ap (λ j. (image_of geo blocks volume files).word (place geo (of_inode i j))) at
      ∙ table-word geo blocks volume files inodes (inode_word_of (unit_files_of files)) (8 * i + k) refl (omega (arith, inode_lines geo))
      ∙ ap₂ (λ (j l : ℕ). word_in_inode (slice_get (unit_files_of files) j) l) inode rest
      ∙ ap (word_in_inode (slice_get (unit_files_of files) i)) (sym at))

  tables-held : Holds geo (image_of geo blocks volume files).word (tables_read geo (image_of geo blocks volume files).word)
  tables-held = record {
    slots = λ i below.
        subst (λ ws. HoldsSlot ws (get_or (tables_read geo (image_of geo blocks volume files).word).files i None)) (sym (inode-at i below))
        (subst (HoldsSlot (list_from (word_in_inode (slice_get (unit_files_of files) i)) 0 8))
        (sym (get_or_from_slice_get (tables_read geo (image_of geo blocks volume files).word).files i _ None (slot-is geo blocks volume files storable i below)))
        (inode-held (slice_get (unit_files_of files) i) (entry geo blocks volume files storable i)));
    pages = λ i page below small.
        let inode : (256 * i + page) / 256 ≡ i = omega arith in
        let rest : (256 * i + page) % 256 ≡ page = omega arith in
        table-word geo blocks volume files page_tables (entry_word_of (unit_files_of files)) (256 * i + page) refl (omega (arith, entry_lines geo))
        ∙ ap₂ (λ (j l : ℕ). word_of (unit_in (slice_get (unit_files_of files) j) l)) inode rest
        ∙ ap word_of (sym (unit-is geo blocks volume files storable i page below small));
  }

  slot-file : (i : ℕ) (file : FileEntry) → slice_get (tables_read geo (image_of geo blocks volume files).word).files i ≡ Some (Some file)
      → (on : UnitFile) × (slice_get (unit_files_of files) i ≡ Some on) × (entry_of on ≡ file)
  slot-file i file is =
      let below : i < 64 = omega (arith, slice_get_within (tables_read geo (image_of geo blocks volume files).word).files i (Some file) is, slots-all geo blocks volume files storable) in
      file-of (slice_get (unit_files_of files) i) file (sym (slot-is geo blocks volume files storable i below) ∙ is)

  names-right : names.IsTable (tables_read geo (image_of geo blocks volume files).word).files
  names-right = record {
    all = slots-all geo blocks volume files storable;
    name = λ i file is.
        let on = slot-file i file is in
        ap (λ (f : FileEntry). is_name f.name) (sym on.2) ∙ (entry geo blocks volume files storable i on.0 on.1).name;
    pages = λ i file is.
        let on = slot-file i file is in
        subst (λ (f : FileEntry). f.pages ≤ 256) on.2 (entry geo blocks volume files storable i on.0 on.1).few;
    apart = λ i j a b is also same.
        let on = slot-file i a is in
        let other = slot-file j b also in
        one-of_name unit_file_name (unit_files_of files) i j on.0 other.0 (units-rise 0 files ∙ storable.in_order) on.1 other.1
        (ap (λ (f : FileEntry). f.name) on.2 ∙ same ∙ ap (λ (f : FileEntry). f.name) (sym other.2));
  }

  entry-unit : (e unit : ℕ) → IsOn (tables_read geo (image_of geo blocks volume files).word).pages e unit → (e < 16384) × (unit_of_entry (unit_files_of files) e ≡ Some unit)
  entry-unit e unit is =
      let below : e < 16384 = omega (arith, slice_get_within (tables_read geo (image_of geo blocks volume files).word).pages e (Some unit) is, pages-all geo blocks volume files storable) in
      (below, sym (entry-is geo blocks volume files storable e below) ∙ get_or_from_slice_get (tables_read geo (image_of geo blocks volume files).word).pages e (Some unit) None is)

  units-right : IsValid geo → units.IsTable (record { units = geo.fpages; pages = (tables_read geo (image_of geo blocks volume files).word).pages })
  units-right valid = record {
    few = valid.most_fpages;
    all = pages-all geo blocks volume files storable;
    within = λ e unit is.
        let number = file-number 0 files (e / 256) (e % 256) unit (entry-unit e unit is).1 in
        omega (arith, number.1, storable.room);
    apart = λ a b unit is also.
        let once = file-once 0 files (a / 256) (a % 256) (b / 256) (b % 256) unit (entry-unit a unit is).1 (entry-unit b unit also).1 in
        omega (arith, once.0, once.1);
  }

  counts-right : IsWithinCounts (map pages_of (tables_read geo (image_of geo blocks volume files).word).files) (tables_read geo (image_of geo blocks volume files).word).pages
  counts-right e unit is =
      let own = entry-unit e unit is in
      let i : ℕ = e / 256 in
      let below : i < 64 = omega (arith, own.0) in
      let count : get_or (map pages_of (tables_read geo (image_of geo blocks volume files).word).files) i 0 ≡ pages_of (option_map entry_of (slice_get (unit_files_of files) i)) =
      get_or_from_slice_get (map pages_of (tables_read geo (image_of geo blocks volume files).word).files) i _ 0
      (slice_get-map pages_of (tables_read geo (image_of geo blocks volume files).word).files i ∙ ap (option_map pages_of) (slot-is geo blocks volume files storable i below)) in
      subst (λ n. e % 256 < n) (sym count) (page-of (slice_get (unit_files_of files) i) (e % 256) unit own.1)

  all-used : used_pages (tables_read geo (image_of geo blocks volume files).word).pages ≡ length (all_present files)
  all-used =
      ap used_pages
      (fill_by_all (unit_of_entry (unit_files_of files)) (tables_read geo (image_of geo blocks volume files).word).pages 16384 None (pages-all geo blocks volume files storable) (λ e below. entry-is geo blocks volume files storable e below))
      ∙ used-files (unit_of_entry (unit_files_of files)) 0 64 0 files storable.few storable.each (λ j page low small.
      let at : 256 * (0 + j) + page ≡ 256 * j + page = omega arith in
      let inode : (256 * (0 + j) + page) / 256 ≡ j = omega arith in
      let rest : (256 * (0 + j) + page) % 256 ≡ page = omega arith in
      ap₂ (λ (i p : ℕ). unit_in (slice_get (unit_files_of files) i) p) inode rest)

  pub tables-right : IsValid geo → length (all_present files) + 16 ≤ geo.fpages → wrong_file_place geo (image_of geo blocks volume files).word ≡ None
  tables-right valid room =
      let word : ℕ → ℕ = (image_of geo blocks volume files).word in
      no_wrong_file geo word word (tables_read geo word)
      (replays_closed (file_area geo) word word (gate-closed geo blocks volume files file_log refl (log_some geo)) (λ p home. refl))
      tables-held
      (record { names = names-right; table = units-right valid; counted = counts-right; room = omega (arith, all-used, room) })
