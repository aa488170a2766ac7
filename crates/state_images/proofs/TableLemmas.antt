-- The tables of files in the image.
use Rattle.std.proofs.Common.{◌≡◌, ℕ, suc, ◌+◌, ◌*◌, ◌/◌, ◌%◌, ◌<◌, ◌≤◌, Option, Some, None, option_map, List, length, map, take, drop, get_or, slice_get, refl, sym, ap, ap₂, ◌∙◌, arith}
use Rattle.std.specs.List.{range_with_len}
use Rattle.std.proofs.lemmas.List.{get_or-drop, get_or-map, get_or-take, length-drop, length-map, length-take}
use Rattle.std.proofs.lemmas.List.FromFn.{get_or-map-range_with_len, length-map-range_with_len}
use Rattle.std.proofs.lemmas.Option.{slice_get-get_or}
use Rattle.nvm_base.specs.declared.files.FileEntry.{FileEntry}
use Rattle.word_tables.specs.declared.geometry.Geometry.{Geometry}
use Rattle.word_tables.specs.Layout.{file_log, first_line, inodes, page_tables, size}
use Rattle.word_log.specs.Replay.{replayed}
use Rattle.inode_table.specs.Words.{inode_words, slot_of, slots_of}
use Rattle.inode_table.proofs.NameWordLemmas.{slot_of-words}
use Rattle.page_table.specs.Pages.{unit_of, word_of}
use Rattle.nvm_model.specs.Numbered.{list_from}
use Rattle.nvm_model.specs.Page.{Page}
use Rattle.nvm_model.specs.Storage.{Block, File}
use Rattle.nvm_model.proofs.NumberedLemmas.{list_from-is, length-list_from, slice_get-list_from, slice_get-map_from, length-map_from}
use Rattle.file_journal.specs.Area.{file_area}
use Rattle.file_journal.specs.Files.{UnitFile, entry_of, files_of, unit_file, unit_file_name, unit_slots}
use Rattle.file_journal.specs.Reading.{tables_of, tables_read, words_read}
use Rattle.file_journal.specs.Tables.{Tables, unit_at}
use Rattle.file_journal.proofs.AreaLemmas.{tables_follow}
use Rattle.state_images.specs.Files.{entry_word_of, inode_word_of, unit_files_of, unit_in, unit_of_entry, word_in_inode}
use Rattle.state_images.specs.Images.{image_of}
use Rattle.state_images.specs.Storable.{IsStorableFiles}
use Rattle.state_images.proofs.CellLemmas.{same_items}
use Rattle.state_images.proofs.UnitLemmas.{IsEntry, entries, in_order-is, length-unit_files, units-rise}
use Rattle.state_images.proofs.WordLemmas.{gate-closed, replayed-closed, table-word}

unit_of-word_of : (page : Option ℕ) → unit_of (word_of page) ≡ page
unit_of-word_of None = refl
unit_of-word_of (Some unit) = let e : unit + 1 ≡ suc unit = omega arith in ap unit_of e

-- the words of a file's inode are read as the file
inode-read : (file : Option UnitFile) → ((on : UnitFile) → file ≡ Some on → IsEntry on) → slot_of (list_from (word_in_inode file) 0 8) ≡ option_map entry_of file
inode-read None right = refl
inode-read (Some on) right = slot_of-words (entry_of on) (right on refl).name

pub log_some : (geo : Geometry) → 0 < size geo file_log
unfolding size
log_some geo = omega arith

pub inode_lines : (geo : Geometry) → size geo inodes ≡ 64
unfolding size
inode_lines geo = refl

pub entry_lines : (geo : Geometry) → size geo page_tables ≡ 2048
unfolding size
entry_lines geo = refl

module _ (geo : Geometry) (blocks : List Block) (volume : List Page) (files : List File) where
  -- the words of the tables, in their order
  table : List ℕ
  table = words_read geo (image_of geo blocks volume files).word

  table-size : length table ≡ 16896
  unfolding table words_read
  table-size = length-map-range_with_len (replayed (file_area geo) (image_of geo blocks volume files).word) (8 * first_line geo inodes) 16896

  table-at : (k : ℕ) → k < 16896 → get_or table k 0 ≡ (image_of geo blocks volume files).word (8 * first_line geo inodes + k)
  unfolding table words_read
  table-at k below =
      get_or-map-range_with_len (replayed (file_area geo) (image_of geo blocks volume files).word) (8 * first_line geo inodes) 16896 k (8 * first_line geo inodes + k) 0 below refl
      ∙ replayed-closed (file_area geo) (image_of geo blocks volume files).word (8 * first_line geo inodes + k) (gate-closed geo blocks volume files file_log refl (log_some geo))

  inode-word : (w : ℕ) → w < 512 → get_or table w 0 ≡ inode_word_of (unit_files_of files) w
  inode-word w below = table-at w (omega arith) ∙ table-word geo blocks volume files inodes (inode_word_of (unit_files_of files)) w refl (omega (arith, inode_lines geo))

  entry-word : (w : ℕ) → w < 16384 → get_or table (512 + w) 0 ≡ entry_word_of (unit_files_of files) w
  entry-word w below =
      let at : 8 * first_line geo inodes + (512 + w) ≡ 8 * first_line geo page_tables + w = omega (arith, tables_follow geo) in
      table-at (512 + w) (omega arith)
      ∙ ap (image_of geo blocks volume files).word at
      ∙ table-word geo blocks volume files page_tables (entry_word_of (unit_files_of files)) w refl (omega (arith, entry_lines geo))

  -- an inode's words
  inode-list : (i : ℕ) → i < 64 → inode_words (take 512 table) i ≡ list_from (word_in_inode (slice_get (unit_files_of files) i)) 0 8
  inode-list i below =
      let own : ℕ → ℕ = word_in_inode (slice_get (unit_files_of files) i) in
      let xs : List ℕ = inode_words (take 512 table) i in
      let long : length xs ≡ 8 = omega (arith, length-take 8 (drop (8 * i) (take 512 table)), length-drop (8 * i) (take 512 table), length-take 512 table, table-size) in
      list_from-is own 0 xs (λ k low.
      let small : k < 8 = omega (arith, low, long) in
      let inode : (8 * i + k) / 8 ≡ i = omega arith in
      let rest : (8 * i + k) % 8 ≡ 0 + k = omega arith in
      get_or-take 8 (drop (8 * i) (take 512 table)) k 0 small
      ∙ get_or-drop (8 * i) (take 512 table) k 0
      ∙ get_or-take 512 table (8 * i + k) 0 (omega arith)
      ∙ inode-word (8 * i + k) (omega arith)
      ∙ ap₂ (λ (j l : ℕ). word_in_inode (slice_get (unit_files_of files) j) l) inode rest)
      ∙ ap (list_from own 0) long

  module _ (storable : IsStorableFiles geo files) where
    pub entry : (i : ℕ) (on : UnitFile) → slice_get (unit_files_of files) i ≡ Some on → IsEntry on
    entry i on is = entries 0 files i on storable.each is

    pub slot-is : (i : ℕ) → i < 64 → slice_get (tables_read geo (image_of geo blocks volume files).word).files i ≡ Some (option_map entry_of (slice_get (unit_files_of files) i))
    unfolding tables_of slots_of table
    slot-is i below =
        let f : ℕ → Option FileEntry = λ inode. slot_of (inode_words (take 512 table) inode) in
        slice_get-get_or (map f (range_with_len 0 64)) i None (omega (arith, length-map-range_with_len f 0 64))
        ∙ ap Some
        (get_or-map-range_with_len f 0 64 i i None below (omega arith)
        ∙ ap slot_of (inode-list i below)
        ∙ inode-read (slice_get (unit_files_of files) i) (entry i))

    pub slots-all : length (tables_read geo (image_of geo blocks volume files).word).files ≡ 64
    unfolding tables_of slots_of table
    slots-all = length-map-range_with_len (λ inode. slot_of (inode_words (take 512 table) inode)) 0 64

    pub pages-all : length (tables_read geo (image_of geo blocks volume files).word).pages ≡ 16384
    unfolding tables_of table
    pages-all = length-map (drop 512 table) unit_of ∙ omega (arith, length-drop 512 table, table-size)

    pub entry-is : (e : ℕ) → e < 16384 → get_or (tables_read geo (image_of geo blocks volume files).word).pages e None ≡ unit_of_entry (unit_files_of files) e
    unfolding tables_of table
    entry-is e below =
        get_or-map unit_of (drop 512 table) e 0 None (omega (arith, length-drop 512 table, table-size))
        ∙ ap unit_of (get_or-drop 512 table e 0 ∙ entry-word e below)
        ∙ unit_of-word_of (unit_of_entry (unit_files_of files) e)

    pub unit-is : (i page : ℕ) → i < 64 → page < 256 → unit_at (tables_read geo (image_of geo blocks volume files).word) i page ≡ unit_in (slice_get (unit_files_of files) i) page
    unit-is i page below small =
        let inode : (256 * i + page) / 256 ≡ i = omega arith in
        let rest : (256 * i + page) % 256 ≡ page = omega arith in
        entry-is (256 * i + page) (omega arith) ∙ ap₂ (λ (j p : ℕ). unit_in (slice_get (unit_files_of files) j) p) inode rest

    -- a file with its units
    file-is : (i : ℕ) (on : UnitFile) → i < 64 → slice_get (unit_files_of files) i ≡ Some on
        → unit_file (tables_read geo (image_of geo blocks volume files).word) i (entry_of on) ≡ on
    file-is i on below is =
        let t : Tables = tables_read geo (image_of geo blocks volume files).word in
        let few : length on.units ≤ 256 = (entry i on is).few in
        ap (λ (us : List (Option ℕ)). record { name = on.name; units = us })
        (same_items (list_from (unit_at t i) 0 (length on.units)) on.units (length-list_from (unit_at t i) 0 (length on.units)) (λ k low.
        let inside : k < length on.units = omega (arith, low, length-list_from (unit_at t i) 0 (length on.units)) in
        let at : 0 + k ≡ k = omega arith in
        slice_get-list_from (unit_at t i) 0 (length on.units) k inside
        ∙ ap (λ p. Some (unit_at t i p)) at
        ∙ ap Some (unit-is i k below (omega arith) ∙ ap (λ o. unit_in o k) is)
        ∙ sym (slice_get-get_or on.units k None inside)))

    file-slot : (i : ℕ) → i < 64 → (o : Option UnitFile) → slice_get (unit_files_of files) i ≡ o
        → option_map (unit_file (tables_read geo (image_of geo blocks volume files).word) i) (option_map entry_of o) ≡ o
    file-slot i below None is = refl
    file-slot i below (Some on) is = ap Some (file-is i on below is)

    pub files_of-image : files_of (tables_read geo (image_of geo blocks volume files).word) ≡ unit_files_of files
    files_of-image =
        let t : Tables = tables_read geo (image_of geo blocks volume files).word in
        let f : ℕ → Option FileEntry → Option UnitFile = λ inode slot. option_map (unit_file t inode) slot in
        let all : length (unit_slots t) ≡ 64 = length-map_from f 0 t.files ∙ slots-all in
        in_order-is unit_file_name (unit_slots t) (unit_files_of files) (omega (arith, all, length-unit_files 0 files, storable.few))
        (λ i low.
        let below : i < 64 = omega (arith, low, all) in
        let at : 0 + i ≡ i = omega arith in
        slice_get-map_from f 0 t.files i
        ∙ ap (λ (j : ℕ). option_map (f j) (slice_get t.files i)) at
        ∙ ap (option_map (f i)) (slot-is i below)
        ∙ ap Some (file-slot i below (slice_get (unit_files_of files) i) refl))
        (units-rise 0 files ∙ storable.in_order)
