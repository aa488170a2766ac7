-- Storage that is read from an image is kept.
use Rattle.std.proofs.Common.{◌≡◌, ℕ, zero, suc, ◌+◌, ◌*◌, ◌/◌, ◌%◌, ◌<◌, ◌≤◌, Bool, true, false, cond, ◌&&◌, Option, Some, None, option_map, List, [], ◌∷◌, is_some, length, map, slice_get, refl, sym, ap, ap₂, subst, ◌∙◌, arith}
use Rattle.std.specs.List.{list_all}
use Rattle.std.proofs.lemmas.List.{length-map}
use Rattle.std.proofs.lemmas.Option.{same_Some}
use Rattle.line_device.specs.Device.{Depicts}
use Rattle.line_device.specs.Medium.{Medium}
use Rattle.line_device.specs.Panel.{Image}
use Rattle.nvm_base.specs.Names.{is_name}
use Rattle.nvm_base.specs.declared.files.FileEntry.{FileEntry}
use Rattle.word_tables.specs.declared.geometry.Geometry.{Geometry}
use Rattle.word_tables.specs.Layout.{block_line, total_lines}
use Rattle.block_map.specs.declared.state.BlockState.{BlockState}
use Rattle.block_map.specs.declared.state.BlockState.TheVariants as state
use Rattle.nvm_model.specs.Cell.{read_cell}
use Rattle.nvm_model.specs.Cell.Cell.{Bad, Kept}
use Rattle.nvm_model.specs.Listing.{AreApart, file_name, in_order, is_before, put_file, rises}
use Rattle.nvm_model.specs.Numbered.{list_from}
use Rattle.nvm_model.specs.Page.{read_pages}
use Rattle.nvm_model.specs.Storage.{File}
use Rattle.nvm_model.proofs.NumberedLemmas.{length-list_from, length-map_from, slice_get-map_from}
use Rattle.nvm_model.proofs.PageLemmas.{cell_of-read_pages, length-read_pages, read_pages-there}
use Rattle.nvm_model.proofs.RiseLemmas.{rises-in_order}
use Rattle.block_device.specs.Reading.{block_read, blocks_read, byte_of, line_read, states_read}
use Rattle.file_journal.specs.Files.{UnitFile, files_of, unit_file, unit_file_name, unit_slots}
use Rattle.file_journal.specs.Reading.{tables_read}
use Rattle.file_journal.specs.Standing.{file_read, files_read, line_of_file, pages_there}
use Rattle.file_journal.specs.Tables.{AreTables, Tables, unit_at}
use Rattle.file_journal.proofs.FilesOfLemmas.{file_of-slot}
use Rattle.file_journal.proofs.RestartLemmas.{read-stands}
use Rattle.machine_model.proofs.UsedPageLemmas.{used_seen}
use Rattle.outcomes.specs.Outcome.{AllHaveValues, HasValues, HaveValues}
use Rattle.state_images.specs.Storable.{AreWholeBlocks, IsLineOfBytes, IsWholeBlock}
use Rattle.outcome_runs.specs.Kept.{AreListed, HaveNames}
use Rattle.outcome_runs.proofs.BlockKeptLemmas.{bytes_from, lines_from}
use Rattle.outcome_runs.proofs.CountLemmas.{pages_are_used}
use Rattle.outcome_runs.proofs.ListedLemmas.{listed_by}
use Rattle.durable.proofs.RewrittenLemmas.{byte_at-small}

-- blocks
byte_low : (word : ℕ → ℕ) (i : ℕ) → byte_of word i < 256
byte_low word i = byte_at-small (i % 8) (word (i / 8))

line_whole : (bad : ℕ → Bool) (word : ℕ → ℕ) (n : ℕ) → IsLineOfBytes (line_read bad word n)
line_whole bad word n = by_mark (bad n)
  where
    by_mark : (b : Bool) → IsLineOfBytes (cond b None (Some (list_from (byte_of word) (64 * n) 64)))
    by_mark true = tt
    by_mark false = (length-list_from (byte_of word) (64 * n) 64, bytes_from (byte_of word) (64 * n) 64 (byte_low word))

pub blocks_whole : (geo : Geometry) (bad : ℕ → Bool) (word : ℕ → ℕ) → AreWholeBlocks (blocks_read geo bad word)
unfolding blocks_read
blocks_whole geo bad word = from (states_read geo word)
  where
    one : (s : BlockState) → IsWholeBlock (block_read geo bad word s)
    one state.Absent = tt
    one state.Scarred = tt
    one (state.At unit) = (length-list_from (line_read bad word) (block_line geo unit) 8, lines_from (line_read bad word) (block_line geo unit) 8 (line_whole bad word))

    from : (states : List BlockState) → AreWholeBlocks (map (block_read geo bad word) states)
    from [] = tt
    from (s ∷ states) = (one s, from states)

-- values
word_has : (f : ℕ → ℕ) (n count w : ℕ) (history : List ℕ) → slice_get (list_from (λ p. f p ∷ []) n count) w ≡ Some history → 1 ≤ length history
word_has f n zero w history is = cc is
word_has f n (suc count) zero history is = let e : f n ∷ [] ≡ history = same_Some (f n ∷ []) history is in subst (λ (h : List ℕ). 1 ≤ length h) e (omega arith)
word_has f n (suc count) (suc w) history is = word_has f (suc n) count w history is

cell_has : (image : Image) (line : ℕ) → HasValues (read_cell image line)
cell_has image line = by_mark (image.is_bad line)
  where
    by_mark : (b : Bool) → HasValues (cond b Bad (Kept (image.is_weak line) (list_from (λ p. image.word p ∷ []) (8 * line) 8)))
    by_mark true = tt
    by_mark false = λ w history is. word_has image.word (8 * line) 8 w history is

pub pages_have : (place : ℕ → ℕ) (image : Image) (there : List Bool) → HaveValues (read_pages place image there)
pages_have place image there n cell is =
    let here = read_pages-there place image there n cell is in
    let same : read_cell image (place n) ≡ cell = same_Some (read_cell image (place n)) cell (sym (cell_of-read_pages place image there n here) ∙ is) in
    subst HasValues same (cell_has image (place n))

pub files_have : (geo : Geometry) (image : Image) → AllHaveValues (files_read geo image)
unfolding files_read
files_have geo image = by_files (files_of (tables_read geo image.word))
  where
    by_files : (xs : List UnitFile) → AllHaveValues (map (file_read geo image) xs)
    by_files [] = tt
    by_files (x ∷ xs) = (pages_have (line_of_file geo x) image (pages_there x), by_files xs)

-- the files of tables
abbrev IsRight : UnitFile → Type 0
IsRight on = (is_name on.name ≡ true) × (length on.units ≤ 256)

abbrev AreRight : List UnitFile → Type 0
AreRight [] = Unit {0}
AreRight (on ∷ files) = IsRight on × AreRight files

put_right : (x : UnitFile) (files : List UnitFile) → IsRight x → AreRight files → AreRight (put_file unit_file_name x files)
put_right x [] one all = (one, tt)
put_right x (y ∷ files) one all = by_order (is_before x.name y.name) (put_right x files one all.1)
  where
    by_order : (b : Bool) → AreRight (put_file unit_file_name x files) → AreRight (cond b (x ∷ y ∷ files) (y ∷ put_file unit_file_name x files))
    by_order true later = (one, all)
    by_order false later = (all.0, later)

order_right : (slots : List (Option UnitFile)) → ((i : ℕ) (x : UnitFile) → slice_get slots i ≡ Some (Some x) → IsRight x) → AreRight (in_order unit_file_name slots)
order_right [] each = tt
order_right (None ∷ slots) each = order_right slots (λ i x is. each (suc i) x is)
order_right (Some x ∷ slots) each = put_right x (in_order unit_file_name slots) (each 0 x refl) (order_right slots (λ i y is. each (suc i) y is))

put_number : (x : UnitFile) (files : List UnitFile) → length (put_file unit_file_name x files) ≡ suc (length files)
put_number x [] = refl
put_number x (y ∷ files) = by_order (is_before x.name y.name) (put_number x files)
  where
    by_order : (b : Bool) → length (put_file unit_file_name x files) ≡ suc (length files) → length (cond b (x ∷ y ∷ files) (y ∷ put_file unit_file_name x files)) ≡ suc (suc (length files))
    by_order true later = refl
    by_order false later = ap suc later

order_number : (slots : List (Option UnitFile)) → length (in_order unit_file_name slots) ≤ length slots
order_number [] = omega arith
order_number (None ∷ slots) = omega (arith, order_number slots)
order_number (Some x ∷ slots) = omega (arith, order_number slots, put_number x (in_order unit_file_name slots))

module _ (size : ℕ) (t : Tables) (are : AreTables size t) where
  slot_right : (i : ℕ) (x : UnitFile) → slice_get (unit_slots t) i ≡ Some (Some x) → IsRight x
  slot_right i x is = by_slot (slice_get t.files i) refl (sym (slice_get-map_from (λ inode slot. option_map (unit_file t inode) slot) 0 t.files i) ∙ is)
    where
      by_slot : (o : Option (Option FileEntry)) → slice_get t.files i ≡ o → option_map (λ slot. option_map (unit_file t (0 + i)) slot) o ≡ Some (Some x) → IsRight x
      by_slot None was found = cc found
      by_slot (Some None) was found = cc found
      by_slot (Some (Some file)) was found =
          let same : unit_file t (0 + i) file ≡ x = same_Some (unit_file t (0 + i) file) x (same_Some (Some (unit_file t (0 + i) file)) (Some x) found) in
          subst IsRight same (are.names.name i file was, omega (arith, length-list_from (unit_at t (0 + i)) 0 file.pages, are.names.pages i file was))

  tables_right : AreRight (files_of t)
  tables_right = order_right (unit_slots t) slot_right

  tables_few : length (files_of t) ≤ 64
  tables_few = omega (arith, order_number (unit_slots t), length-map_from (λ inode slot. option_map (unit_file t inode) slot) 0 t.files, are.names.all)

-- names of their own
units_apart : (size : ℕ) (t : Tables) → AreTables size t → AreApart unit_file_name (unit_slots t)
units_apart size t are = λ i j x y at_i at_j same.
    let one = file_of-slot t i x at_i in
    let other = file_of-slot t j y at_j in
    are.names.apart i j one.0 other.0 one.1 other.1 (one.2 ∙ same ∙ sym other.2)

-- the files that are read
module _ (geo : Geometry) (image : Image) where
  names_read : (xs : List UnitFile) → AreRight xs → HaveNames (map (file_read geo image) xs)
  names_read [] all = tt
  names_read (x ∷ xs) all = (
    all.0.0,
    omega (arith, all.0.1, length-read_pages (line_of_file geo x) image (pages_there x), length-map x.units is_some),
    names_read xs all.1,
  )

  before_read : (n : List ℕ) (xs : List UnitFile) → list_all (λ (y : File). is_before n (file_name y)) (map (file_read geo image) xs) ≡ list_all (λ (y : UnitFile). is_before n (unit_file_name y)) xs
  before_read n [] = refl
  before_read n (x ∷ xs) = ap (λ (b : Bool). is_before n x.name && b) (before_read n xs)

  rises_read : (xs : List UnitFile) → rises file_name (map (file_read geo image) xs) ≡ rises unit_file_name xs
  rises_read [] = refl
  rises_read (x ∷ xs) = ap₂ (λ (a b : Bool). a && b) (before_read x.name xs) (rises_read xs)

  medium : Medium
  medium = record { count = image.count; is_bad = image.is_bad; is_weak = image.is_weak; history = λ p. image.word p ∷ [] }

  depicts : Depicts medium image
  unfolding medium
  depicts = record { count = refl; bad = λ n low. refl; weak = λ n low. refl; words = λ p healthy. refl }

  pub files_listed : image.count ≡ total_lines geo → AreTables geo.fpages (tables_read geo image.word) → AreListed geo (files_read geo image)
  unfolding files_read medium
  files_listed count are =
      let t : Tables = tables_read geo image.word in
      let used = used_seen geo medium t (files_read geo image) are (read-stands geo medium image are count depicts) in
      listed_by geo (files_read geo image) (omega (arith, tables_few geo.fpages t are, length-map (files_of t) (file_read geo image)))
      (names_read (files_of t) (tables_right geo.fpages t are))
      (rises_read (files_of t) ∙ rises-in_order unit_file_name (unit_slots t) (units_apart geo.fpages t are))
      (omega (arith, used, are.room, pages_are_used (files_read geo image)))
