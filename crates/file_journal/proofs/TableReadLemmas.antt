-- Which tables the words of an image are, and that nothing is wrong with words that hold some.
use Rattle.std.proofs.Common.{◌≡◌, ℕ, ◌+◌, ◌*◌, ◌/◌, ◌%◌, ◌<◌, List, Option, None, length, get_or, map, take, drop, refl, sym, ap, ap₂, subst, ◌∙◌, arith}
use Rattle.std.specs.List.{range_with_len}
use Rattle.std.specs.Option.{option_map}
use Rattle.std.proofs.lemmas.Grind.{same_number_lists}
use Rattle.std.proofs.lemmas.List.{get_or-drop, get_or-map, length-drop, length-map}
use Rattle.std.proofs.lemmas.List.FromFn.{get_or-map-range_with_len, length-map-range_with_len}
use Rattle.nvm_base.specs.declared.files.FileEntry.{FileEntry}
use Rattle.word_tables.specs.declared.geometry.Geometry.{Geometry}
use Rattle.word_tables.specs.Bounds.{IsValid}
use Rattle.word_tables.specs.Layout.{first_line, inodes}
use Rattle.word_tables.specs.Words.{place, of_inode, of_file_page}
use Rattle.word_log.specs.Area.{AreHomeWords, IsOf}
use Rattle.word_log.specs.Replay.{Replays, first_wrong, replayed}
use Rattle.word_log.proofs.RestLemmas.{replays-same}
use Rattle.inode_table.specs.Holds.{HoldsSlot, HoldsSlots}
use Rattle.inode_table.specs.Slots.{pages_of}
use Rattle.inode_table.specs.Words.{slots_of}
use Rattle.inode_table.proofs.HeldLemmas.{slots_read, words_right}
use Rattle.inode_table.proofs.TableLemmas as names
use Rattle.page_table.specs.Pages.{unit_of, word_of}
use Rattle.page_table.specs.Wrong.{first_wrong_entry}
use Rattle.page_table.proofs.RightLemmas.{table_right, units_of_words}
use Rattle.page_table.proofs.TableLemmas as units
use Rattle.page_table.proofs.WrongLemmas.{all_right}
use Rattle.nvm_model.specs.Blocks.{first_there}
use Rattle.file_journal.specs.Area.{file_area}
use Rattle.file_journal.specs.Holds.{Holds}
use Rattle.file_journal.specs.Reading.{tables_of, tables_read, words_read, wrong_file_place, wrong_page, wrong_table}
use Rattle.file_journal.specs.Tables.{AreTables, Tables}
use Rattle.file_journal.proofs.AreaLemmas.{area_shaped, tables_follow}
use Rattle.file_journal.proofs.MountLemmas.{inode_list, inodes_right, pages_right, tables_right}

-- the words of the tables are those that the replay ends with
pub words_read-replays : (geo : Geometry) (image word : ℕ → ℕ) → Replays (file_area geo) image word → words_read geo image ≡ map word (range_with_len (8 * first_line geo inodes) 16896)
unfolding words_read
words_read-replays geo image word replays =
    let start = 8 * first_line geo inodes in
    let after = replayed (file_area geo) image in
    same_number_lists (map after (range_with_len start 16896)) (map word (range_with_len start 16896))
    (length-map-range_with_len after start 16896 ∙ sym (length-map-range_with_len word start 16896))
    (λ k low.
    let below : k < 16896 = omega (arith, low, length-map-range_with_len after start 16896) in
    get_or-map-range_with_len after start 16896 k (start + k) 0 below refl
    ∙ replays.home (start + k) (omega arith, omega (arith, below))
    ∙ sym (get_or-map-range_with_len word start 16896 k (start + k) 0 below refl))

pub length-words_read : (geo : Geometry) (image : ℕ → ℕ) → length (words_read geo image) ≡ 16896
unfolding words_read
length-words_read geo image = length-map-range_with_len (replayed (file_area geo) image) (8 * first_line geo inodes) 16896

pub home_words-read : (geo : Geometry) (image word : ℕ → ℕ) → Replays (file_area geo) image word → AreHomeWords (file_area geo) word (words_read geo image)
home_words-read geo image word replays =
    let start = 8 * first_line geo inodes in
    subst (AreHomeWords (file_area geo) word) (sym (words_read-replays geo image word replays)) (record {
      all = length-map-range_with_len word start 16896;
      each = λ k low. get_or-map-range_with_len word start 16896 k (start + k) 0 low refl;
    })

-- words that hold tables are these tables
module _ (geo : Geometry) (word : ℕ → ℕ) (t : Tables) (holds : Holds geo word t) (are : AreTables geo.fpages t) (words : List ℕ) (here : AreHomeWords (file_area geo) word words) where
  held_slots : HoldsSlots (take 512 words) t.files
  held_slots inode below = subst (λ ws. HoldsSlot ws (get_or t.files inode None)) (sym (inode_list geo word words here inode below)) (holds.slots inode below)

  pages_written : drop 512 words ≡ map word_of t.pages
  pages_written =
      same_number_lists (drop 512 words) (map word_of t.pages) (omega (arith, length-drop 512 words, here.all, length-map t.pages word_of, are.table.all))
      (λ k low.
      let below : k < 16384 = omega (arith, low, length-drop 512 words, here.all) in
      let e : 256 * (k / 256) + k % 256 ≡ k = omega arith in
      let at : 8 * first_line geo inodes + (512 + k) ≡ place geo (of_file_page (k / 256) (k % 256)) = omega (arith, tables_follow geo) in
      get_or-drop 512 words k 0
      ∙ here.each (512 + k) (omega (arith, below))
      ∙ ap word at
      ∙ holds.pages (k / 256) (k % 256) (omega (arith, below)) (omega arith)
      ∙ ap (λ j. word_of (get_or t.pages j None)) e
      ∙ sym (get_or-map word_of t.pages k None 0 (omega (arith, below, are.table.all))))

  slots_are : slots_of (take 512 words) ≡ t.files
  slots_are = slots_read (take 512 words) t.files are.names held_slots

  pub tables_of-held : tables_of words ≡ t
  unfolding tables_of
  tables_of-held =
      ap₂ (λ (fs : List (Option FileEntry)) (ps : List (Option ℕ)). let x : Tables = record { files = fs; pages = ps } in x) slots_are (ap (map unit_of) pages_written ∙ units_of_words t.pages)

  pub none_wrong-held : wrong_table geo words ≡ None
  none_wrong-held =
      tables_right geo words
      (ap (option_map (λ i. place geo (of_inode (i / 8) (i % 8)))) (words_right (take 512 words) t.files are.names held_slots))
      (ap₂ (wrong_page geo) (ap (map pages_of) slots_are) pages_written
      ∙ ap (option_map (λ i. place geo (of_file_page (i / 256) (i % 256))))
      (table_right (record { units = geo.fpages; pages = t.pages }) (map pages_of t.files) are.table are.counted are.room))

-- An image that replays to words which hold tables reads as these, and nothing is wrong with it.
module _ (geo : Geometry) (image word : ℕ → ℕ) (t : Tables) (replays : Replays (file_area geo) image word) (holds : Holds geo word t) (are : AreTables geo.fpages t) where
  pub tables_read-replays : tables_read geo image ≡ t
  tables_read-replays = tables_of-held geo word t holds are (words_read geo image) (home_words-read geo image word replays)

  pub no_wrong_table : wrong_table geo (words_read geo image) ≡ None
  no_wrong_table = none_wrong-held geo word t holds are (words_read geo image) (home_words-read geo image word replays)

  pub no_wrong_file : wrong_file_place geo image ≡ None
  no_wrong_file = ap (λ o. first_there o (wrong_table geo (words_read geo image))) replays.valid ∙ no_wrong_table

-- images that agree on log and tables read as the same words and tables
pub file_words-same : (geo : Geometry) (v w : ℕ → ℕ) → IsValid geo → ((p : ℕ) → IsOf (file_area geo) p → v p ≡ w p) → first_wrong (file_area geo) w ≡ None
    → words_read geo v ≡ words_read geo w
unfolding words_read
file_words-same geo v w valid same right =
    let area = file_area geo in
    let own : Replays area w (replayed area w) = record { valid = right; home = λ p _. refl } in
    words_read-replays geo v (replayed area w) (replays-same area v w (replayed area w) (area_shaped geo valid) same own)

pub files_same : (geo : Geometry) (v w : ℕ → ℕ) → IsValid geo → ((p : ℕ) → IsOf (file_area geo) p → v p ≡ w p) → first_wrong (file_area geo) w ≡ None
    → tables_read geo v ≡ tables_read geo w
files_same geo v w valid same right = ap tables_of (file_words-same geo v w valid same right)

-- words of which none is wrong are those of tables
pub right_tables : (geo : Geometry) (words : List ℕ) → IsValid geo → length words ≡ 16896 → wrong_table geo words ≡ None → AreTables geo.fpages (tables_of words)
unfolding tables_of
right_tables geo words valid all none =
    let front = take 512 words in
    let back = drop 512 words in
    let counts = map pages_of (slots_of front) in
    let pages = map unit_of back in
    let inodes_are = inodes_right geo words none in
    let entries_are : first_wrong_entry geo.fpages counts back ≡ None = pages_right geo words none in
    let size : length pages ≡ length back = length-map back unit_of in
    let right = λ (k : ℕ) (low : k < length pages). all_right geo.fpages counts back entries_are k (omega (arith, low, size)) in
    record {
      names = names.is_table front inodes_are;
      table = units.is_table geo.fpages counts pages right (omega (arith, valid.most_fpages)) (omega (arith, size, length-drop 512 words, all));
      counted = units.within_counts geo.fpages counts pages right;
      room = units.room_left geo.fpages counts pages right (omega (arith, valid.least_fpages));
    }
