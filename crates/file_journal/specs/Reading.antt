-- Words read as tables.
use Rattle.std.specs.Prelude.{◌*◌, ◌/◌, ◌%◌, ℕ, List, Option, drop, map, option_map, take}
use Rattle.std.specs.List.{range_with_len}
use Rattle.word_tables.specs.declared.geometry.Geometry.{Geometry}
use Rattle.word_tables.specs.Layout.{inodes, first_line}
use Rattle.word_tables.specs.Words.{place, of_inode, of_file_page}
use Rattle.word_log.specs.Mount.{wrong_with}
use Rattle.word_log.specs.Replay as log
use Rattle.inode_table.specs.Slots.{pages_of}
use Rattle.inode_table.specs.Words.{slots_of}
use Rattle.inode_table.specs.Wrong.{first_wrong_word}
use Rattle.page_table.specs.Pages.{unit_of}
use Rattle.page_table.specs.Wrong.{first_wrong_entry}
use Rattle.nvm_model.specs.Blocks.{first_there}
use Rattle.file_journal.specs.Area.{file_area}
use Rattle.file_journal.specs.Tables.{Tables}

-- the words of inodes and page tables, in their order, after a replay of their log
unfoldable pub words_read : Geometry → (ℕ → ℕ) → List ℕ
words_read geo image = map (log.replayed (file_area geo) image) (range_with_len (8 * first_line geo inodes) 16896)

-- the tables of such words
unfoldable pub tables_of : List ℕ → Tables
tables_of words = record { files = slots_of (take 512 words); pages = map unit_of (drop 512 words) }

-- the tables that an image holds after the replay
abbrev pub tables_read : Geometry → (ℕ → ℕ) → Tables
tables_read geo image = tables_of (words_read geo image)

-- the place of the first wrong word of the inodes, and of the page tables
abbrev pub wrong_inode : Geometry → List ℕ → Option ℕ
wrong_inode geo words = option_map (λ i. place geo (of_inode (i / 8) (i % 8))) (first_wrong_word words)

abbrev pub wrong_page : Geometry → List ℕ → List ℕ → Option ℕ
wrong_page geo counts pages = option_map (λ i. place geo (of_file_page (i / 256) (i % 256))) (first_wrong_entry geo.fpages counts pages)

-- the first place of them that is wrong
unfoldable pub wrong_table : Geometry → List ℕ → Option ℕ
wrong_table geo words = first_there (wrong_inode geo (take 512 words)) (wrong_page geo (map pages_of (slots_of (take 512 words))) (drop 512 words))

-- the first place that is wrong: of the log, or else of the tables once it is replayed
abbrev pub wrong_file_place : Geometry → (ℕ → ℕ) → Option ℕ
wrong_file_place geo image = wrong_with (file_area geo) (λ word. wrong_table geo (words_read geo word)) image
