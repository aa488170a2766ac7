-- Words have places of their own.
use Rattle.std.proofs.Common.{◌≡◌, ◌/◌, ◌<◌, ap, ap₂, arith}
use Rattle.word_tables.specs.declared.geometry.Geometry.{Geometry}
use Rattle.word_tables.specs.Bounds.{IsValid}
use Rattle.word_tables.specs.Layout.{Area, block_log, volume_log, file_log, rank, first_line, size, meta_lines, HasLine, IsLogArea}
use Rattle.word_tables.proofs.LayoutLemmas.{one_area}
use Rattle.word_tables.specs.Words.{Word, of_block, of_volume_page, of_inode, of_file_page, HasWord, area_of, place, HasPlaces}

-- the area of a table's word is no log
no_table_in_log : (w : Word) (log : Area) → IsLogArea log → rank (area_of w) ≡ rank log → ⊥
no_table_in_log (of_block b) block_log l same = omega arith
no_table_in_log (of_block b) volume_log l same = omega arith
no_table_in_log (of_block b) file_log l same = omega arith
no_table_in_log (of_volume_page p) block_log l same = omega arith
no_table_in_log (of_volume_page p) volume_log l same = omega arith
no_table_in_log (of_volume_page p) file_log l same = omega arith
no_table_in_log (of_inode i w) block_log l same = omega arith
no_table_in_log (of_inode i w) volume_log l same = omega arith
no_table_in_log (of_inode i w) file_log l same = omega arith
no_table_in_log (of_file_page i p) block_log l same = omega arith
no_table_in_log (of_file_page i p) volume_log l same = omega arith
no_table_in_log (of_file_page i p) file_log l same = omega arith
no_table_in_log _ _ l same = absurd l

module _ (geo : Geometry) (valid : IsValid geo) where
  words_distinct : (v w : Word) → HasWord geo v → HasWord geo w → place geo v ≡ place geo w → v ≡ w
  unfolding first_line
  words_distinct (of_block b) (of_block c) h k same = ap of_block (omega arith)
  words_distinct (of_volume_page p) (of_volume_page q) h k same = ap of_volume_page (omega arith)
  words_distinct (of_inode i w) (of_inode j x) h k same = ap₂ of_inode (omega arith) (omega arith)
  words_distinct (of_file_page i p) (of_file_page j q) h k same = ap₂ of_file_page (omega arith) (omega arith)
  words_distinct _ _ h k same = absurd (omega arith)

  word_in_area : (w : Word) → HasWord geo w → HasLine geo (area_of w) (place geo w / 8)
  unfolding first_line size
  word_in_area (of_block b) h = (omega arith, omega arith)
  word_in_area (of_volume_page p) h = (omega arith, omega arith)
  word_in_area (of_inode i w) h = (omega arith, omega arith)
  word_in_area (of_file_page i p) h = (omega arith, omega arith)

  word_in_metadata : (w : Word) → HasWord geo w → (0 < place geo w / 8) × (place geo w / 8 < meta_lines geo)
  unfolding first_line
  word_in_metadata (of_block b) h = (omega arith, omega arith)
  word_in_metadata (of_volume_page p) h = (omega arith, omega arith)
  word_in_metadata (of_inode i w) h = (omega arith, omega arith)
  word_in_metadata (of_file_page i p) h = (omega arith, omega arith)

  word_in_no_log : (w : Word) (log : Area) → HasWord geo w → IsLogArea log → ¬ HasLine geo log (place geo w / 8)
  word_in_no_log w log h is_log in_log = no_table_in_log w log is_log (one_area geo (area_of w) log (place geo w / 8) (word_in_area w h) in_log)

  pub places_apart : HasPlaces geo
  places_apart = record { distinct = words_distinct; in_area = word_in_area; in_metadata = word_in_metadata; in_no_log = word_in_no_log }
