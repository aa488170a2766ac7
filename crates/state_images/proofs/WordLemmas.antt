-- The words of the tables in the image, and logs with nothing in them.
use Rattle.std.proofs.Common.{◌≡◌, ℕ, ◌+◌, ◌*◌, ◌/◌, ◌%◌, ◌<◌, ◌==◌, Some, List, slice_get, ap, ◌∙◌, arith}
use Rattle.word_tables.specs.declared.geometry.Geometry.{Geometry}
use Rattle.word_tables.specs.Layout.{Area, rank, first_line, size, total_lines}
use Rattle.word_log.specs.declared.area.LogArea.{LogArea}
use Rattle.word_log.specs.Area.{gate_place}
use Rattle.word_log.specs.Changes.{changed}
use Rattle.word_log.specs.Replay.{listed, listed_if, replayed}
use Rattle.nvm_model.specs.Page.{Page}
use Rattle.nvm_model.specs.Storage.{Block, File}
use Rattle.state_images.specs.Images.{areas_of, image_of, line_of, zeros}
use Rattle.state_images.specs.Lines.{shown_word, words_line}
use Rattle.state_images.proofs.CellLemmas.{word-at, word-in}
use Rattle.state_images.proofs.LaidLemmas.{area-at}

-- a log whose gate is 0 changes no word
pub replayed-closed : (a : LogArea) (image : ℕ → ℕ) (p : ℕ) → image (gate_place a) ≡ 0 → replayed a image p ≡ image p
unfolding listed
replayed-closed a image p gate = ap (λ g. changed (listed_if (g == 1) a image) image p) gate

module _ (geo : Geometry) (blocks : List Block) (volume : List Page) (files : List File) where
  -- word w of a table
  pub table-word : (area : Area) (word : ℕ → ℕ) (w : ℕ) → slice_get (areas_of geo blocks volume files) (rank area) ≡ Some (words_line word) → w < 8 * size geo area
      → (image_of geo blocks volume files).word (8 * first_line geo area + w) ≡ word w
  table-word area word w is below =
      let n : ℕ = first_line geo area + w / 8 in
      let at : 8 * first_line geo area + w ≡ 8 * n + w % 8 = omega arith in
      let back : 8 * (w / 8) + w % 8 ≡ w = omega arith in
      ap (image_of geo blocks volume files).word at
      ∙ word-at (total_lines geo) (line_of geo blocks volume files) n (w % 8) (omega arith)
      ∙ ap (λ c. shown_word c (w % 8)) (area-at geo blocks volume files area (words_line word) (w / 8) is (omega arith))
      ∙ word-in word (w / 8) (w % 8) (omega arith)
      ∙ ap word back

  -- the gate of a log
  pub gate-closed : (area : Area) → slice_get (areas_of geo blocks volume files) (rank area) ≡ Some zeros → 0 < size geo area
      → (image_of geo blocks volume files).word (8 * first_line geo area) ≡ 0
  gate-closed area is some =
      let at : 8 * first_line geo area ≡ 8 * (first_line geo area + 0) + 0 = omega arith in
      ap (image_of geo blocks volume files).word at
      ∙ word-at (total_lines geo) (line_of geo blocks volume files) (first_line geo area + 0) 0 (omega arith)
      ∙ ap (λ c. shown_word c 0) (area-at geo blocks volume files area zeros 0 is some)
