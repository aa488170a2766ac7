-- The volume in the image.
use Rattle.std.proofs.Common.{◌≡◌, inl, inr, ℕ, ◌+◌, ◌-◌, ◌*◌, ◌/◌, ◌<◌, ◌≤◌, ◌==◌, false, ltb, Option, Some, None, option_map, List, length, slice_get, refl, sym, ap, ◌∙◌, arith}
use Rattle.std.proofs.lemmas.Bool.{cases_lt, cond-true, cond-false, lt-ltb}
use Rattle.std.proofs.lemmas.Bool.Decides.{nat_tests}
use Rattle.std.proofs.lemmas.List.{length-map}
use Rattle.std.proofs.lemmas.Option.{slice_get-map, slice_get_within}
use Rattle.word_tables.specs.declared.geometry.Geometry.{Geometry}
use Rattle.word_tables.specs.Layout.{first_line, first_range, presence, second_range, size, total_lines, volume_line, volume_log}
use Rattle.word_tables.specs.Words.{place, of_volume_page}
use Rattle.word_log.specs.Replay.{replayed}
use Rattle.nvm_model.specs.Cell.{Cell, read_cell}
use Rattle.nvm_model.specs.Numbered.{list_from}
use Rattle.nvm_model.specs.Page.{Page, cell_of, is_present, presence_of, read_pages}
use Rattle.nvm_model.specs.Page.Page.{Absent, Present}
use Rattle.nvm_model.specs.Storage.{Block, File}
use Rattle.nvm_model.proofs.NumberedLemmas.{length-list_from, slice_get-list_from}
use Rattle.pm_volume.specs.Area.{volume_area}
use Rattle.pm_volume.specs.Presence.{presence_read, words_read}
use Rattle.state_images.specs.Cells.{cell_or_zeros, line_of_pages, page_word, presence_word_of}
use Rattle.state_images.specs.Images.{image_of, line_of}
use Rattle.state_images.specs.Storable.{IsStorableVolume}
use Rattle.state_images.proofs.CellLemmas.{cell-read, same_items, some_item}
use Rattle.state_images.proofs.LaidLemmas.{area-at}
use Rattle.state_images.proofs.PageLemmas.{page-of_line, pages-read, settled-line}
use Rattle.state_images.proofs.WordLemmas.{gate-closed, replayed-closed, table-word}

-- the two ranges hold the volume
ranges_hold : (geo : Geometry) → size geo first_range + size geo second_range ≡ 64 * geo.vpages
unfolding size
ranges_hold geo = omega arith

-- the table has a word for each page
pub words_enough : (geo : Geometry) → geo.vpages ≤ 8 * size geo presence
unfolding size
words_enough geo = omega arith

pub log_some : (geo : Geometry) → 0 < size geo volume_log
unfolding size
log_some geo = omega arith

module _ (geo : Geometry) (blocks : List Block) (volume : List Page) (files : List File) where
  -- a line of the volume lies at its place
  pub volume-line : (n : ℕ) → n < 64 * geo.vpages → line_of geo blocks volume files (volume_line geo n) ≡ line_of_pages volume n
  unfolding volume_line
  volume-line n below =
      elim (cases_lt n (size geo first_range)) [
        | inl first ↦
            ap (line_of geo blocks volume files) (cond-true (ltb n (size geo first_range)) _ (first_line geo second_range + (n - size geo first_range)) (lt-ltb n (size geo first_range) first))
            ∙ area-at geo blocks volume files first_range (line_of_pages volume) n refl first
        | inr second ↦
            let not_first : ltb n (size geo first_range) ≡ false = grind (arith, nat_tests) in
            let back : size geo first_range + (n - size geo first_range) ≡ n = omega arith in
            ap (line_of geo blocks volume files) (cond-false (ltb n (size geo first_range)) (first_line geo first_range + n) (first_line geo second_range + (n - size geo first_range)) not_first)
            ∙ area-at geo blocks volume files second_range (λ i. line_of_pages volume (size geo first_range + i)) (n - size geo first_range) refl (omega (arith, ranges_hold geo))
            ∙ ap (line_of_pages volume) back
      ]

  -- the word of a page
  page-word : (i : ℕ) → i < geo.vpages → replayed (volume_area geo) (image_of geo blocks volume files).word (place geo (of_volume_page i)) ≡ presence_word_of volume i
  page-word i below =
      replayed-closed (volume_area geo) (image_of geo blocks volume files).word (place geo (of_volume_page i)) (gate-closed geo blocks volume files volume_log refl (log_some geo))
      ∙ table-word geo blocks volume files presence (presence_word_of volume) i refl (omega (arith, words_enough geo))

  module _ (storable : IsStorableVolume geo volume) where
    pub presence-is : presence_read geo (image_of geo blocks volume files).word ≡ presence_of volume
    unfolding words_read
    presence-is =
        let word : ℕ → ℕ = λ i. replayed (volume_area geo) (image_of geo blocks volume files).word (place geo (of_volume_page i)) in
        let size_read : length (presence_read geo (image_of geo blocks volume files).word) ≡ geo.vpages = length-map (list_from word 0 geo.vpages) (λ w. w == 1) ∙ length-list_from word 0 geo.vpages in
        same_items _ (presence_of volume) (size_read ∙ sym (length-map volume is_present ∙ storable.all)) (λ k low.
        let below : k < geo.vpages = omega (arith, low, size_read) in
        let at : 0 + k ≡ k = omega arith in
        slice_get-map (λ w. w == 1) (list_from word 0 geo.vpages) k
        ∙ ap (option_map (λ w. w == 1)) (slice_get-list_from word 0 geo.vpages k below ∙ ap (λ j. Some (word j)) at ∙ ap Some (page-word k below))
        ∙ by_page k (slice_get volume k) refl (omega (arith, storable.all))
        ∙ sym (slice_get-map is_present volume k))
      where
        by_page : (k : ℕ) (o : Option Page) → slice_get volume k ≡ o → k < length volume → option_map (λ w. w == 1) (Some (page_word o)) ≡ option_map is_present o
        by_page k None is low = absurd (some_item volume k low is)
        by_page k (Some Absent) is low = refl
        by_page k (Some (Present cells)) is low = refl

    within : (n : ℕ) (cell : Cell) → cell_of volume n ≡ Some cell → n < 64 * geo.vpages
    within n cell is =
        let page = page-of_line volume n cell is in
        let low : n / 64 < length volume = slice_get_within volume (n / 64) (Present page.0) page.1 in
        omega (arith, low, storable.all)

    pub volume-cell : (n : ℕ) (cell : Cell) → cell_of volume n ≡ Some cell → read_cell (image_of geo blocks volume files) (volume_line geo n) ≡ cell
    volume-cell n cell is =
        cell-read (total_lines geo) (line_of geo blocks volume files) (volume_line geo n) cell (volume-line n (within n cell is) ∙ ap cell_or_zeros is)
        (settled-line volume n cell storable.pages is)

    pub volume-is : read_pages (volume_line geo) (image_of geo blocks volume files) (presence_of volume) ≡ volume
    volume-is = pages-read (volume_line geo) (image_of geo blocks volume files) volume storable.pages volume-cell
