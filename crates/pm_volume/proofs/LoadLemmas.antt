-- Bytes of the volume as last stored.
use Rattle.std.proofs.Common.{◌≡◌, ℕ, ◌+◌, ◌/◌, ◌%◌, ◌<◌, ◌≤◌, true, false, Option, Some, None, option_map, option_and_then, List, slice_get, refl, sym, ap, ◌∙◌, arith}
use Rattle.std.proofs.lemmas.Bool.{false≢true}
use Rattle.nvm_base.specs.declared.units.Span.{Span}
use Rattle.line_device.specs.Medium.{Medium}
use Rattle.word_tables.specs.Layout.{volume_line}
use Rattle.nvm_model.specs.Cell.{Cell, CellStands, cell_byte}
use Rattle.nvm_model.specs.Cell.Cell.{Bad, Kept}
use Rattle.nvm_model.specs.Numbered.{list_from}
use Rattle.nvm_model.specs.Page.{Page, byte_in, cell_in, cell_of, is_present, look}
use Rattle.nvm_model.specs.Page.Page.{Absent, Present}
use Rattle.nvm_model.proofs.NumberedLemmas.{list_from-same}
use Rattle.nvm_model.proofs.StandLemmas.{byte_in-stand}
use Rattle.page_lines.specs.Shown.{byte_on, placed_byte}
use Rattle.pm_volume.specs.Checked.{IsReadable}
use Rattle.pm_volume.specs.Object.{VolumeHolds, VolumeState, is_wanted, volume_place}
use Rattle.pm_volume.proofs.BadLemmas.{cell_at, page_there}
use Rattle.pm_volume.proofs.PlaceLemmas.{place_of, unplaced}
use Rattle.page_lines.proofs.StandingLemmas.{touches-byte}

byte_of : ℕ → Option Cell → ℕ
byte_of i None = 0
byte_of i (Some cell) = cell_byte cell (i % 64)

module _ (s : VolumeState) (m : Medium) (pages : List Page) (holds : VolumeHolds s m pages) (span : Span) (readable : IsReadable s m span) where
  byte_shown : (i : ℕ) → span.start ≤ i → i < span.start + span.len → placed_byte (volume_place s.geo s.present true) m i ≡ byte_in pages i
  unfolding byte_of
  byte_shown i from to = by_page (slice_get pages (i / 64 / 64)) refl
    where
      nowhere : (o : Option Page) → slice_get pages (i / 64 / 64) ≡ o → is_wanted true (option_map is_present o) ≡ false → option_and_then (λ page. cell_in page (i / 64 % 64)) o ≡ None → placed_byte (volume_place s.geo s.present true) m i ≡ byte_in pages i
      nowhere o was lacks none =
          ap (byte_on m i) (unplaced s.geo s.present true (i / 64) (ap (is_wanted true) (page_there s m pages holds (i / 64 / 64) ∙ ap (option_map is_present) was) ∙ lacks))
          ∙ sym (ap (byte_of i) (ap (option_and_then (λ page. cell_in page (i / 64 % 64))) was ∙ none))

      by_page : (o : Option Page) → slice_get pages (i / 64 / 64) ≡ o → placed_byte (volume_place s.geo s.present true) m i ≡ byte_in pages i
      by_page None was = nowhere None was refl refl
      by_page (Some Absent) was = nowhere (Some Absent) was refl refl
      by_page (Some (Present cells)) was =
          let there = page_there s m pages holds (i / 64 / 64) ∙ ap (option_map is_present) was in
          let cell = cell_at s m pages holds (i / 64) there in
          let at = place_of s.geo s.present true (i / 64) there in
          ap (byte_on m i) at ∙ by_cell cell.0 cell.1 (holds.stand.lines (i / 64) cell.0 cell.1) (readable.good (i / 64) (volume_line s.geo (i / 64)) (touches-byte span.start span.len i from to) at)
        where
          by_cell : (cell : Cell) → cell_of pages (i / 64) ≡ Some cell → CellStands m (volume_line s.geo (i / 64)) cell → m.is_bad (volume_line s.geo (i / 64)) ≡ false → byte_on m i (Some (volume_line s.geo (i / 64))) ≡ byte_in pages i
          by_cell Bad is stands good = absurd (false≢true (sym good ∙ stands))
          by_cell (Kept weak words) is stands good = sym (byte_in-stand (volume_line s.geo) m pages weak words i is stands)

  -- what the device shows is what the pages show
  pub shown-look : list_from (placed_byte (volume_place s.geo s.present true) m) span.start span.len ≡ look pages span.start span.len
  unfolding look
  shown-look = list_from-same (placed_byte (volume_place s.geo s.present true) m) (byte_in pages) span.start span.start span.len (λ k below. byte_shown (span.start + k) (omega arith) (omega arith))
