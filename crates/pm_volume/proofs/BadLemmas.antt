-- Bad lines of pages, and those of the device.
use Rattle.std.proofs.Common.{◌≡◌, ◌/◌, ◌%◌, ◌&&◌, ℕ, Bool, true, false, not, Option, Some, None, option_map, option_and_then, List, slice_get, refl, sym, ap, ◌∙◌, arith}
use Rattle.std.proofs.Math.Bool.{and_comm}
use Rattle.std.proofs.lemmas.Option.{slice_get-map}
use Rattle.nvm_base.specs.declared.units.Span.{Span}
use Rattle.line_device.specs.Medium.{Medium}
use Rattle.word_tables.specs.Layout.{volume_line}
use Rattle.nvm_model.specs.Cell.{Cell, covers, lowest_touched}
use Rattle.nvm_model.specs.Page.{Page, cell_in, cell_of, first_bad_line, first_uncovered_line, is_bad_cell, is_present}
use Rattle.nvm_model.specs.Page.Page.{Absent, Present}
use Rattle.page_lines.specs.declared.finding.BadLines.TheVariants.{All, NotCovered}
use Rattle.page_lines.specs.Sought.{is_bad_at, lowest_bad_in}
use Rattle.pm_volume.specs.Object.{VolumeHolds, VolumeState, is_wanted, volume_place}
use Rattle.pm_volume.proofs.PlaceLemmas.{place_of, unplaced}
use Rattle.page_lines.proofs.StandingLemmas.{cell_bad}
pub use Rattle.page_lines.proofs.StandingLemmas.{has_line}

module _ (s : VolumeState) (m : Medium) (pages : List Page) (holds : VolumeHolds s m pages) where
  pub page_there : (i : ℕ) → slice_get s.present i ≡ option_map is_present (slice_get pages i)
  page_there i = ap (λ (xs : List Bool). slice_get xs i) (sym holds.there) ∙ slice_get-map is_present pages i

  -- where a line lies whose page is there, and what its cell is
  pub cell_there : (n : ℕ) (cell : Cell) → cell_of pages n ≡ Some cell → slice_get s.present (n / 64) ≡ Some true
  cell_there n cell is = page_there (n / 64) ∙ by_page (slice_get pages (n / 64)) is
    where
      by_page : (o : Option Page) → option_and_then (λ page. cell_in page (n % 64)) o ≡ Some cell → option_map is_present o ≡ Some true
      by_page None is = cc
      by_page (Some Absent) is = cc
      by_page (Some (Present cells)) is = refl

  pub cell_at : (n : ℕ) → slice_get s.present (n / 64) ≡ Some true → (cell : Cell) × (cell_of pages n ≡ Some cell)
  cell_at n there = by_page (slice_get pages (n / 64)) refl (sym (page_there (n / 64)) ∙ there)
    where
      by_page : (o : Option Page) → slice_get pages (n / 64) ≡ o → option_map is_present o ≡ Some true → (cell : Cell) × (cell_of pages n ≡ Some cell)
      by_page None was is = cc
      by_page (Some Absent) was is = cc
      by_page (Some (Present cells)) was is =
          let has = has_line cells (n % 64) (holds.stand.whole (n / 64) cells was) (omega arith) in
          (has.0, ap (option_and_then (λ page. cell_in page (n % 64))) was ∙ has.1)

  pub bad_at : (n : ℕ) → is_bad_at m (volume_place s.geo s.present true n) ≡ is_bad_cell (cell_of pages n)
  bad_at n = by_page (slice_get pages (n / 64)) refl
    where
      nowhere : is_wanted true (slice_get s.present (n / 64)) ≡ false → is_bad_at m (volume_place s.geo s.present true n) ≡ false
      nowhere is = ap (is_bad_at m) (unplaced s.geo s.present true n is)

      by_page : (o : Option Page) → slice_get pages (n / 64) ≡ o → is_bad_at m (volume_place s.geo s.present true n) ≡ is_bad_cell (cell_of pages n)
      by_page None was =
          nowhere (ap (is_wanted true) (page_there (n / 64) ∙ ap (option_map is_present) was)) ∙ sym (ap (λ o. is_bad_cell (option_and_then (λ page. cell_in page (n % 64)) o)) was)
      by_page (Some Absent) was =
          nowhere (ap (is_wanted true) (page_there (n / 64) ∙ ap (option_map is_present) was)) ∙ sym (ap (λ o. is_bad_cell (option_and_then (λ page. cell_in page (n % 64)) o)) was)
      by_page (Some (Present cells)) was =
          let there = page_there (n / 64) ∙ ap (option_map is_present) was in
          let cell = cell_at n there in
          ap (is_bad_at m) (place_of s.geo s.present true n there)
          ∙ cell_bad m (volume_line s.geo n) cell.0 (holds.stand.lines n cell.0 cell.1)
          ∙ sym (ap is_bad_cell cell.1)

  -- so a search of the device finds what the pages say
  pub finds_bad : (span : Span) → lowest_bad_in All (volume_place s.geo s.present true) m span ≡ first_bad_line pages span.start span.len
  unfolding first_bad_line
  finds_bad span = ap (λ p. lowest_touched p span.start span.len) (λ i n. bad_at n i)

  pub finds_uncovered : (span : Span) → lowest_bad_in NotCovered (volume_place s.geo s.present true) m span ≡ first_uncovered_line pages span.start span.len
  unfolding first_uncovered_line
  finds_uncovered span = ap (λ p. lowest_touched p span.start span.len) (λ i n. same n i)
    where
      same : (n : ℕ) → (not (covers span.start span.len n) && is_bad_at m (volume_place s.geo s.present true n)) ≡ (is_bad_cell (cell_of pages n) && not (covers span.start span.len n))
      same n = and_comm (not (covers span.start span.len n)) (is_bad_at m (volume_place s.geo s.present true n)) ∙ ap (λ b. b && not (covers span.start span.len n)) (bad_at n)
