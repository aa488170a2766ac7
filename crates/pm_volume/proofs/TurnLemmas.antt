-- Lines of pages that are put or made durable.
use Rattle.std.proofs.Common.{◌≡◌, ℕ, ◌+◌, ◌*◌, true, Option, Some, None, option_map, Result, Ok, Err, OnErr, OnOk, List, length, slice_get, refl, sym, ap, subst, ◌∙◌}
use Rattle.line_device.specs.Medium.{Medium}
use Rattle.word_tables.specs.Layout.{volume_line, IsVolumeLine}
use Rattle.nvm_model.specs.Cell.{Cell, CellStands}
use Rattle.nvm_model.specs.Numbered.{map_from}
use Rattle.nvm_model.specs.Page.{Page, cell_of, map_lines}
use Rattle.nvm_model.specs.Page.Page.{Absent, Present}
use Rattle.nvm_model.specs.Interrupted.{LineByLine}
use Rattle.nvm_model.proofs.InterruptedLemmas.{IsLeft, pages_left}
use Rattle.nvm_model.proofs.NumberedLemmas.{length-map_from, slice_get-map_from}
use Rattle.nvm_model.proofs.PageLemmas.{cell_of-map, presence_of-lines}
use Rattle.page_lines.specs.Placed.{IsPlaced}
use Rattle.page_lines.specs.Turns.{MayTurn, Turns, WritesBackOthers}
use Rattle.std.proofs.lemmas.List.{length-map}
use Rattle.nvm_model.specs.Page.{is_present}
use Rattle.pm_volume.specs.Images.{EachReadsPages}
use Rattle.pm_volume.specs.Object.{VolumeHolds, VolumeServes, VolumeState, volume_place}
use Rattle.pm_volume.proofs.BadLemmas.{cell_there}
use Rattle.pm_volume.proofs.PlaceLemmas.{place_of, placed_line}
use Rattle.pm_volume.proofs.ServesLemmas.{reads_rest, serves-others}
use Rattle.nvm_model.proofs.MediaLemmas.{changed_from}

pub length-pages : (s : VolumeState) (m : Medium) (pages : List Page) → VolumeHolds s m pages → length pages ≡ length s.present
length-pages s m pages holds = sym (length-map pages is_present) ∙ ap length holds.there

whole-mapped : (f : ℕ → Cell → Cell) (pages : List Page) → ((i : ℕ) (cells : List Cell) → slice_get pages i ≡ Some (Present cells) → length cells ≡ 64) → (i : ℕ) (cells : List Cell) → slice_get (map_from (map_lines f) 0 pages) i ≡ Some (Present cells) → length cells ≡ 64
whole-mapped f pages whole i cells is = by_page (slice_get pages i) refl (sym (slice_get-map_from (map_lines f) 0 pages i) ∙ is)
  where
    by_page : (o : Option Page) → slice_get pages i ≡ o → option_map (map_lines f (0 + i)) o ≡ Some (Present cells) → length cells ≡ 64
    by_page None was is = cc
    by_page (Some Absent) was is = cc
    by_page (Some (Present old)) was is =
        let same : map_from f (64 * (0 + i)) old ≡ cells = cc in ap length (sym same) ∙ length-map_from f (64 * (0 + i)) old ∙ whole i old was

-- what is placed is a line of the volume
pub placed_lines : (s : VolumeState) (m : Medium) (start len line : ℕ) → VolumeServes s m → IsPlaced (volume_place s.geo s.present true) start len line → IsVolumeLine s.geo line
placed_lines s m start len line serves is = placed_line s.geo serves.valid s.present true is.0 line serves.all is.2

module _ (s : VolumeState) (old new : Medium) (f : ℕ → Cell → Cell) (serves : VolumeServes s old) where
  -- each line that is there turned
  pub holds-turned : ((n line : ℕ) → volume_place s.geo s.present true n ≡ Some line → Turns (f n) line old new) → (pages : List Page) → VolumeHolds s old pages → VolumeHolds s new (map_from (map_lines f) 0 pages)
  holds-turned turned pages holds = record {
    there = presence_of-lines f 0 pages ∙ holds.there;
    stand = record {
      whole = whole-mapped f pages holds.stand.whole;
      lines = λ n cell is.
          let was = changed_from (f n) (cell_of pages n) cell (sym (cell_of-map f pages n) ∙ is) in
          let there = cell_there s old pages holds n was.0 was.1 in
          subst (CellStands new (volume_line s.geo n)) was.2 ((turned n (volume_line s.geo n) (place_of s.geo s.present true n there)).stands was.0 (holds.stand.lines n was.0 was.1));
    };
  }

  -- each line that is there turned, or may have been
  pub images-turned : (R : ℕ → Cell → Cell → Type 0) (start len : ℕ) → WritesBackOthers (IsPlaced (volume_place s.geo s.present true) start len) old new → {T E : Type 0} (r : Result T E) → ((n : ℕ) (cell : Cell) → R n cell (f n cell))
      → OnOk r ((n line : ℕ) → volume_place s.geo s.present true n ≡ Some line → Turns (f n) line old new)
      → OnErr r ((n line : ℕ) → volume_place s.geo s.present true n ≡ Some line → MayTurn (R n) line old new)
      → (pages : List Page) → VolumeHolds s old pages → EachReadsPages s.geo new (LineByLine R pages)
  images-turned R start len x r leaves done stopped pages holds =
      let left = pages_left R (volume_line s.geo) new pages holds.stand.whole each in
      let after = serves-others s old new (IsPlaced (volume_place s.geo s.present true) start len) (λ n is. placed_lines s old start len n serves is) x serves in
      let as_long : length left.pages ≡ length pages = sym (length-map left.pages is_present) ∙ ap length left.there ∙ length-map pages is_present in
      reads_rest s.geo new s.present left.pages (LineByLine R pages) serves.valid after.count serves.all (as_long ∙ length-pages s old pages holds ∙ serves.all) after.rest (left.there ∙ holds.there) left.stand left.may
    where
      each : (n : ℕ) (cell : Cell) → cell_of pages n ≡ Some cell → IsLeft (R n) (volume_line s.geo n) new cell
      each n cell is =
          let at = place_of s.geo s.present true n (cell_there s old pages holds n cell is) in
          let stands = holds.stand.lines n cell is in
          by_result r done stopped at stands
        where
          by_result : {T E : Type 0} (r : Result T E) → OnOk r ((n line : ℕ) → volume_place s.geo s.present true n ≡ Some line → Turns (f n) line old new) → OnErr r ((n line : ℕ) → volume_place s.geo s.present true n ≡ Some line → MayTurn (R n) line old new) → volume_place s.geo s.present true n ≡ Some (volume_line s.geo n) → CellStands old (volume_line s.geo n) cell → IsLeft (R n) (volume_line s.geo n) new cell
          by_result (Ok v) turned may at stands = record { left = f n cell; may = leaves n cell; stands = (turned n (volume_line s.geo n) at).stands cell stands }
          by_result (Err e) turned may at stands =
              let l = (may n (volume_line s.geo n) at).leaves cell stands in record { left = l.0; may = l.1; stands = l.2 }
