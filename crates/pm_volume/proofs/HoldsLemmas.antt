-- What any pages that a volume and a device stand for have in common.
use Rattle.std.proofs.Common.{◌≡◌, ℕ, ◌+◌, ◌*◌, ◌/◌, ◌%◌, ◌<◌, Bool, true, false, Option, Some, None, List, [], length, slice_index_or, refl, sym, ap, ◌∙◌, arith}
use Rattle.std.specs.Int.{byte_at}
use Rattle.std.proofs.lemmas.Bool.{false≢true}
use Rattle.std.proofs.lemmas.List.{length-map}
use Rattle.std.proofs.lemmas.Option.{none-some, slice_get-get_or}
use Rattle.line_device.specs.History.{newest}
use Rattle.line_device.specs.Medium.{Medium}
use Rattle.line_device.proofs.HistoryLemmas.{newest-word_write_back}
use Rattle.nvm_model.specs.Cell.{Cell, CellStands}
use Rattle.nvm_model.specs.Cell.Cell.{Bad, Kept}
use Rattle.nvm_model.specs.Device.{device_pages}
use Rattle.nvm_model.specs.Page.{Page, cell_of, is_present}
use Rattle.nvm_model.proofs.DeviceLemmas.{device_pages-stand, presence_of-device}
use Rattle.word_tables.specs.Layout.{volume_line}
use Rattle.pm_volume.specs.Object.{VolumeHolds, VolumeState}
use Rattle.pm_volume.proofs.BadLemmas.{cell_at, cell_there}
use Rattle.pm_volume.specs.Line.{line_in}
use Rattle.pm_volume.specs.Left.{IsSoundLine}
use Rattle.pm_volume.proofs.LineLemmas.{same-line_bytes}

pub length-holds : (s : VolumeState) (m : Medium) (pages : List Page) → VolumeHolds s m pages → length pages ≡ length s.present
length-holds s m pages holds = sym (length-map pages is_present) ∙ ap length holds.there

module _ (m : Medium) (line : ℕ) where
  byte_stands : (weak : Bool) (words : List (List ℕ)) → CellStands m line (Kept weak words) → (k : ℕ) → k < 64
      → byte_at (k % 8) (newest (slice_index_or words (k / 8) [])) ≡ byte_at (k % 8) (newest (m.history (8 * line + k / 8)))
  byte_stands weak words stands k lt =
      ap (byte_at (k % 8)) (sym (newest-word_write_back false _ _ (stands.3 (k / 8) _ (slice_get-get_or words (k / 8) [] (omega (arith, stands.2))))))

  cells-read : (a b : Cell) → CellStands m line a → CellStands m line b → line_in (Some a) ≡ line_in (Some b)
  cells-read Bad Bad x y = refl
  cells-read Bad (Kept weak words) x y = absurd (false≢true (sym y.0 ∙ x))
  cells-read (Kept weak words) Bad x y = absurd (false≢true (sym x.0 ∙ y))
  cells-read (Kept weak words) (Kept mark others) x y =
      ap Some (same-line_bytes (Some (Kept weak words)) (Some (Kept mark others)) (λ k lt. byte_stands weak words x k lt ∙ sym (byte_stands mark others y k lt)))

  cells-sound : (a b : Cell) → CellStands m line a → CellStands m line b → IsSoundLine (Some a) → IsSoundLine (Some b)
  cells-sound Bad b x y sound = absurd sound
  cells-sound (Kept true words) b x y sound = absurd sound
  cells-sound (Kept false words) Bad x y sound = absurd (false≢true (sym x.0 ∙ y))
  cells-sound (Kept false words) (Kept true others) x y sound = absurd (false≢true (sym x.1 ∙ y.1))
  cells-sound (Kept false words) (Kept false others) x y sound = tt

module _ (s : VolumeState) (m : Medium) (one other : List Page) (holds : VolumeHolds s m one) (also : VolumeHolds s m other) (n : ℕ) where
  -- both have the line, or neither
  both : (R : Option Cell → Option Cell → Type 0) → R None None
      → ((a b : Cell) → CellStands m (volume_line s.geo n) a → CellStands m (volume_line s.geo n) b → R (Some a) (Some b)) → R (cell_of one n) (cell_of other n)
  both R none some = by_cells (cell_of one n) (cell_of other n) refl refl
    where
      by_cells : (o p : Option Cell) → cell_of one n ≡ o → cell_of other n ≡ p → R o p
      by_cells None None is are = none
      by_cells None (Some b) is are = let has = cell_at s m one holds n (cell_there s m other also n b are) in absurd (none-some has.0 (sym is ∙ has.1))
      by_cells (Some a) None is are = let has = cell_at s m other also n (cell_there s m one holds n a is) in absurd (none-some has.0 (sym are ∙ has.1))
      by_cells (Some a) (Some b) is are = some a b (holds.stand.lines n a is) (also.stand.lines n b are)

  pub holds-read : line_in (cell_of one n) ≡ line_in (cell_of other n)
  holds-read = both (λ a b. line_in a ≡ line_in b) refl (cells-read m (volume_line s.geo n))

  pub holds-sound : IsSoundLine (cell_of one n) → IsSoundLine (cell_of other n)
  holds-sound = both (λ a b. IsSoundLine a → IsSoundLine b) (λ _. tt) (cells-sound m (volume_line s.geo n))

-- pages that volume and device stand for, whichever exist
unfoldable pub shown_pages : VolumeState → Medium → List Page
shown_pages s m = device_pages (volume_line s.geo) m s.present

pub shown-hold : (s : VolumeState) (m : Medium) → VolumeHolds s m (shown_pages s m)
unfolding shown_pages
shown-hold s m = record { there = presence_of-device (volume_line s.geo) m s.present; stand = device_pages-stand (volume_line s.geo) m s.present }
