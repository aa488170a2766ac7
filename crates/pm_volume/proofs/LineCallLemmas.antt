-- What calls on a whole line of the volume are refused for.
use Rattle.std.proofs.Common.{◌≡◌, ℕ, ◌*◌, ◌+◌, ◌&&◌, ◌<◌, Bool, true, false, not, cond, Option, Some, None, List, refl, ap, ◌∙◌, arith}
use Rattle.std.proofs.lemmas.Bool.{le-ltb}
use Rattle.line_device.specs.Medium.{Medium}
use Rattle.word_tables.specs.declared.geometry.Geometry.{Geometry}
use Rattle.nvm_model.specs.Blocks.{first_there}
use Rattle.nvm_model.specs.Cell.{covers}
use Rattle.nvm_model.specs.Page.{Page, cell_of, first_bad_line, first_uncovered_line, is_bad_cell, touches_absent}
use Rattle.pm_volume.specs.Object.{VolumeState}
use Rattle.pm_volume.specs.Refusals.{VolumeRefusal, bytes_refusal, load_refusal, metadata_refusal_if, poisoned_at, refused_if, store_refusal}
use Rattle.pm_volume.specs.Refusals.VolumeRefusal.{Poison, Range, Length}
use Rattle.pm_volume.proofs.LineLemmas.{first_bad-line, line_covered, lowest-one}

-- bytes of one line are in range
in-range : (geo : Geometry) (n : ℕ) → n < 64 * geo.vpages → bytes_refusal geo (64 * n) 64 ≡ None
in-range geo n within =
    ap (λ t. first_there (refused_if t Range) (refused_if false Length)) (le-ltb (4096 * geo.vpages) (64 * n + 64) (omega arith))

-- a load or a sync of it is refused where it is bad
pub line-refused : (s : VolumeState) (pages : List Page) (n : ℕ) → n < 64 * s.geo.vpages → load_refusal s pages (64 * n) 64 ≡ refused_if (is_bad_cell (cell_of pages n)) (Poison (64 * n))
line-refused s pages n within =
    ap (λ o. first_there o (poisoned_at (first_bad_line pages (64 * n) 64))) (in-range s.geo n within) ∙ ap poisoned_at (first_bad-line pages n) ∙ by_test (is_bad_cell (cell_of pages n))
  where
    by_test : (b : Bool) → poisoned_at (cond b (Some n) None) ≡ refused_if b (Poison (64 * n))
    by_test true = refl
    by_test false = refl

-- a store over all of it only for the metadata
uncovered-line : (pages : List Page) (n : ℕ) → first_uncovered_line pages (64 * n) 64 ≡ None
unfolding first_uncovered_line
uncovered-line pages n =
    lowest-one (λ k. is_bad_cell (cell_of pages k) && not (covers (64 * n) 64 k)) n false
    (ap (λ c. is_bad_cell (cell_of pages n) && not c) (line_covered n) ∙ neither (is_bad_cell (cell_of pages n)))
  where
    neither : (b : Bool) → (b && false) ≡ false
    neither true = refl
    neither false = refl

pub store-refused : (s : VolumeState) (m : Medium) (pages : List Page) (n : ℕ) → n < 64 * s.geo.vpages → store_refusal s m pages (64 * n) 64 ≡ metadata_refusal_if (touches_absent (64 * n) 64 s.present) s.geo m
store-refused s m pages n within =
    ap (λ o. first_there o (first_there (metadata_refusal_if (touches_absent (64 * n) 64 s.present) s.geo m) (poisoned_at (first_uncovered_line pages (64 * n) 64)))) (in-range s.geo n within)
    ∙ ap (λ o. first_there (metadata_refusal_if (touches_absent (64 * n) 64 s.present) s.geo m) (poisoned_at o)) (uncovered-line pages n) ∙ first (metadata_refusal_if (touches_absent (64 * n) 64 s.present) s.geo m)
  where
    first : (o : Option VolumeRefusal) → first_there o None ≡ o
    first None = refl
    first (Some why) = refl
