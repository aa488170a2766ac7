-- Pages by their first lines.
use Rattle.std.proofs.Common.{◌≡◌, ℕ, ◌+◌, ◌*◌, ◌/◌, ◌<◌, Bool, true, false, Some, None, List, length, slice_get, slice_index_or, sym, ap, ◌∙◌, arith}
use Rattle.std.proofs.lemmas.Option.{slice_get-get_or}
use Rattle.word_tables.specs.declared.geometry.Geometry.{Geometry}
use Rattle.word_tables.specs.Bounds.{IsValid}
use Rattle.word_tables.specs.Layout.{volume_line}
use Rattle.pm_volume.specs.Object.{is_wanted, volume_place}
use Rattle.pm_volume.proofs.PlaceLemmas.{lines_follow, place_of, unplaced}

page_of : (page k : ℕ) → k < 64 → (64 * page + k) / 64 ≡ page
page_of page k below = omega arith

-- where a page is there, its lines lie from its first one on
pub lines_there : (geo : Geometry) (there : List Bool) (page first k : ℕ) → IsValid geo → slice_get there page ≡ Some true → first ≡ volume_line geo (64 * page) → k < 64
    → volume_place geo there true (64 * page + k) ≡ Some (first + k)
lines_there geo there page first k valid is at below =
    place_of geo there true (64 * page + k) (ap (slice_get there) (page_of page k below) ∙ is)
    ∙ ap (λ n. Some n) (lines_follow geo valid page k below ∙ ap (λ n. n + k) (sym at))

-- where it isn't, they lie nowhere
pub lines_nowhere : (geo : Geometry) (there : List Bool) (page k : ℕ) → slice_get there page ≡ Some false → k < 64 → volume_place geo there true (64 * page + k) ≡ None
lines_nowhere geo there page k absent below =
    unplaced geo there true (64 * page + k) (ap (λ i. is_wanted true (slice_get there i)) (page_of page k below) ∙ ap (is_wanted true) absent)

-- a mark that was read
pub found_at : (there : List Bool) (page : ℕ) (b mark : Bool) → page < length there → mark ≡ slice_index_or there page mark → mark ≡ b → slice_get there page ≡ Some b
found_at there page b mark within is at = slice_get-get_or there page mark within ∙ ap (λ x. Some x) (sym is ∙ at)
