-- Bad lines of the volume's pages, counted.
use Rattle.std.proofs.Common.{◌≡◌, ℕ, ◌+◌, ◌*◌, ◌/◌, ◌<◌, true, false, count_by, Option, Some, None, option_map, List, slice_get, sym, ap, ◌∙◌, refl, arith}
use Rattle.std.specs.List.{range_with_len}
use Rattle.std.proofs.lemmas.Option.{get_or_from_slice_get, none-some}
use Rattle.line_device.specs.Medium.{Medium}
use Rattle.nvm_model.specs.Page.{Page, is_present}
use Rattle.nvm_model.specs.Page.Page.{Absent, Present}
use Rattle.word_tables.specs.Layout.{volume_line}
use Rattle.pm_volume.specs.Object.{VolumeHolds, VolumeState, volume_place}
use Rattle.pm_volume.proofs.BadLemmas.{page_there}
use Rattle.pm_volume.proofs.PlaceLemmas.{placed}
use Rattle.marked_lines.specs.declared.mark.Mark.TheVariants as mark
use Rattle.marked_lines.specs.Counting.{bad_in_page, has_mark, nth_page}
use Rattle.marked_lines.proofs.CountLemmas.{bad_cells-count, lines_marked}

pub page_bad : (s : VolumeState) (m : Medium) (pages : List Page) (page line : ℕ) → VolumeHolds s m pages
    → ((k : ℕ) → k < 64 → volume_place s.geo s.present true (64 * page + k) ≡ Some (line + k))
    → bad_in_page (nth_page pages page) ≡ count_by (has_mark mark.Bad m) (range_with_len line 64)
page_bad s m pages page line holds places = by_page (slice_get pages page) refl
  where
    here : (64 * page + 0) / 64 ≡ page
    here = omega arith

    present : option_map is_present (slice_get pages page) ≡ Some true
    present = sym (page_there s m pages holds page) ∙ ap (slice_get s.present) (sym here) ∙ (placed s.geo s.present true (64 * page + 0) (line + 0) (places 0 (omega arith))).0

    by_page : (o : Option Page) → slice_get pages page ≡ o → bad_in_page (nth_page pages page) ≡ count_by (has_mark mark.Bad m) (range_with_len line 64)
    by_page None was = absurd (none-some true (sym (ap (option_map is_present) was) ∙ present))
    by_page (Some Absent) was = let wrong : Some false ≡ Some true = sym (ap (option_map is_present) was) ∙ present in cc
    by_page (Some (Present cells)) was =
        ap bad_in_page (get_or_from_slice_get pages page (Present cells) Absent was)
        ∙ bad_cells-count cells
        ∙ lines_marked mark.Bad (volume_line s.geo) m pages page line cells holds.stand was
        (λ k small. (placed s.geo s.present true (64 * page + k) (line + k) (places k small)).1)

pub page_bad-none : (s : VolumeState) (m : Medium) (pages : List Page) (page : ℕ) → VolumeHolds s m pages → slice_get s.present page ≡ Some false
    → bad_in_page (nth_page pages page) ≡ 0
page_bad-none s m pages page holds absent = by_page (slice_get pages page) refl
  where
    lacks : option_map is_present (slice_get pages page) ≡ Some false
    lacks = sym (page_there s m pages holds page) ∙ absent

    by_page : (o : Option Page) → slice_get pages page ≡ o → bad_in_page (nth_page pages page) ≡ 0
    by_page None was = absurd (none-some false (sym (ap (option_map is_present) was) ∙ lacks))
    by_page (Some Absent) was = ap bad_in_page (get_or_from_slice_get pages page Absent Absent was)
    by_page (Some (Present cells)) was = let wrong : Some true ≡ Some false = sym (ap (option_map is_present) was) ∙ lacks in cc
