-- Absent pages made zeros, and then there.
use Rattle.std.proofs.Common.{◌≡◌, ◌⊎◌, inl, inr, ℕ, ◌+◌, ◌/◌, ◌<◌, ◌≤◌, Bool, true, false, Some, option_map, List, length, get_or, slice_get, refl, sym, ap, subst, ◌∙◌, arith}
use Rattle.std.proofs.lemmas.Bool.{cases_Bool, false≢true}
use Rattle.std.proofs.lemmas.Option.{slice_get-get_or, slice_get_within}
use Rattle.nvm_base.specs.declared.units.Span.{Span}
use Rattle.nvm_base.specs.Units.{units_of}
use Rattle.line_device.specs.Medium.{Medium}
use Rattle.line_words.specs.Words.{WritesBackOutside}
use Rattle.word_tables.specs.declared.geometry.Geometry.{Geometry}
use Rattle.word_tables.specs.Bounds.{IsValid}
use Rattle.word_tables.specs.Layout.{meta_lines, volume_line, IsVolumeLine}
use Rattle.word_log.specs.Area.{IsOf}
use Rattle.word_log.specs.Replay.{Replays}
use Rattle.word_log.specs.Held.{EachReplays}
use Rattle.nvm_model.specs.Cell.{CellStands, covers, zero_cell}
use Rattle.nvm_model.specs.Lines.{AreGood}
use Rattle.nvm_model.specs.Page.{Page, PagesStand, fill, is_present, presence_of, touches_absent, touches_page}
use Rattle.nvm_model.proofs.FillLemmas.{fill-nothing, pages_stand-fill}
use Rattle.nvm_model.proofs.PageLemmas.{length-fill}
use Rattle.nvm_model.proofs.NumberedLemmas.{length-map_from}
use Rattle.page_lines.specs.Turns.{WritesBackOthers}
use Rattle.page_lines.proofs.OthersLemmas.{others-trans, others-wider}
use Rattle.page_lines.proofs.LoopLemmas.{within-touches}
use Rattle.page_lines.proofs.TurnLemmas.{stands-others}
use Rattle.pm_volume.specs.Area.{volume_area, IsOfVolume}
use Rattle.pm_volume.specs.Checked.{IsAbsentLine, IsCovered}
use Rattle.pm_volume.specs.Images.{EachReadsPages, ReadsPages}
use Rattle.pm_volume.specs.Object.{KeepsMarks, VolumeHolds, VolumeServes, VolumeState, volume_place}
use Rattle.pm_volume.specs.Presence.{presence_words, switched}
use Rattle.pm_volume.proofs.BadLemmas.{cell_there, page_there}
use Rattle.pm_volume.proofs.AreaLemmas.{area_in_metadata}
use Rattle.pm_volume.proofs.MarkLemmas.{marks-others, marks-outside, marks-trans}
use Rattle.pm_volume.proofs.PlaceLemmas.{in_volume, line_is_volume, lines_differ, place_of, placed, placed_line, volume_behind_metadata}
use Rattle.pm_volume.proofs.PresenceLemmas.{filled_presence}
use Rattle.nvm_model.proofs.TouchedPageLemmas.{among_bounds, touches_among}
use Rattle.pm_volume.proofs.ServesLemmas.{of_volume, others-outside, reads_rest, serves-others}
use Rattle.pm_volume.proofs.TurnLemmas.{length-pages}

-- a commit leaves the lines behind the metadata alone
pub others-meta : (geo : Geometry) (old new : Medium) → IsValid geo → WritesBackOutside (IsOf (volume_area geo)) old new → WritesBackOthers (λ n. n < meta_lines geo) old new
others-meta geo old new valid x = record {
  count = x.count;
  bad = λ n _. x.bad n;
  weak = λ n _. x.weak n;
  stays_strong = λ n strong. x.weak n ∙ strong;
  stays_good = λ n good strong. x.bad n ∙ good;
  word_write_back = λ p apart. x.word_write_back p (λ of. apart (area_in_metadata geo valid p of));
}

-- pages stand on where none of their lines is worked on
pub holds-others : (s : VolumeState) (old new : Medium) (lines : ℕ → Type 0) → ((n : ℕ) → slice_get s.present (n / 64) ≡ Some true → lines (volume_line s.geo n) → ⊥) → WritesBackOthers lines old new → (pages : List Page) → VolumeHolds s old pages → VolumeHolds s new pages
holds-others s old new lines apart x pages holds = record {
  there = holds.there;
  stand = record {
    whole = holds.stand.whole;
    lines = λ n cell is. stands-others lines old new (volume_line s.geo n) cell x (apart n (cell_there s old pages holds n cell is)) (holds.stand.lines n cell is);
  };
}

module _ (s : VolumeState) (old : Medium) (serves : VolumeServes s old) where
  pub absent_is_volume : (n : ℕ) → IsAbsentLine s.geo s.present n → IsVolumeLine s.geo n
  absent_is_volume n is = placed_line s.geo serves.valid s.present false is.0 n serves.all is.1

  there_is_data : (n : ℕ) → slice_get s.present (n / 64) ≡ Some true → meta_lines s.geo ≤ volume_line s.geo n
  there_is_data n there = (volume_behind_metadata s.geo serves.valid (volume_line s.geo n) (line_is_volume s.geo serves.valid n (in_volume s.geo serves.valid s.present n true serves.all there))).0

  pub there_not_meta : (n : ℕ) → slice_get s.present (n / 64) ≡ Some true → volume_line s.geo n < meta_lines s.geo → ⊥
  there_not_meta n there below = let from = there_is_data n there in absurd (omega (arith, from, below))

  pub there_not_absent : (n : ℕ) → slice_get s.present (n / 64) ≡ Some true → IsAbsentLine s.geo s.present (volume_line s.geo n) → ⊥
  there_not_absent n there is =
      let at = placed s.geo s.present false is.0 (volume_line s.geo n) is.1 in
      let same : is.0 ≡ n = lines_differ s.geo serves.valid is.0 n at.1 in
      let both : Some true ≡ Some false = sym there ∙ ap (λ k. slice_get s.present (k / 64)) (sym same) ∙ at.0 in
      absurd (no_both both)
    where
      no_both : Some true ≡ Some false → ⊥
      no_both is = cc

  module _ (mid : Medium) (x : WritesBackOthers (IsAbsentLine s.geo s.present) old mid) where
    pub cleared-serves : VolumeServes s mid
    cleared-serves = serves-others s old mid (IsAbsentLine s.geo s.present) absent_is_volume x serves

    pub cleared-marks : KeepsMarks s.geo old mid
    cleared-marks = marks-others s.geo old mid (IsAbsentLine s.geo s.present) serves.valid absent_is_volume x

    pub cleared-good : AreGood old (meta_lines s.geo) → AreGood mid (meta_lines s.geo)
    cleared-good good n below = cleared-marks n below ∙ good n below

    pub cleared-holds : (pages : List Page) → VolumeHolds s old pages → VolumeHolds s mid pages
    cleared-holds pages holds = holds-others s old mid (IsAbsentLine s.geo s.present) there_not_absent x pages holds

    pub cleared-outside : WritesBackOthers (IsOfVolume s.geo) old mid
    cleared-outside = others-wider (IsAbsentLine s.geo s.present) (IsOfVolume s.geo) old mid (λ n is. of_volume s.geo n (absent_is_volume n is)) x

    pub cleared-images : (P : List Page → Type 0) (pages : List Page) → VolumeHolds s old pages → P pages → EachReadsPages s.geo mid P
    cleared-images P pages holds is =
        reads_rest s.geo mid s.present pages P serves.valid cleared-serves.count serves.all (length-pages s old pages holds ∙ serves.all) cleared-serves.rest holds.there (cleared-holds pages holds).stand is

    module _ (new : Medium) (span pages : Span) (some : 1 ≤ span.len) (units : pages ≡ units_of 4096 span) (y : WritesBackOutside (IsOf (volume_area s.geo)) mid new)
        (zeros : (n : ℕ) → pages.start ≤ n / 64 → n / 64 < pages.start + pages.len → slice_get s.present (n / 64) ≡ Some false → CellStands mid (volume_line s.geo n) zero_cell) where
      touched_page : (i : ℕ) → touches_page span.start span.len i ≡ true → (pages.start ≤ i) × (i < pages.start + pages.len)
      touched_page i touched =
          subst (λ (p : Span). (p.start ≤ i) × (i < p.start + p.len)) (sym units) (among_bounds (units_of 4096 span).start (units_of 4096 span).len i (sym (touches_among span.start span.len i some) ∙ touched))

      old_stand : (ps : List Page) → VolumeHolds s old ps → VolumeHolds s new ps
      old_stand ps holds = holds-others s mid new (λ n. n < meta_lines s.geo) there_not_meta (others-meta s.geo mid new serves.valid y) ps (cleared-holds ps holds)

      absent_is_data : (n : ℕ) → slice_get s.present (n / 64) ≡ Some false → volume_line s.geo n < meta_lines s.geo → ⊥
      absent_is_data n absent below =
          let from = (volume_behind_metadata s.geo serves.valid (volume_line s.geo n) (line_is_volume s.geo serves.valid n (in_volume s.geo serves.valid s.present n false serves.all absent))).0 in
          absurd (omega (arith, from, below))

      pub filled-stand : (ps : List Page) → VolumeHolds s old ps → PagesStand (volume_line s.geo) new (fill span.start span.len ps)
      filled-stand ps holds =
          pages_stand-fill (volume_line s.geo) new span.start span.len ps (old_stand ps holds).stand
          (λ n absent touched.
          let at = touched_page (n / 64) touched in
          let is_absent : slice_get s.present (n / 64) ≡ Some false = page_there s old ps holds (n / 64) ∙ ap (λ o. option_map is_present o) absent in
          stands-others (λ k. k < meta_lines s.geo) mid new (volume_line s.geo n) zero_cell (others-meta s.geo mid new serves.valid y) (absent_is_data n is_absent) (zeros n at.0 at.1 is_absent))

      pub filled-there : (ps : List Page) → VolumeHolds s old ps → presence_of (fill span.start span.len ps) ≡ switched pages.start pages.len true s.present
      filled-there ps holds =
          filled_presence span ps some
          ∙ ap (switched (units_of 4096 span).start (units_of 4096 span).len true) holds.there
          ∙ ap (λ (p : Span). switched p.start p.len true s.present) (sym units)

      pub filled-holds : (t : VolumeState) → t.geo ≡ s.geo → t.present ≡ switched pages.start pages.len true s.present → (ps : List Page) → VolumeHolds s old ps → VolumeHolds t new (fill span.start span.len ps)
      filled-holds t geo there ps holds = record {
        there = filled-there ps holds ∙ sym there;
        stand = subst (λ (g : Geometry). PagesStand (volume_line g) new (fill span.start span.len ps)) (sym geo) (filled-stand ps holds);
      }

      pub filled-images : EachReplays (volume_area s.geo) new (presence_words s.geo s.present) (presence_words s.geo (switched pages.start pages.len true s.present)) → (ps : List Page) → VolumeHolds s old ps → EachReadsPages s.geo new (λ left. (left ≡ ps) ⊎ (left ≡ fill span.start span.len ps))
      filled-images images ps holds image at =
          let long = length-pages s old ps holds ∙ serves.all in
          elim (images image at) as (λ _. ReadsPages s.geo new (λ left. (left ≡ ps) ⊎ (left ≡ fill span.start span.len ps)) image) [
            | inl was ↦ record {
              pages = ps;
              is = inl refl;
              all = long;
              replays = subst (λ (there : List Bool). Replays (volume_area s.geo) image (presence_words s.geo there)) (sym holds.there) was;
              stand = (old_stand ps holds).stand;
            }
            | inr now ↦ record {
              pages = fill span.start span.len ps;
              is = inr refl;
              all = length-fill span.start span.len ps ∙ long;
              replays = subst (λ (there : List Bool). Replays (volume_area s.geo) image (presence_words s.geo there)) (sym (filled-there ps holds)) now;
              stand = filled-stand ps holds;
            }
          ]

      pub filled-outside : WritesBackOthers (IsOfVolume s.geo) old new
      filled-outside = others-trans (IsOfVolume s.geo) old mid new cleared-outside (others-outside s.geo mid new serves.valid y)

      pub filled-marks : KeepsMarks s.geo old new
      filled-marks = marks-trans s.geo old mid new cleared-marks (marks-outside s.geo (IsOf (volume_area s.geo)) mid new y)

      -- lines that are bad now were there, and bad
      pub filled-covered : (t : VolumeState) → t.geo ≡ s.geo → t.present ≡ switched pages.start pages.len true s.present → IsCovered s old span → IsCovered t new span
      filled-covered t geo there covered n line touched at bad =
          let here : volume_place s.geo t.present true n ≡ Some line = ap (λ (g : Geometry). volume_place g t.present true n) (sym geo) ∙ at in
          let is = placed s.geo t.present true n line here in
          let size : length t.present ≡ length s.present = ap length there ∙ length-map_from _ 0 s.present in
          let below : n / 64 < length s.present = subst (λ k. n / 64 < k) size (slice_get_within t.present (n / 64) true is.0) in
          let got = slice_get-get_or s.present (n / 64) false below in
          let was_bad : mid.is_bad line ≡ true = sym (y.bad line) ∙ bad in
          elim (cases_Bool (get_or s.present (n / 64) false)) as (λ _. covers span.start span.len n ≡ true) [
            | inl true_ ↦
                let there_ : slice_get s.present (n / 64) ≡ Some true = got ∙ ap (λ b. Some b) true_ in
                let not_absent : IsAbsentLine s.geo s.present line → ⊥ = subst (λ l. IsAbsentLine s.geo s.present l → ⊥) is.1 (there_not_absent n there_) in
                covered n line touched (place_of s.geo s.present true n there_ ∙ ap (λ l. Some l) is.1) (sym (x.bad line not_absent) ∙ was_bad)
            | inr false_ ↦
                let lines = within-touches span.start span.len n some touched in
                let first : (units_of 4096 span).start ≤ n / 64 = omega (arith, lines.0, lines.1) in
                let last : n / 64 < (units_of 4096 span).start + (units_of 4096 span).len = omega (arith, lines.0, lines.1) in
                let from = subst (λ (p : Span). p.start ≤ n / 64) (sym units) first in
                let to = subst (λ (p : Span). n / 64 < p.start + p.len) (sym units) last in
                let zero_here = zeros n from to (got ∙ ap (λ b. Some b) false_) in
                absurd (false≢true (sym (ap mid.is_bad (sym is.1) ∙ zero_here.0) ∙ was_bad))
          ]

-- where no touched page is absent a fill does nothing
pub unfilled-holds : (s : VolumeState) (m : Medium) (span : Span) → touches_absent span.start span.len s.present ≡ false → (pages : List Page) → VolumeHolds s m pages → VolumeHolds s m (fill span.start span.len pages)
unfilled-holds s m span none pages holds =
    subst (VolumeHolds s m) (sym (fill-nothing span.start span.len pages (ap (touches_absent span.start span.len) holds.there ∙ none))) holds

pub resting-images : (s : VolumeState) (m : Medium) (P : List Page → Type 0) → VolumeServes s m → (pages : List Page) → VolumeHolds s m pages → P pages → EachReadsPages s.geo m P
resting-images s m P serves pages holds is =
    reads_rest s.geo m s.present pages P serves.valid serves.count serves.all (length-pages s m pages holds ∙ serves.all) serves.rest holds.there holds.stand is
