-- A line stored and then synced.
use Rattle.std.proofs.Common.{◌≡◌, inl, inr, ℕ, ◌*◌, ◌<◌, true, Option, Some, None, Result, Ok, Err, List, length, sym, ap, subst, ◌∙◌, le-add_right, arith}
use Rattle.std.specs.Result.{IsErrAnd}
use Rattle.std.proofs.lemmas.Result.{on_ok_weaker}
use Rattle.line_device.specs.Device.{Device}
use Rattle.line_device.specs.Medium.{Medium}
use Rattle.line_device.specs.Panel.{Runs}
use Rattle.line_device.specs.Panel.Outcome.{went}
use Rattle.line_device.proofs.PanelLemmas.{runs_then, runs_within}
use Rattle.line_words.specs.Told.{Answers, told_outcome}
use Rattle.line_words.proofs.ToldLemmas.{on_worked-then}
use Rattle.word_log.proofs.AnswerLemmas.{is_fault}
use Rattle.word_tables.specs.declared.geometry.Geometry.{Geometry}
use Rattle.word_tables.specs.Layout.{volume_line}
use Rattle.nvm_model.specs.Interrupted.{MayStore}
use Rattle.nvm_model.specs.Page.{Page, cell_of, fill, put}
use Rattle.page_lines.specs.Turns.{WritesBackOthers}
use Rattle.page_lines.proofs.OthersLemmas.{others-trans}
use Rattle.pm_volume.specs.Area.{IsOfVolume}
use Rattle.pm_volume.specs.Calls.{ChangesVolume, SyncsVolume}
use Rattle.pm_volume.specs.Costs.{store_calls, store_persists}
use Rattle.pm_volume.specs.Images.{EachReadsPages}
use Rattle.pm_volume.specs.Left.{IsSoundLine}
use Rattle.pm_volume.specs.Line.{MayWrite, stored_line, written_line}
use Rattle.pm_volume.specs.Object.{KeepsMarks, VolumeHolds, VolumeServes, VolumeState, volume_place}
use Rattle.pm_volume.specs.Refusals as volume
use Rattle.pm_volume.specs.Refusals.{VolumeRefusal, volume_says}
use Rattle.pm_volume.specs.declared.fault.VolumeFault.{VolumeFault}
use Rattle.pm_volume.proofs.CountLemmas.{there_in_most}
use Rattle.pm_volume.proofs.HoldsLemmas.{length-holds, shown-hold, shown_pages}
use Rattle.pm_volume.proofs.LineCallLemmas.{line-refused, store-refused}
use Rattle.pm_volume.proofs.LineLemmas.{IsStrong, fill-strong, stored-strong}
use Rattle.pm_volume.proofs.MarkLemmas.{marks-trans}
use Rattle.pm_volume.proofs.StandingLemmas.{each_pages-then}
use Rattle.append_log.specs.Lines.{write_calls, write_persists}
use Rattle.append_log.specs.Refusals.{load_refusal, write_refusal}
use Rattle.append_log.proofs.CallLemmas.{never-refused}

-- why a store of the line is refused
pub store-answered : (T : Type 0) (s : VolumeState) (m : Medium) (n len : ℕ) (r : Result T VolumeFault) → len ≡ 64 → n < 64 * s.geo.vpages
    → ((pages : List Page) → VolumeHolds s m pages → Answers volume_says (volume.store_refusal s m pages (64 * n) len) r) → Answers volume_says (write_refusal s m n) r
store-answered T s m n len r size within refused =
    subst (λ (why : Option VolumeRefusal). Answers volume_says why r) (ap (volume.store_refusal s m (shown_pages s m) (64 * n)) size ∙ store-refused s m (shown_pages s m) n within)
    (refused (shown_pages s m) (shown-hold s m))

-- a refused or stopped store, of a line that would be synced then
pub store-ended : {D : Type 0} (state : D → Device) (s s1 : VolumeState) (d d1 : D) (n : ℕ) (bytes : List ℕ) (f : VolumeFault) (r : Result (Unit {0}) VolumeFault) → length bytes ≡ 64 → IsErrAnd r (λ g. g ≡ f)
    → ChangesVolume {T = Unit {0}} state s s1 d d1 (Err f) (λ pages. put (64 * n) bytes (fill (64 * n) (length bytes) pages)) (MayStore (64 * n) bytes) (store_calls s.present (64 * n) (length bytes)) (store_persists s.present (64 * n) (length bytes))
    → ChangesVolume state s s1 d d1 r (written_line n bytes) (MayWrite n bytes) (write_calls s.present n) (write_persists s.present n)
store-ended state s s1 d d1 n bytes f r size is x =
    subst (λ (r : Result (Unit {0}) VolumeFault). ChangesVolume state s s1 d d1 r (written_line n bytes) (MayWrite n bytes) (write_calls s.present n) (write_persists s.present n)) (sym (is_fault r f is)) (record {
      untouched = x.untouched;
      ok = tt;
      images = λ stops pages holds. each_pages-then _ _ _ _ (λ left may. inl may) (x.images stops pages holds);
      outside = x.outside;
      metadata = x.metadata;
      serves = x.serves;
      object = x.object;
      runs = runs_within _ _ _ _ _ _ _ (subst (λ len. Runs (store_calls s.present (64 * n) len) (store_persists s.present (64 * n) len) (told_outcome (volume_says f)) (state d).panel (state d1).panel) size x.runs) (le-add_right _ _) (le-add_right _ _);
    })

module _ {D : Type 0} (state : D → Device) (s s1 : VolumeState) (d d1 : D) (n : ℕ) (bytes : List ℕ) (u : Unit {0}) (size : length bytes ≡ 64) (within : n < 64 * s.geo.vpages) (serves : VolumeServes s (state d).medium)
    (sound : (pages : List Page) → VolumeHolds s (state d).medium pages → IsSoundLine (cell_of pages n))
    (x : ChangesVolume state s s1 d d1 (Ok u) (λ pages. put (64 * n) bytes (fill (64 * n) (length bytes) pages)) (MayStore (64 * n) bytes) (store_calls s.present (64 * n) (length bytes)) (store_persists s.present (64 * n) (length bytes))) where
  held : (pages : List Page) → VolumeHolds s (state d).medium pages → VolumeHolds s1 (state d1).medium (stored_line n bytes pages)
  held pages holds = subst (λ len. VolumeHolds s1 (state d1).medium (put (64 * n) bytes (fill (64 * n) len pages))) size (x.ok pages holds)

  strong : (pages : List Page) → VolumeHolds s (state d).medium pages → IsStrong (stored_line n bytes pages) n
  strong pages holds =
      stored-strong pages n bytes
      (fill-strong (volume_line s.geo) (state d).medium pages n holds.stand (omega (arith, within, length-holds s (state d).medium pages holds, serves.all)) (sound pages holds))

  -- a sync after it is not refused
  pub sync-answered : (r : Result (Unit {0}) VolumeFault) → ((pages : List Page) → VolumeHolds s1 (state d1).medium pages → Answers volume_says (volume.sync_refusal s1 pages (64 * n) 64) r) → Answers volume_says None r
  sync-answered r refused =
      let pages = shown_pages s (state d).medium in
      let holds = shown-hold s (state d).medium in
      let below : n < 64 * s1.geo.vpages = omega (arith, within, ap (λ (g : Geometry). g.vpages) x.object.0) in
      subst (λ (why : Option VolumeRefusal). Answers volume_says why r)
      (line-refused s1 (stored_line n bytes pages) n below ∙ ap (load_refusal n) (strong pages holds).is)
      (refused (stored_line n bytes pages) (held pages holds))

  pub store-synced : (s2 : VolumeState) (d2 : D) (r : Result (Unit {0}) VolumeFault) → SyncsVolume state s1 s2 d1 d2 r (λ pages. volume.sync_refusal s1 pages (64 * n) 64) (Some (64 * n)) 64
      → ChangesVolume state s s2 d d2 r (written_line n bytes) (MayWrite n bytes) (write_calls s.present n) (write_persists s.present n)
  store-synced s2 d2 r y =
      let few = there_in_most (volume_place s1.geo s1.present true) (record { start = 64 * n; len = 64 }) in
      record {
        untouched = never-refused _ r (sync-answered r y.refused);
        ok = on_ok_weaker r (λ done pages holds. done (stored_line n bytes pages) (held pages holds)) y.ok;
        images = on_worked-then volume_says r
            (λ each pages holds.
            subst (λ (g : Geometry). EachReadsPages g (state d2).medium (MayWrite n bytes pages)) x.object.0 (each_pages-then _ _ _ _ (λ left may. inr may) (each (stored_line n bytes pages) (held pages holds))))
            y.images;
        outside = others-trans (IsOfVolume s.geo) (state d).medium (state d1).medium (state d2).medium x.outside (subst (λ (g : Geometry). WritesBackOthers (IsOfVolume g) (state d1).medium (state d2).medium) x.object.0 y.outside);
        metadata = marks-trans s.geo (state d).medium (state d1).medium (state d2).medium x.metadata (subst (λ (g : Geometry). KeepsMarks g (state d1).medium (state d2).medium) x.object.0 y.metadata);
        serves = λ _. y.serves;
        object = (ap (λ (v : VolumeState). v.geo) y.object ∙ x.object.0, ap (λ (v : VolumeState). v.settled) y.object);
        runs = runs_then _ _ _ _ _ _ _ _ (subst (λ len. Runs (store_calls s.present (64 * n) len) (store_persists s.present (64 * n) len) went (state d).panel (state d1).panel) size x.runs) (runs_within _ _ _ _ _ _ _ y.runs few few);
      }
