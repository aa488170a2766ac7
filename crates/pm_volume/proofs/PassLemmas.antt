-- What tests of lines say of a volume.
use Rattle.std.proofs.Common.{◌≡◌, ◌+◌, ◌*◌, ◌≤◌, ℕ, Bool, true, Option, Some, None, Result, Ok, Err, OnOk, List, refl, subst, ◌∙◌}
use Rattle.std.proofs.lemmas.Result.{on_ok_weaker}
use Rattle.nvm_base.specs.declared.units.Span.{Span}
use Rattle.line_device.specs.Medium.{Medium}
use Rattle.line_words.specs.Told.{Checks}
use Rattle.word_tables.specs.Layout.{meta_lines}
use Rattle.nvm_model.specs.Lines.{AreGood}
use Rattle.nvm_model.specs.Page.{Page, touches_absent}
use Rattle.page_lines.specs.declared.finding.BadLines.{BadLines}
use Rattle.page_lines.specs.declared.finding.BadLines.TheVariants.{All, NotCovered}
use Rattle.page_lines.specs.Sought.{lowest_bad_in}
use Rattle.pm_volume.specs.declared.fault.VolumeFault.{VolumeFault}
use Rattle.pm_volume.specs.Object.{PlacesState, VolumeHolds, VolumeState, volume_place}
use Rattle.pm_volume.specs.Refusals.{bytes_refusal, load_refusal, metadata_refusal_if, poisoned_at, store_refusal, volume_says}
use Rattle.pm_volume.specs.Checked.{IsReadable, IsStorable}
use Rattle.pm_volume.proofs.BadLemmas.{finds_bad, finds_uncovered}
use Rattle.page_lines.proofs.SearchLemmas.{all_covered, all_good}
use Rattle.pm_volume.proofs.CheckLemmas.{checks_second}

passed : {T : Type 0} (o : Option ℕ) (r : Result T VolumeFault) → Checks volume_says (poisoned_at o) r → OnOk r (o ≡ None)
passed None (Ok x) h = refl
passed (Some n) (Ok x) h = absurd h
passed o (Err f) h = tt

-- What tests say that passed, of the volume `v` inside the call and of the places of its lines.
module _ (v s : VolumeState) (seen : v ≡ s) (l : PlacesState) (is : l ≡ record { geo = s.geo; present = s.present; wanted = true }) (m : Medium) (span : Span) (r : Result (Unit {0}) VolumeFault) where
  sought : (which : BadLines) → Checks volume_says (poisoned_at (lowest_bad_in which (volume_place l.geo l.present l.wanted) m span)) r → Checks volume_says (poisoned_at (lowest_bad_in which (volume_place s.geo s.present true) m span)) r
  sought which lines = subst (λ (l : PlacesState). Checks volume_says (poisoned_at (lowest_bad_in which (volume_place l.geo l.present l.wanted) m span)) r) is lines

  within : span.start + span.len ≤ 4096 * v.geo.vpages → span.start + span.len ≤ 4096 * s.geo.vpages
  within = subst (λ (v : VolumeState). span.start + span.len ≤ 4096 * v.geo.vpages) seen

  extent : Checks {T = Unit {0}} {E = VolumeFault} volume_says (bytes_refusal v.geo span.start span.len) (Ok tt) → Checks {T = Unit {0}} {E = VolumeFault} volume_says (bytes_refusal s.geo span.start span.len) (Ok tt)
  extent = subst (λ (v : VolumeState). Checks {T = Unit {0}} {E = VolumeFault} volume_says (bytes_refusal v.geo span.start span.len) (Ok tt)) seen

  pub readable : 1 ≤ span.len → span.start + span.len ≤ 4096 * v.geo.vpages → Checks volume_says (poisoned_at (lowest_bad_in All (volume_place l.geo l.present l.wanted) m span)) r → OnOk r (IsReadable s m span)
  readable some fits lines =
      on_ok_weaker r (λ none. record { some = some; within = within fits; good = all_good (volume_place s.geo s.present true) m span some none }) (passed _ r (sought All lines))

  pub storable : 1 ≤ span.len → span.start + span.len ≤ 4096 * v.geo.vpages → (changes : Bool) → changes ≡ touches_absent span.start span.len s.present → (changes ≡ true → AreGood m (meta_lines v.geo))
      → Checks volume_says (poisoned_at (lowest_bad_in NotCovered (volume_place l.geo l.present l.wanted) m span)) r → OnOk r (IsStorable s m span)
  storable some fits changes touches good lines =
      on_ok_weaker r
      (λ none. record {
        some = some;
        within = within fits;
        covered = all_covered (volume_place s.geo s.present true) m span some none;
        good = λ absent. subst (λ (v : VolumeState). AreGood m (meta_lines v.geo)) seen (good (touches ∙ absent));
      })
      (passed _ r (sought NotCovered lines))

  pub reads_checked : Checks {T = Unit {0}} {E = VolumeFault} volume_says (bytes_refusal v.geo span.start span.len) (Ok tt) → Checks volume_says (poisoned_at (lowest_bad_in All (volume_place l.geo l.present l.wanted) m span)) r
      → (pages : List Page) → VolumeHolds s m pages → Checks volume_says (load_refusal s pages span.start span.len) r
  reads_checked bytes lines pages holds =
      checks_second (bytes_refusal s.geo span.start span.len) _ tt r (extent bytes) (subst (λ o. Checks volume_says (poisoned_at o) r) (finds_bad s m pages holds span) (sought All lines))

  pub stores_checked : Checks {T = Unit {0}} {E = VolumeFault} volume_says (bytes_refusal v.geo span.start span.len) (Ok tt) → (changes : Bool) → changes ≡ touches_absent span.start span.len s.present
      → Checks {T = Unit {0}} {E = VolumeFault} volume_says (metadata_refusal_if changes v.geo m) (Ok tt) → Checks volume_says (poisoned_at (lowest_bad_in NotCovered (volume_place l.geo l.present l.wanted) m span)) r
      → (pages : List Page) → VolumeHolds s m pages → Checks volume_says (store_refusal s m pages span.start span.len) r
  stores_checked bytes changes touches meta lines pages holds =
      checks_second (bytes_refusal s.geo span.start span.len) _ tt r (extent bytes)
      (checks_second (metadata_refusal_if (touches_absent span.start span.len s.present) s.geo m) _ tt r
      (subst (λ (b : Bool). Checks {T = Unit {0}} {E = VolumeFault} volume_says (metadata_refusal_if b s.geo m) (Ok tt)) touches
      (subst (λ (v : VolumeState). Checks {T = Unit {0}} {E = VolumeFault} volume_says (metadata_refusal_if changes v.geo m) (Ok tt)) seen meta))
      (subst (λ o. Checks volume_says (poisoned_at o) r) (finds_uncovered s m pages holds span) (sought NotCovered lines)))
