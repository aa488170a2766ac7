-- What calls on the volume promise, by how they ended: they were refused, or their work was stopped or done. Inside a call the
-- volume `v` is what is seen of it from outside, `s`.
use Rattle.std.proofs.Common.{◌≡◌, ℕ, true, false, None, Some, List, Option, Result, Ok, Err, refl, sym, ap, subst, ◌∙◌, arith}
use Rattle.std.specs.Result.{IsErrAnd}
use Rattle.std.proofs.lemmas.Bool.{false≢true}
use Rattle.line_device.specs.Device.{Device}
use Rattle.line_device.specs.Panel.{Runs}
use Rattle.line_device.specs.Panel.Outcome.{went}
use Rattle.line_device.proofs.PanelLemmas.{runs-refl, runs_within}
use Rattle.line_words.specs.declared.interruption.Interruption.{Interruption}
use Rattle.line_words.specs.declared.interruption.Interruption.TheVariants.{Failed, PowerLost}
use Rattle.line_words.specs.Told.{Answers, Checks, is_done, refusal_of, told_outcome}
use Rattle.line_words.specs.Told.Told.{Stops}
use Rattle.line_words.proofs.ToldLemmas.{checked_went, checks_answers, checks_passed}
use Rattle.nvm_model.specs.Interrupted.{MaySync}
use Rattle.nvm_model.specs.Page.{Page, persist}
use Rattle.page_lines.specs.Placed.{IsPlaced}
use Rattle.page_lines.specs.Turns.{WritesBackOthers}
use Rattle.page_lines.proofs.OthersLemmas.{others-refl}
use Rattle.word_log.proofs.AnswerLemmas.{is_fault}
use Rattle.pm_volume.specs.declared.fault.VolumeFault.{VolumeFault}
use Rattle.pm_volume.specs.Area.{IsOfVolume}
use Rattle.pm_volume.specs.Calls.{ChangesVolume, IsReady, SyncsVolume, Works, WorksOnLines}
use Rattle.pm_volume.specs.Costs.{lines_there}
use Rattle.pm_volume.specs.Object.{VolumeHolds, VolumeState, volume_place}
use Rattle.pm_volume.specs.Refusals.{VolumeRefusal, volume_says}
use Rattle.pm_volume.proofs.HoldsLemmas.{shown-hold, shown_pages}
use Rattle.pm_volume.proofs.MarkLemmas.{marks-refl}
use Rattle.pm_volume.proofs.ServesLemmas.{holds-same, serves-same}

not_stopped : (why : Option VolumeRefusal) (f : VolumeFault) → Checks {T = Unit {0}} volume_says why (Err f) → refusal_of (volume_says f) ≡ None → ⊥
not_stopped None f checks stops = checks
not_stopped (Some w) f checks stops = cc

undone : (stop : Interruption) (f : VolumeFault) → volume_says f ≡ Stops stop → false ≡ is_done (told_outcome (volume_says f))
undone Failed f is = sym (ap (λ told. is_done (told_outcome told)) is)
undone PowerLost f is = sym (ap (λ told. is_done (told_outcome told)) is)

-- a test refused the call
module _ {D : Type 0} (state : D → Device) (s : VolumeState) (d : D) (ready : IsReady s (state d)) (why : List Page → Option VolumeRefusal) (f : VolumeFault) (answer : Result (Unit {0}) VolumeFault) (is : IsErrAnd answer (λ g. g ≡ f))
    (checks : (pages : List Page) → VolumeHolds s (state d).medium pages → Checks {T = Unit {0}} volume_says (why pages) (Err f)) where
  found : Checks {T = Unit {0}} volume_says (why (shown_pages s (state d).medium)) (Err f)
  found = checks (shown_pages s (state d).medium) (shown-hold s (state d).medium)

  ends : told_outcome (volume_says f) ≡ went
  ends = checked_went {T = Unit {0}} volume_says (why (shown_pages s (state d).medium)) (Err f) found

  unspent : (calls persists : ℕ) → Runs calls persists (told_outcome (volume_says f)) (state d).panel (state d).panel
  unspent calls persists =
      subst (λ e. Runs calls persists e (state d).panel (state d).panel) (sym ends)
      (runs_within 0 0 calls persists went (state d).panel (state d).panel (runs-refl (state d).panel) (omega arith) (omega arith))

  pub changes-refused : (to : List Page → List Page) (may : List Page → List Page → Type 0) (calls persists : ℕ) → ChangesVolume state s s d d answer to may calls persists
  changes-refused to may calls persists =
      subst (λ (a : Result (Unit {0}) VolumeFault). ChangesVolume state s s d d a to may calls persists) (sym (is_fault answer f is)) (record {
        untouched = λ _. (refl, refl);
        ok = tt;
        images = λ stops. absurd (not_stopped _ f found stops);
        outside = others-refl (IsOfVolume s.geo) (state d).medium;
        metadata = marks-refl s.geo (state d).medium;
        serves = λ _. ready.serves;
        object = (refl, ready.settled ∙ sym (ap is_done ends));
        runs = unspent calls persists;
      })

  pub syncs-refused : (start : Option ℕ) (len : ℕ) → SyncsVolume state s s d d answer why start len
  syncs-refused start len =
      subst (λ (a : Result (Unit {0}) VolumeFault). SyncsVolume state s s d d a why start len) (sym (is_fault answer f is)) (record {
        refused = λ pages holds. checks_answers {T = Unit {0}} volume_says (why pages) (Err f) (checks pages holds);
        untouched = λ _. refl;
        ok = tt;
        images = λ stops. absurd (not_stopped _ f found stops);
        outside = others-refl (IsOfVolume s.geo) (state d).medium;
        beside = others-refl _ (state d).medium;
        metadata = marks-refl s.geo (state d).medium;
        serves = ready.serves;
        object = ap (λ b. record s { settled = b }) (ready.settled ∙ sym (ap is_done ends));
        runs = unspent _ _;
      })

-- work that changes pages was stopped, or is done
module _ {D : Type 0} (state : D → Device) (v s t : VolumeState) (seen : v ≡ s) (before after : D) (to : List Page → List Page) (may : List Page → List Page → Type 0) (calls persists : VolumeState → ℕ) where
  pub changes-stopped : (stop : Interruption) (answer : Result (Unit {0}) VolumeFault) → IsErrAnd answer (λ f. volume_says f ≡ Stops stop)
      → Works {T = Unit {0}} (record v { settled = false }) t (state before) (state after) (Err stop) to may (calls v) (persists v) → ChangesVolume state s t before after answer to may (calls s) (persists s)
  changes-stopped stop (Ok u) is x = absurd is
  changes-stopped stop (Err f) is x =
      subst (λ (s : VolumeState). ChangesVolume {T = Unit {0}} state s t before after (Err f) to may (calls s) (persists s)) seen (record {
        untouched = λ refused. absurd (refused (ap refusal_of is));
        ok = tt;
        images = λ _ pages holds. x.images pages (record { there = holds.there; stand = holds.stand });
        outside = x.outside;
        metadata = x.metadata;
        serves = λ settled. absurd (false≢true (sym x.object.1 ∙ settled));
        object = (x.object.0, x.object.1 ∙ undone stop f is);
        runs = subst (λ told. Runs (calls v) (persists v) (told_outcome told) (state before).panel (state after).panel) (sym is) x.runs;
      })

  pub changes-done : (u : Unit {0}) (w : VolumeState) → w ≡ t → Works (record v { settled = false }) t (state before) (state after) (Ok u) to may (calls v) (persists v)
      → ChangesVolume {T = Unit {0}} state s (record w { settled = true }) before after (Ok tt) to may (calls s) (persists s)
  changes-done u w made x =
      subst (λ (w : VolumeState). ChangesVolume {T = Unit {0}} state s (record w { settled = true }) before after (Ok tt) to may (calls s) (persists s)) (sym made)
      (subst (λ (s : VolumeState). ChangesVolume {T = Unit {0}} state s (record t { settled = true }) before after (Ok tt) to may (calls s) (persists s)) seen (record {
        untouched = tt;
        ok = λ pages holds. holds-same t _ (state after).medium (to pages) refl refl (x.ok pages (record { there = holds.there; stand = holds.stand }));
        images = λ pages holds. x.images pages (record { there = holds.there; stand = holds.stand });
        outside = x.outside;
        metadata = x.metadata;
        serves = λ _. serves-same t _ (state after).medium refl refl x.serves;
        object = (x.object.0, refl);
        runs = x.runs;
      }))

-- the lines of a span were being made durable
module _ {D : Type 0} (state : D → Device) (v s : VolumeState) (seen : v ≡ s) (before after : D) (why : List Page → Option VolumeRefusal) (start len : ℕ)
    (checked : (pages : List Page) → VolumeHolds s (state before).medium pages → Checks {T = Unit {0}} {E = VolumeFault} volume_says (why pages) (Ok tt))
    (beside : WritesBackOthers (IsPlaced (volume_place v.geo v.present true) start len) (state before).medium (state after).medium) where
  passed : (pages : List Page) → VolumeHolds v (state before).medium pages → why pages ≡ None
  passed pages holds = checks_passed {E = VolumeFault} volume_says (why pages) tt (checked pages (subst (λ (v : VolumeState). VolumeHolds v (state before).medium pages) seen holds))

  pub syncs-stopped : (stop : Interruption) (answer : Result (Unit {0}) VolumeFault) → IsErrAnd answer (λ f. volume_says f ≡ Stops stop)
      → WorksOnLines {T = Unit {0}} (record v { settled = false }) (state before) (state after) (Err stop) (persist start len) (MaySync start len) (lines_there v.geo v.present start len) (lines_there v.geo v.present start len)
      → SyncsVolume state s (record v { settled = false }) before after answer why (Some start) len
  syncs-stopped stop (Ok u) is x = absurd is
  syncs-stopped stop (Err f) is x =
      subst (λ (s : VolumeState). SyncsVolume {T = Unit {0}} state s (record v { settled = false }) before after (Err f) why (Some start) len) seen (record {
        refused = λ pages holds. subst (λ (w : Option VolumeRefusal). Answers {T = Unit {0}} volume_says w (Err f)) (sym (passed pages holds)) (ap refusal_of is);
        untouched = λ refused. absurd (refused (ap refusal_of is));
        ok = tt;
        images = λ _ pages holds. x.images pages (record { there = holds.there; stand = holds.stand });
        outside = x.outside;
        beside = beside;
        metadata = x.metadata;
        serves = x.serves;
        object = ap (λ b. record v { settled = b }) (undone stop f is);
        runs = subst (λ told. Runs (lines_there v.geo v.present start len) (lines_there v.geo v.present start len) (told_outcome told) (state before).panel (state after).panel) (sym is) x.runs;
      })

  pub syncs-done : (u : Unit {0})
      → WorksOnLines {T = Unit {0}} (record v { settled = false }) (state before) (state after) (Ok u) (persist start len) (MaySync start len) (lines_there v.geo v.present start len) (lines_there v.geo v.present start len)
      → SyncsVolume {T = Unit {0}} state s (record v { settled = true }) before after (Ok tt) why (Some start) len
  syncs-done u x =
      subst (λ (s : VolumeState). SyncsVolume {T = Unit {0}} state s (record v { settled = true }) before after (Ok tt) why (Some start) len) seen (record {
        refused = λ pages holds. subst (λ (w : Option VolumeRefusal). Answers {T = Unit {0}} {E = VolumeFault} volume_says w (Ok tt)) (sym (passed pages holds)) tt;
        untouched = tt;
        ok = λ pages holds. let kept = x.ok pages (record { there = holds.there; stand = holds.stand }) in record { there = kept.there; stand = kept.stand };
        images = λ pages holds. x.images pages (record { there = holds.there; stand = holds.stand });
        outside = x.outside;
        beside = beside;
        metadata = x.metadata;
        serves = serves-same (record v { settled = false }) _ (state after).medium refl refl x.serves;
        object = refl;
        runs = x.runs;
      })
