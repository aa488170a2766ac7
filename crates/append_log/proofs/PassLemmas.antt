-- What a fault of the volume tells, as it is handed on.
use Rattle.std.proofs.Common.{◌≡◌, true, Option, Some, None, Result, Ok, Err, IsErrAnd, refl, sym, ap, subst, ◌∙◌}
use Rattle.line_words.specs.Told.{Answers, Checks, OnRefused, OnWorked, Told, is_done, outcome_by, refusal_of, told_outcome}
use Rattle.line_words.specs.Told.Told.{Refuses, Starves, Stops}
use Rattle.pm_volume.specs.Refusals.{VolumeRefusal, volume_says}
use Rattle.pm_volume.specs.declared.fault.VolumeFault.{VolumeFault}
use Rattle.pm_volume.specs.declared.fault.VolumeFault.TheVariants as fault
use Rattle.std.proofs.lemmas.Option.{none-some}
use Rattle.append_log.specs.declared.fault.LogFault.{LogFault}
use Rattle.append_log.specs.declared.fault.LogFault.TheVariants.{Volume}
use Rattle.append_log.specs.Refusals.{LogRefusal, log_says, passed_on}
use Rattle.append_log.specs.Refusals.LogRefusal.{OfVolume}

-- a stop is no refusal, and a refusal no stop
stop-back : (told : Told VolumeRefusal) → refusal_of (passed_on told) ≡ None → refusal_of told ≡ None
stop-back (Refuses why) is = let no : Some (OfVolume why) ≡ None = is in cc
stop-back (Stops stop) is = refl
stop-back Starves is = refl

refused-back : (told : Told VolumeRefusal) → (refusal_of (passed_on told) ≡ None → ⊥) → refusal_of told ≡ None → ⊥
refused-back (Refuses why) not is = let no : Some why ≡ None = is in cc
refused-back (Stops stop) not is = not refl
refused-back Starves not is = not refl

same-outcome : (told : Told VolumeRefusal) → told_outcome (passed_on told) ≡ told_outcome told
same-outcome (Refuses why) = refl
same-outcome (Stops stop) = refl
same-outcome Starves = refl

-- what held of a call of the volume holds of the call of the log
pub worked-through : (S T P Q : Type 0) (f : VolumeFault) (r : Result T LogFault) → IsErrAnd r (λ g. g ≡ Volume f) → (P → Q) → OnWorked {T = S} volume_says (Err f) P → OnWorked log_says r Q
worked-through S T P Q f (Ok x) is next h = absurd is
worked-through S T P Q f (Err g) is next h = λ stops. next (h (stop-back (volume_says f) (ap (λ e. refusal_of (log_says e)) (sym is) ∙ stops)))

pub refused-passed : (S T P Q : Type 0) (f : VolumeFault) (r : Result T LogFault) → IsErrAnd r (λ g. g ≡ Volume f) → (P → Q) → OnRefused {T = S} volume_says (Err f) P → OnRefused log_says r Q
refused-passed S T P Q f (Ok x) is next h = absurd is
refused-passed S T P Q f (Err g) is next h =
    λ refused. next (h (refused-back (volume_says f) (λ none. refused (ap (λ e. refusal_of (log_says e)) is ∙ none))))

pub done-passed : (S T : Type 0) (f : VolumeFault) (r : Result T LogFault) → IsErrAnd r (λ g. g ≡ Volume f)
    → is_done (outcome_by {T = S} volume_says (Err f)) ≡ is_done (outcome_by log_says r)
done-passed S T f (Ok x) is = absurd is
done-passed S T f (Err g) is = sym (ap (λ e. is_done (outcome_by {T = T} log_says (Err e))) is ∙ ap is_done (same-outcome (volume_says f)))

-- a call that is not refused
pub never-stopped : (T P : Type 0) (r : Result T LogFault) → Answers log_says None r → OnRefused log_says r P
never-stopped T P (Ok x) h = tt
never-stopped T P (Err f) h = λ refused. absurd (refused h)

-- what a test that failed tells
pub tested-result : (S T : Type 0) (why : Option LogRefusal) (f : LogFault) (r : Result T LogFault) → IsErrAnd r (λ g. g ≡ f) → Checks {T = S} log_says why (Err f) → Checks log_says why r
tested-result S T why f (Ok x) is h = absurd is
tested-result S T why f (Err g) is h = subst (λ e. Checks {T = T} log_says why (Err e)) (sym is) (by_reason why h)
  where
    by_reason : (o : Option LogRefusal) → Checks {T = S} log_says o (Err f) → Checks {T = T} log_says o (Err f)
    by_reason None h = h
    by_reason (Some w) h = h

pub tested-unworked : (S T P : Type 0) (why : Option LogRefusal) (f : LogFault) (r : Result T LogFault) → IsErrAnd r (λ g. g ≡ f) → Checks {T = S} log_says why (Err f) → OnWorked log_says r P
tested-unworked S T P why f (Ok x) is h = absurd is
tested-unworked S T P why f (Err g) is h = λ stops. absurd (by_reason why h (ap (λ e. refusal_of (log_says e)) (sym is) ∙ stops))
  where
    by_reason : (o : Option LogRefusal) → Checks {T = S} log_says o (Err f) → refusal_of (log_says f) ≡ None → ⊥
    by_reason None h stops = h
    by_reason (Some w) h stops = none-some w (sym stops ∙ h)

-- a fault of the volume that is no refusal is no end
pub done-refused : (f : VolumeFault) → is_done (told_outcome (volume_says f)) ≡ true → refusal_of (volume_says f) ≡ None → ⊥
done-refused fault.Range done none = cc
done-refused fault.Length done none = cc
done-refused fault.Address done none = cc
done-refused (fault.Meta line) done none = cc
done-refused (fault.Poison offset) done none = cc
done-refused fault.Device done none = cc
done-refused fault.PowerLost done none = cc
