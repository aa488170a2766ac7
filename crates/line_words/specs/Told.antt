-- What faults tell of a call. A crate says by `says : its fault → Told its refusal` what each of its faults tells; all else
-- follows from that.
use Rattle.std.specs.Prelude.{◌≡◌, ◌≢◌, Bool, true, false, Option, Some, None, Result, Ok, Err}
use Rattle.line_device.specs.Panel.{Outcome}
use Rattle.line_device.specs.Panel.Outcome.{went, failed, lost}
use Rattle.line_words.specs.declared.interruption.Interruption.{Interruption}
use Rattle.line_words.specs.Ending.{stop_outcome}

-- why a call was refused, what interrupted it, or that it wanted memory
pub data Told (R : Type 0) : Type 0 where
  Refuses : R → Told R
  Stops : Interruption → Told R
  Starves : Told R

-- the reason, where there is one
abbrev pub refusal_of : {R : Type 0} → Told R → Option R
refusal_of (Refuses why) = Some why
refusal_of (Stops stop) = None
refusal_of Starves = None

-- how the call ended, as far as the device goes: one that was refused or wanted memory went
abbrev pub told_outcome : {R : Type 0} → Told R → Outcome
told_outcome (Refuses why) = went
told_outcome (Stops stop) = stop_outcome stop
told_outcome Starves = went

-- the same of an answer
abbrev pub outcome_by : {T E R : Type 0} → (E → Told R) → Result T E → Outcome
outcome_by says (Ok x) = went
outcome_by says (Err fault) = told_outcome (says fault)

-- whether the device did all that it was asked
abbrev pub is_done : Outcome → Bool
is_done went = true
is_done failed = false
is_done lost = false

-- it was not refused: the device, the power or memory stopped it
abbrev pub IsStop : {E R : Type 0} → (E → Told R) → E → Type 0
IsStop says fault = refusal_of (says fault) ≡ None

-- of the reason this holds; a call that was not refused tells nothing
abbrev pub IfRefused : {R : Type 0} → Told R → (R → Type 0) → Type 0
IfRefused (Refuses why) P = P why
IfRefused (Stops stop) P = Unit {0}
IfRefused Starves P = Unit {0}

-- a call is refused for this reason and no other, and where there is none it isn't refused
abbrev pub Answers : {T E R : Type 0} → (E → Told R) → Option R → Result T E → Type 0
Answers says None (Ok x) = Unit {0}
Answers says None (Err fault) = IsStop says fault
Answers says (Some why) (Ok x) = ⊥
Answers says (Some why) (Err fault) = refusal_of (says fault) ≡ Some why

-- the same of a test, which nothing stops
abbrev pub Checks : {T E R : Type 0} → (E → Told R) → Option R → Result T E → Type 0
Checks says None (Ok x) = Unit {0}
Checks says None (Err fault) = ⊥
Checks says (Some why) (Ok x) = ⊥
Checks says (Some why) (Err fault) = refusal_of (says fault) ≡ Some why

-- a search that may be stopped first: this holds where it ended well, and that of the reason for which it was refused
abbrev pub Explains : {T E R : Type 0} → (E → Told R) → Type 0 → (R → Type 0) → Result T E → Type 0
Explains says well because (Ok x) = well
Explains says well because (Err fault) = IfRefused (says fault) because

-- a search for a reason, which may be stopped first: it tells this one, and ends well only where there is none
abbrev pub Finds : {T E R : Type 0} → (E → Told R) → Option R → Result T E → Type 0
Finds says found result = Explains says (found ≡ None) (λ why. found ≡ Some why) result

-- where the call was refused, this holds
abbrev pub OnRefused : {T E R : Type 0} → (E → Told R) → Result T E → Type 0 → Type 0
OnRefused says (Ok x) P = Unit {0}
OnRefused says (Err fault) P = refusal_of (says fault) ≢ None → P

-- where it was not refused, this holds, however it ended
abbrev pub OnWorked : {T E R : Type 0} → (E → Told R) → Result T E → Type 0 → Type 0
OnWorked says (Ok x) P = P
OnWorked says (Err fault) P = IsStop says fault → P
