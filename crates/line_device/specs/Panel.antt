-- What a device shows beside its lines: the power, what is armed, its counts, and what it tells of orders and restarts.
use Rattle.std.specs.Prelude.{◌≡◌, ◌⊎◌, ◌+◌, ◌≤◌, ℕ, Bool, true, false, List, [], ◌∷◌, ◌++◌, Option, Some, option_map, Result, Ok, Err, IsTrue}
use Rattle.std.specs.Borrow.{GName}
use Rattle.nvm_base.specs.Counts.{raised, Rose}
use Rattle.nvm_base.specs.declared.units.Span.{Span}
use Rattle.line_device.specs.declared.counts.Counts.{Counts}
use Rattle.line_device.specs.declared.line.Choice.{Choice}
use Rattle.line_device.specs.declared.order.Order.{Order}
use Rattle.line_device.specs.declared.order.Order.TheVariants.{Cut, Fail, Evict}
use Rattle.line_device.specs.declared.fault.DeviceFault.{DeviceFault}
use Rattle.line_device.specs.declared.fault.DeviceFault.TheVariants.{Poisoned, Failed, PowerLost}

-- the counts of a new device
abbrev pub zero_counts : Counts
zero_counts = record { faults = 0; cuts = 0; offs = 0; arms = 0; evicts = 0; persists = 0; restarts = 0; calls = 0; setups = 0; disarms = 0 }

-- what a restart left: which lines are bad or weak, and the one value of each word
pub record Image : Type 0 where
  pub count : ℕ
  pub is_bad : ℕ → Bool
  pub is_weak : ℕ → Bool
  pub unit : ℕ
  pub word : ℕ → ℕ

-- a restart: what was asked for, and what it left
pub record Start : Type 0 where
  pub choice : Choice
  pub image : Image

-- a borrowed device, of which these ranges are shown as so many lines
pub record Loan : Type 0 where
  pub name : GName
  pub ranges : List Span
  pub count : ℕ

-- `starts` and `last_order` are None on a device that doesn't tell them; `loans` are those behind it, the nearest first
pub record Panel : Type 0 where
  pub power : Bool
  pub cut_armed : Bool
  pub fail_armed : Bool
  pub counts : Counts
  pub starts : Option (List Start)
  pub last_order : Option (Option Order)
  pub unit : ℕ
  pub loans : List Loan

-- the starts told so far, and then these
abbrev pub told : Option (List Start) → List Start → Option (List Start)
told before [] = before
told before (start ∷ starts) = told (option_map (λ all. all ++ start ∷ []) before) starts

-- how a call ended, as far as the device goes: it answered, Poisoned or not; it failed; the power went
pub data Outcome : Type 0 where
  went : Outcome
  failed : Outcome
  lost : Outcome

abbrev pub fault_outcome : DeviceFault → Outcome
fault_outcome (Poisoned line) = went
fault_outcome Failed = failed
fault_outcome PowerLost = lost

abbrev pub outcome : {T : Type 0} → Result T DeviceFault → Outcome
outcome (Ok x) = went
outcome (Err fault) = fault_outcome fault

-- A failure comes only where one was armed and `faults` rose, a loss of power only where a cut was armed and `cuts` rose.
-- Power goes, `cuts` rises and what is armed ends in no other way.
abbrev pub HasCause : Outcome → Panel → Panel → Type 0
HasCause went old new =
    (new.power ≡ old.power) × (new.counts.cuts ≡ old.counts.cuts) × (new.cut_armed ≡ old.cut_armed) × (new.fail_armed ≡ old.fail_armed)
HasCause failed old new =
    (new.power ≡ old.power) × (new.counts.cuts ≡ old.counts.cuts) × IsTrue old.fail_armed × Rose old.counts.faults new.counts.faults
HasCause lost old new = (new.power ≡ false) × IsTrue old.cut_armed × Rose old.counts.cuts new.counts.cuts

-- what only orders and restarts change stays
pub record SameOrders (old new : Panel) : Type 0 where
  pub offs : new.counts.offs ≡ old.counts.offs
  pub arms : new.counts.arms ≡ old.counts.arms
  pub evicts : new.counts.evicts ≡ old.counts.evicts
  pub restarts : new.counts.restarts ≡ old.counts.restarts
  pub disarms : new.counts.disarms ≡ old.counts.disarms
  pub starts : new.starts ≡ old.starts
  pub last_order : new.last_order ≡ old.last_order
  pub unit : new.unit ≡ old.unit
  pub loans : new.loans ≡ old.loans

-- No call arms by itself.
pub record ArmsNothing (old new : Panel) : Type 0 where
  pub cut : IsTrue new.cut_armed → IsTrue old.cut_armed
  pub fail : IsTrue new.fail_armed → IsTrue old.fail_armed

-- Work on lines: how it ended and why, that it armed nothing, and how many counted calls and persists it made at most.
pub record Runs (at_most persists_at_most : ℕ) (end : Outcome) (old new : Panel) : Type 0 where
  pub cause : HasCause end old new
  pub armed : ArmsNothing old new
  pub faults : old.counts.faults ≤ new.counts.faults
  pub cuts : old.counts.cuts ≤ new.counts.cuts
  pub calls : old.counts.calls ≤ new.counts.calls
  pub few_calls : new.counts.calls ≤ old.counts.calls + at_most
  pub persists : old.counts.persists ≤ new.counts.persists
  pub few_persists : new.counts.persists ≤ old.counts.persists + persists_at_most
  pub setups : new.counts.setups ≡ old.counts.setups
  pub orders : SameOrders old new

-- Setting up needs no arming to fail, but both `setups` and the fault's own count rise then.
abbrev pub HasSetupCause : Outcome → Panel → Panel → Type 0
HasSetupCause went old new = (new.counts.cuts ≡ old.counts.cuts) × (new.counts.setups ≡ old.counts.setups)
HasSetupCause failed old new =
    (new.counts.cuts ≡ old.counts.cuts) × Rose old.counts.faults new.counts.faults × Rose old.counts.setups new.counts.setups
HasSetupCause lost old new =
    (new.power ≡ false) × Rose old.counts.cuts new.counts.cuts × Rose old.counts.setups new.counts.setups

-- Setting up: how it ended and why, and that it counts nothing else.
pub record SetsUp (end : Outcome) (old new : Panel) : Type 0 where
  pub cause : HasSetupCause end old new
  pub armed : ArmsNothing old new
  pub faults : old.counts.faults ≤ new.counts.faults
  pub cuts : old.counts.cuts ≤ new.counts.cuts
  pub setups : old.counts.setups ≤ new.counts.setups
  pub calls : new.counts.calls ≡ old.counts.calls
  pub persists : new.counts.persists ≡ old.counts.persists
  pub orders : SameOrders old new

-- the power is as it was, where it was not lost
abbrev pub KeepsPower : Outcome → Panel → Panel → Type 0
KeepsPower went old new = new.power ≡ old.power
KeepsPower failed old new = new.power ≡ old.power
KeepsPower lost old new = Unit {0}

-- a device that tells its last order tells this one
abbrev pub ordered : Option (Option Order) → Order → Option (Option Order)
ordered before order = option_map (λ _. Some order) before

-- survival units: a cut keeps or loses a word whole, or each of its bytes independently
abbrev pub IsUnit : ℕ → Type 0
IsUnit unit = (unit ≡ 8) ⊎ (unit ≡ 1)

-- the panel of a device that was made one of another unit
abbrev pub with_unit : Panel → ℕ → Panel
with_unit p unit = record p { unit = unit }

-- the panel after each order
abbrev pub after_arm_cut : Panel → ℕ → Panel
after_arm_cut p calls =
    record p { cut_armed = true; counts = record p.counts { arms = raised p.counts.arms }; last_order = ordered p.last_order (Cut calls) }

abbrev pub after_arm_fail : Panel → ℕ → Panel
after_arm_fail p calls =
    record p { fail_armed = true; counts = record p.counts { arms = raised p.counts.arms }; last_order = ordered p.last_order (Fail calls) }

abbrev pub after_evict : Panel → ℕ → Panel
after_evict p lines = record p { counts = record p.counts { evicts = raised p.counts.evicts }; last_order = ordered p.last_order (Evict lines) }

abbrev pub after_disarm : Panel → Panel
after_disarm p = record p { cut_armed = false; fail_armed = false; counts = record p.counts { disarms = raised p.counts.disarms } }

abbrev pub after_power_off : Panel → Panel
after_power_off p =
    record p { power = false; cut_armed = false; fail_armed = false; counts = record p.counts { offs = raised p.counts.offs } }

-- after a restart that told this start
abbrev pub after_restart : Panel → Start → Panel
after_restart p start =
    record p { power = true; counts = record p.counts { restarts = raised p.counts.restarts }; starts = told p.starts (start ∷ []) }

-- After a restart that was refused the power is off, what was armed may be gone, and it may have been counted.
pub record RestartRefused (old new : Panel) : Type 0 where
  pub power : new.power ≡ old.power
  pub armed : ArmsNothing old new
  pub restarts : old.counts.restarts ≤ new.counts.restarts
  pub once : new.counts.restarts ≤ old.counts.restarts + 1
  pub counts : new.counts ≡ record old.counts { restarts = new.counts.restarts }
  pub starts : new.starts ≡ old.starts
  pub last_order : new.last_order ≡ old.last_order
  pub unit : new.unit ≡ old.unit
  pub loans : new.loans ≡ old.loans
