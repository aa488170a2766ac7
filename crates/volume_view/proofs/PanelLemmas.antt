-- What is counted and armed is the device's own.
use Rattle.std.proofs.Common.{◌≡◌, ℕ, List, [], ◌∷◌, ap}
use Rattle.std.specs.Borrow.{GName}
use Rattle.nvm_base.specs.declared.units.Span.{Span}
use Rattle.line_device.specs.Panel.{Panel, Outcome, Loan, HasCause, Runs}
use Rattle.line_device.specs.Panel.Outcome.{went, failed, lost}
use Rattle.line_device.specs.Device.{Device}
use Rattle.volume_view.specs.View.{lent, view}

later : List Loan → List Loan
later [] = []
later (loan ∷ loans) = loans

nearest : Loan → List Loan → Loan
nearest other [] = other
nearest other (loan ∷ loans) = loan

-- a view that tells of the same loans shows the same lines of the same borrow
pub same_loan : (name other : GName) (ranges others : List Span) (old new : Device) → (view other others new).panel.loans ≡ (view name ranges old).panel.loans → (other ≡ name) × (others ≡ ranges) × (new.medium.count ≡ old.medium.count)
unfolding nearest
same_loan name other ranges others old new same =
    let loan : Loan = record { name = name; ranges = ranges; count = old.medium.count } in
    (ap (λ loans. (nearest loan loans).name) same, ap (λ loans. (nearest loan loans).ranges) same, ap (λ loans. (nearest loan loans).count) same)

pub same_loans : (name other : GName) (ranges others : List Span) (old new : Device) → (view other others new).panel.loans ≡ (view name ranges old).panel.loans → new.panel.loans ≡ old.panel.loans
unfolding later
same_loans name other ranges others old new same = ap later same

has_cause-behind : (end : Outcome) (name other : GName) (ranges others : List Span) (count more : ℕ) (old new : Panel) → HasCause end (lent name ranges count old) (lent other others more new) → HasCause end old new
has_cause-behind went name other ranges others count more old new cause = cause
has_cause-behind failed name other ranges others count more old new cause = cause
has_cause-behind lost name other ranges others count more old new cause = cause

-- what a view counts, the device counts
pub runs_behind : (a b : ℕ) (end : Outcome) (name other : GName) (ranges others : List Span) (old new : Device) → Runs a b end (view name ranges old).panel (view other others new).panel → Runs a b end old.panel new.panel
runs_behind a b end name other ranges others old new x = record {
  cause = has_cause-behind end name other ranges others old.medium.count new.medium.count old.panel new.panel x.cause;
  armed = record { cut = x.armed.cut; fail = x.armed.fail };
  faults = x.faults;
  cuts = x.cuts;
  calls = x.calls;
  few_calls = x.few_calls;
  persists = x.persists;
  few_persists = x.few_persists;
  setups = x.setups;
  orders = record {
    offs = x.orders.offs;
    arms = x.orders.arms;
    evicts = x.orders.evicts;
    restarts = x.orders.restarts;
    disarms = x.orders.disarms;
    starts = x.orders.starts;
    last_order = x.orders.last_order;
    unit = x.orders.unit;
    loans = same_loans name other ranges others old new x.orders.loans;
  };
}
