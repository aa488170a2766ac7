-- Work on lines, one piece after another.
use Rattle.std.proofs.Common.{ℕ, ◌+◌, ◌≤◌, refl, ◌∙◌, arith}
use Rattle.nvm_base.specs.Counts.{Rose}
use Rattle.line_device.specs.Panel.{Panel, Outcome, HasCause, SameOrders, ArmsNothing, Runs, with_unit}
use Rattle.line_device.specs.Panel.Outcome.{went, failed, lost}

pub same_orders-refl : (p : Panel) → SameOrders p p
same_orders-refl p = record { offs = refl; arms = refl; evicts = refl; restarts = refl; disarms = refl; starts = refl; last_order = refl; unit = refl; loans = refl }

pub same_orders-trans : (p q r : Panel) → SameOrders p q → SameOrders q r → SameOrders p r
same_orders-trans p q r a b = record {
  offs = b.offs ∙ a.offs;
  arms = b.arms ∙ a.arms;
  evicts = b.evicts ∙ a.evicts;
  restarts = b.restarts ∙ a.restarts;
  disarms = b.disarms ∙ a.disarms;
  starts = b.starts ∙ a.starts;
  last_order = b.last_order ∙ a.last_order;
  unit = b.unit ∙ a.unit;
  loans = b.loans ∙ a.loans;
}

-- what only orders and restarts change stays, whatever the unit was
pub same_orders-any_unit : (p q : Panel) → SameOrders p q → SameOrders (with_unit p q.unit) q
same_orders-any_unit p q a = record {
  offs = a.offs;
  arms = a.arms;
  evicts = a.evicts;
  restarts = a.restarts;
  disarms = a.disarms;
  starts = a.starts;
  last_order = a.last_order;
  unit = refl;
  loans = a.loans;
}

pub same_orders-then : (p q r : Panel) → SameOrders (with_unit p q.unit) q → SameOrders q r → SameOrders (with_unit p r.unit) r
same_orders-then p q r a b = same_orders-any_unit (with_unit p q.unit) r (same_orders-trans (with_unit p q.unit) q r a b)

pub arms_nothing-refl : (p : Panel) → ArmsNothing p p
arms_nothing-refl p = record { cut = λ h. h; fail = λ h. h }

pub arms_nothing-trans : (p q r : Panel) → ArmsNothing p q → ArmsNothing q r → ArmsNothing p r
arms_nothing-trans p q r a b = record { cut = λ h. a.cut (b.cut h); fail = λ h. a.fail (b.fail h) }

pub rose_later : (a b c : ℕ) → a ≤ b → Rose b c → Rose a c
rose_later a b c later rose = omega arith

-- what came before only adds to the cause
pub has_cause-after : (a b : ℕ) (e : Outcome) (p q r : Panel) → Runs a b went p q → HasCause e q r → HasCause e p r
has_cause-after a b went p q r before cause =
    (cause.0 ∙ before.cause.0, cause.1 ∙ before.cause.1, cause.2 ∙ before.cause.2, cause.3 ∙ before.cause.3)
has_cause-after a b failed p q r before cause =
    (cause.0 ∙ before.cause.0, cause.1 ∙ before.cause.1, before.armed.fail cause.2, rose_later p.counts.faults q.counts.faults r.counts.faults before.faults cause.3)
has_cause-after a b lost p q r before cause =
    (cause.0, before.armed.cut cause.1, rose_later p.counts.cuts q.counts.cuts r.counts.cuts before.cuts cause.2)

-- no work
pub runs-refl : (p : Panel) → Runs 0 0 went p p
runs-refl p = record {
  cause = (refl, refl, refl, refl);
  armed = arms_nothing-refl p;
  faults = omega arith;
  cuts = omega arith;
  calls = omega arith;
  few_calls = omega arith;
  persists = omega arith;
  few_persists = omega arith;
  setups = refl;
  orders = same_orders-refl p;
}

-- Work after work that went well. The second piece ends the whole.
pub runs_then : (a b c d : ℕ) (e : Outcome) (p q r : Panel) → Runs a b went p q → Runs c d e q r → Runs (a + c) (b + d) e p r
runs_then a b c d e p q r x y = record {
  cause = has_cause-after a b e p q r x y.cause;
  armed = arms_nothing-trans p q r x.armed y.armed;
  faults = omega arith;
  cuts = omega arith;
  calls = omega arith;
  few_calls = omega arith;
  persists = omega arith;
  few_persists = omega arith;
  setups = y.setups ∙ x.setups;
  orders = same_orders-trans p q r x.orders y.orders;
}

-- a looser bound
pub runs_within : (a b c d : ℕ) (e : Outcome) (p q : Panel) → Runs a b e p q → a ≤ c → b ≤ d → Runs c d e p q
runs_within a b c d e p q x fewer fewer_persists = record {
  cause = x.cause;
  armed = x.armed;
  faults = x.faults;
  cuts = x.cuts;
  calls = x.calls;
  few_calls = omega arith;
  persists = x.persists;
  few_persists = omega arith;
  setups = x.setups;
  orders = x.orders;
}
