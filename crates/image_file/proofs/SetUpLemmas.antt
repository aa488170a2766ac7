-- Setting up, one piece after another.
use Rattle.std.proofs.Common.{◌≡◌, refl, sym, ◌∙◌, subst, arith}
use Rattle.line_device.specs.Panel.{Panel, Outcome, HasSetupCause, SetsUp, KeepsPower, with_unit}
use Rattle.line_device.specs.Panel.Outcome.{went, failed, lost}
use Rattle.line_device.proofs.PanelLemmas.{arms_nothing-refl, arms_nothing-trans, rose_later, same_orders-refl, same_orders-trans}

-- nothing is set up
pub sets_up-refl : (p : Panel) → SetsUp went p p
sets_up-refl p = record {
  cause = (refl, refl);
  armed = arms_nothing-refl p;
  faults = omega arith;
  cuts = omega arith;
  setups = omega arith;
  calls = refl;
  persists = refl;
  orders = same_orders-refl p;
}

-- what came before only adds to the cause
cause_after : (end : Outcome) (p q r : Panel) → SetsUp went p q → HasSetupCause end q r → HasSetupCause end p r
cause_after went p q r before cause = (cause.0 ∙ before.cause.0, cause.1 ∙ before.cause.1)
cause_after failed p q r before cause =
    (cause.0 ∙ before.cause.0, rose_later p.counts.faults q.counts.faults r.counts.faults before.faults cause.1, rose_later p.counts.setups q.counts.setups r.counts.setups before.setups cause.2)
cause_after lost p q r before cause =
    (cause.0, rose_later p.counts.cuts q.counts.cuts r.counts.cuts before.cuts cause.1, rose_later p.counts.setups q.counts.setups r.counts.setups before.setups cause.2)

-- The second piece ends the whole.
pub sets_up_then : (end : Outcome) (p q r : Panel) → SetsUp went p q → SetsUp end q r → SetsUp end p r
sets_up_then end p q r x y = record {
  cause = cause_after end p q r x y.cause;
  armed = arms_nothing-trans p q r x.armed y.armed;
  faults = omega arith;
  cuts = omega arith;
  setups = omega arith;
  calls = y.calls ∙ x.calls;
  persists = y.persists ∙ x.persists;
  orders = same_orders-trans p q r x.orders y.orders;
}

-- The first piece may have set another unit.
pub set_up_then : (end : Outcome) (p q r : Panel) → SetsUp went (with_unit p q.unit) q → SetsUp end q r → SetsUp end (with_unit p r.unit) r
set_up_then end p q r x y = subst (λ u. SetsUp end (with_unit p u) r) (sym y.orders.unit) (sets_up_then end (with_unit p q.unit) q r x y)

pub keeps_power_then : (end : Outcome) (p q r : Panel) → q.power ≡ p.power → KeepsPower end q r → KeepsPower end p r
keeps_power_then went p q r before after = after ∙ before
keeps_power_then failed p q r before after = after ∙ before
keeps_power_then lost p q r before after = tt
