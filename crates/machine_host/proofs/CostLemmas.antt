-- What mounts do to a device's counts.
use Rattle.std.proofs.Common.{refl, arith}
use Rattle.line_device.specs.Panel.{Panel, Runs, Outcome}
use Rattle.line_device.proofs.PanelLemmas.{arms_nothing-refl, same_orders-any_unit}
use Rattle.machine_model.specs.Costs.{Opens, mount_calls, mount_persists}

-- what was not done opens nothing
pub opens-none : (p : Panel) → Opens p p
opens-none p = record {
  faults = omega arith;
  cuts = omega arith;
  calls = omega arith;
  persists = omega arith;
  setups = omega arith;
  armed = arms_nothing-refl p;
  orders = record { offs = refl; arms = refl; evicts = refl; restarts = refl; disarms = refl; starts = refl; last_order = refl; unit = refl; loans = refl };
}

pub opens-runs : (end : Outcome) (p q : Panel) → Runs mount_calls mount_persists end p q → Opens p q
opens-runs end p q runs = record {
  faults = runs.faults;
  cuts = runs.cuts;
  calls = runs.few_calls;
  persists = runs.few_persists;
  setups = omega (arith, runs.setups);
  armed = runs.armed;
  orders = same_orders-any_unit p q runs.orders;
}
