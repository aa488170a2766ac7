-- A device whose calls fail by a list of their numbers.
use Rattle.std.specs.Prelude.{◌≡◌, ◌+◌, ◌||◌, ℕ, Bool, false, IsTrue}
use Rattle.nvm_base.specs.Counts.{raised}
use Rattle.line_device.specs.Panel.{Panel}
use Rattle.line_device.specs.Device.{Device}
use Rattle.line_device.specs.declared.counts.Counts.{Counts}
use Rattle.test_devices.specs.Fuse.{plus}
use Rattle.test_devices.specs.Schedule.{Schedule, fails_next, is_to_come, schedule_after}
use Rattle.test_devices.specs.declared.faulty.Faulty.{Faulty}

-- What is shown of a panel behind such a list: a failure that is to come is armed, and so many counted calls, persists among
-- them, and calls that set up have failed by the list.
abbrev pub faulty_panel : Bool → ℕ → ℕ → ℕ → Panel → Panel
faulty_panel armed calls persists setups p = record p {
  fail_armed = armed || p.fail_armed;
  counts = record p.counts {
    faults = plus p.counts.faults (calls + setups);
    calls = plus p.counts.calls calls;
    persists = plus p.counts.persists persists;
    setups = plus p.counts.setups setups;
  };
}

-- the counts after a counted call that failed, after such a persist, and after a call that set up and failed
abbrev pub call_failed : Counts → Counts
call_failed c = record c { faults = raised c.faults; calls = raised c.calls }

abbrev pub persist_failed : Counts → Counts
persist_failed c = record c { faults = raised c.faults; calls = raised c.calls; persists = raised c.persists }

abbrev pub setup_failed : Counts → Counts
setup_failed c = record c { faults = raised c.faults; setups = raised c.setups }

abbrev pub faulty : {D : Type 0} → (D → Device) → Faulty D → Device
faulty state f = record { medium = (state f.inner).medium; panel = faulty_panel (is_to_come f.failures) f.calls f.persists f.setups (state f.inner).panel }

-- the numbers that fail, and how many calls were numbered so far
abbrev pub schedule : {D : Type 0} → Faulty D → Schedule
schedule f = f.failures

-- the device that the calls reach
abbrev pub reached : {D : Type 0} → Faulty D → D
reached f = f.inner

-- A numbered call: one that is listed ends in `failed` and does not reach the device behind, each other one is that device's
-- and leaves `passed` of it.
pub record Numbered {D : Type 0} (old new : Faulty D) (failed passed : Type 0) : Type 0 where
  pub listed : IsTrue (fails_next (schedule old)) → failed × (reached new ≡ reached old)
  pub others : fails_next (schedule old) ≡ false → passed
  pub schedule : schedule new ≡ schedule_after (schedule old)

-- a load that is listed fails, and each other one only by what is armed behind
pub record LoadFails {T : Type 0} (listed armed_behind : Bool) (failed result : T) : Type 0 where
  pub at_its_number : IsTrue listed → result ≡ failed
  pub else_behind : result ≡ failed → listed ≡ false → IsTrue armed_behind

-- what a load leaves of the list and of the device behind
abbrev pub LoadNumbered : {D : Type 0} → (D → Device) → (D → D → Type 0) → Faulty D → Faulty D → Type 0
LoadNumbered state leaves old new =
    Numbered old new ((faulty state new).panel.counts ≡ call_failed (faulty state old).panel.counts) (leaves (reached old) (reached new))
