-- A device's power, what is armed, and its counts.
use Rattle.std.specs.Prelude.{ℕ, true, false, [], None, Option, Result, Ok, Err, if◌then◌else◌}
use Rattle.std.specs.Option.{is_some}
use Rattle.nvm_base.specs.Counts.{raised}
use Rattle.line_device.specs.Panel.{Panel, Outcome}
use Rattle.line_device.specs.Panel.Outcome.{went, failed, lost}
use Rattle.line_device.specs.Arming.{is_due, counted_down, next_end, fail_after}
use Rattle.line_device.specs.declared.counts.Counts.{Counts}
use Rattle.line_device.specs.declared.fault.DeviceFault.{DeviceFault}
use Rattle.line_device.specs.declared.fault.DeviceFault.TheVariants.{Failed, PowerLost}
use Rattle.line_device.specs.declared.switches.Switches.{Switches}

-- the panel of a device of its own, which tells no starts and no orders
abbrev pub panel_of : Switches → Panel
panel_of s = record {
  power = s.power;
  cut_armed = is_some s.cut;
  fail_armed = is_some s.fail;
  counts = s.counts;
  starts = None;
  last_order = None;
  unit = s.unit;
  loans = [];
}

-- the counted calls left until the armed cut, and until the armed failure
abbrev pub cut_left : Switches → Option ℕ
cut_left s = s.cut

abbrev pub fail_left : Switches → Option ℕ
fail_left s = s.fail

-- how the next counted call ends
abbrev pub end_of : Switches → Outcome
end_of s = next_end s.cut s.fail

-- whether the next counted call is done, or why not
abbrev pub call_answer : Switches → Result (Unit {0}) DeviceFault
call_answer s = if is_due s.cut then Err PowerLost else (if is_due s.fail then Err Failed else Ok tt)

-- the counts after a counted call that ended so
abbrev pub counts_after : Outcome → Counts → Counts
counts_after went c = record c { calls = raised c.calls }
counts_after failed c = record c { calls = raised c.calls; faults = raised c.faults }
counts_after lost c = record c { calls = raised c.calls; cuts = raised c.cuts }

-- after a counted call
abbrev pub after_call : Switches → Switches
after_call s = record {
  power = if is_due s.cut then false else s.power;
  cut = counted_down s.cut;
  fail = fail_after s.cut s.fail;
  counts = counts_after (end_of s) s.counts;
  unit = s.unit;
}

-- after what only counts a persist, or an order to write back
abbrev pub switches_after_persist : Switches → Switches
switches_after_persist s = record s { counts = record s.counts { persists = raised s.counts.persists } }

abbrev pub switches_after_evict : Switches → Switches
switches_after_evict s = record s { counts = record s.counts { evicts = raised s.counts.evicts } }

-- with the power on, and this unit
abbrev pub powered : ℕ → Switches → Switches
powered unit s = record s { power = true; unit = unit }

-- after a restart
abbrev pub switches_after_restart : Switches → Switches
switches_after_restart s = record s { power = true; counts = record s.counts { restarts = raised s.counts.restarts } }
