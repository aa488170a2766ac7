-- A device that tells its starts and its last order.
use Rattle.std.specs.Prelude.{Some, map}
use Rattle.line_device.specs.Panel.{Panel}
use Rattle.line_device.specs.Device.{Device}
use Rattle.test_devices.specs.Starts.{told_start}
use Rattle.test_devices.specs.declared.recorder.Recorder.{Recorder}

abbrev pub recorded_panel : {D : Type 0} → (D → Device) → Recorder D → Panel
recorded_panel state r = record (state r.inner).panel { starts = Some (map told_start r.starts.items); last_order = Some r.last }

abbrev pub recorded : {D : Type 0} → (D → Device) → Recorder D → Device
recorded state r = record { medium = (state r.inner).medium; panel = recorded_panel state r }

-- the device behind the record
abbrev pub recorded_device : {D : Type 0} → Recorder D → D
recorded_device r = r.inner
