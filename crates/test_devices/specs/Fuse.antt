-- A device with a fuse before it.
use Rattle.std.specs.Prelude.{◌≡◌, ◌⊎◌, ◌+◌, ◌-◌, ◌||◌, ◌==◌, ℕ, Bool, min, Option, Some, None, Result, Err, IsTrue, if◌then◌else◌}
use Rattle.std.specs.Option.{is_some}
use Rattle.line_device.specs.Panel.{Panel}
use Rattle.line_device.specs.Device.{Device}
use Rattle.line_device.specs.declared.fault.DeviceFault.{DeviceFault}
use Rattle.line_device.specs.declared.fault.DeviceFault.TheVariants.{PowerLost}
use Rattle.test_devices.specs.declared.fuse.Fuse.{Fuse}

-- a count that so many more were added to
abbrev pub plus : ℕ → ℕ → ℕ
plus n more = min (n + more) 18446744073709551615

-- What is shown of a panel behind a fuse: what is left of the fuse is an armed cut, and its own cuts are no `power_off`
-- of the device behind it.
abbrev pub fused_panel : Option ℕ → ℕ → ℕ → Panel → Panel
fused_panel left burnt offs p =
    record p { cut_armed = is_some left || p.cut_armed; counts = record p.counts { cuts = plus p.counts.cuts burnt; calls = plus p.counts.calls burnt; offs = offs } }

abbrev pub fused : {D : Type 0} → (D → Device) → Fuse D → Device
fused state f = record { medium = (state f.inner).medium; panel = fused_panel f.left f.burnt f.offs (state f.inner).panel }

-- how many counted calls still pass, None once it burnt
abbrev pub passes_left : {D : Type 0} → Fuse D → Option ℕ
passes_left f = f.left

-- the same after a counted call
abbrev pub after_pass : Option ℕ → Option ℕ
after_pass None = None
after_pass (Some calls) = if calls == 0 then None else Some (calls - 1)

-- the device behind the fuse
abbrev pub behind : {D : Type 0} → Fuse D → D
behind f = f.inner

-- A counted call is cut where no call is left to pass, and else only by the device behind.
pub record Burns {T : Type 0} (left : Option ℕ) (armed_behind : Bool) (result : Result T DeviceFault) : Type 0 where
  pub at_end : left ≡ Some 0 → result ≡ Err PowerLost
  pub not_before : result ≡ Err PowerLost → (left ≡ Some 0) ⊎ IsTrue armed_behind

-- what a load leaves of the fuse, and of the device behind where the call passed
abbrev pub LoadPasses : {D : Type 0} → (D → D → Type 0) → Fuse D → Fuse D → Type 0
LoadPasses leaves old new = (passes_left new ≡ after_pass (passes_left old)) × ((passes_left old ≡ Some 0 → ⊥) → leaves (behind old) (behind new))
