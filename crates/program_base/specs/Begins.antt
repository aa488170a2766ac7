-- How a run begins.
use Rattle.std.specs.Prelude.{◌≡◌, IsTrue}
use Rattle.line_device.specs.Panel.{Panel}
use Rattle.machine_host.specs.Machine.{Machine}

-- The machine as a run begins: what is read in the image; and what is armed then was armed before the call.
pub record Begins (first : Machine) (p : Panel) (h : Machine) : Type 0 where
  pub state : h ≡ record first { cut_armed = h.cut_armed; fail_armed = h.fail_armed }
  pub cut : IsTrue h.cut_armed → IsTrue p.cut_armed
  pub fail : IsTrue h.fail_armed → IsTrue p.fail_armed
