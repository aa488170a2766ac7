-- Runs in which nothing is armed: the power goes by `cut` alone, and no call fails.
use Rattle.std.specs.Prelude.{◌≡◌, ◌≢◌, Bool, true, false, IsTrue, List, [], ◌∷◌}
use Rattle.script_text.specs.Action.{Action}
use Rattle.script_text.specs.Action.Action.{CutIn, FailIn}
use Rattle.script_text.specs.Script.{Input}
use Rattle.script_text.specs.Script.Input.{Skipped, Malformed, Overlong, Asked}
use Rattle.machine_model.specs.declared.mode.Mode.TheVariants.{Unsettled}
use Rattle.machine_model.specs.Machine.{Machine}

-- a command that arms neither a cut nor a failure
abbrev pub arms_nothing : Action → Bool
arms_nothing (CutIn calls) = false
arms_nothing (FailIn calls) = false
arms_nothing _ = true

-- no line arms one
abbrev pub ArmNothing : List Input → Type 0
ArmNothing [] = Unit {0}
ArmNothing (Skipped ∷ inputs) = ArmNothing inputs
ArmNothing (Malformed ∷ inputs) = ArmNothing inputs
ArmNothing (Overlong ∷ inputs) = ArmNothing inputs
ArmNothing (Asked action ∷ inputs) = IsTrue (arms_nothing action) × ArmNothing inputs

-- Nothing is armed, and no failed call waits for a recovery.
pub record IsUnarmed (h : Machine) : Type 0 where
  pub cut : h.cut_armed ≡ false
  pub failure : h.fail_armed ≡ false
  pub settled : h.mode ≢ Unsettled
