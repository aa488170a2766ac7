-- Why a question was not answered, told from an earlier state of the device on.
use Rattle.std.proofs.Common.{◌≡◌, ◌≤◌, ℕ, List, None, inl, inr, refl, sym, subst, ◌∙◌, arith}
use Rattle.nvm_base.specs.Counts.{Rose}
use Rattle.host_io.specs.declared.sink.WriteFault.{WriteFault}
use Rattle.host_io.specs.declared.sink.WriteFault.TheVariants as write
use Rattle.image_file.specs.Devices.{medium_of}
use Rattle.image_file.specs.Text.{Snapshot}
use Rattle.line_device.specs.Panel.{Panel, after_disarm}
use Rattle.outcome_lists.specs.MachineModel.Costs.{Opens}
use Rattle.recovery.specs.Findings.{first_finding}
use Rattle.outcome_lists.specs.Explorer.Stopping.{DeviceStopped, NoneFell}
use Rattle.outcome_lists.specs.Explorer.declared.fault.ExploreFault.{ExploreFault}
use Rattle.outcome_lists.specs.Explorer.declared.fault.ExploreFault.TheVariants as explore
use Rattle.program_base.specs.Opening.{DeviceFailed, StaysUnmounted}
use Rattle.program_base.specs.declared.ending.Ending.{Ending}
use Rattle.program_base.specs.declared.ending.Ending.TheVariants as endings
use Rattle.explore_program.specs.Calls.{IsUnanswered}
use Rattle.explore_program.specs.Stops.{of_explore, of_write}
use Rattle.explore_program.specs.declared.stop.Stop.{Stop}
use Rattle.explore_program.specs.declared.stop.Stop.TheVariants as stops
use Rattle.explore_program.proofs.ReadingLemmas.{rose-from}

-- a count that rose, told of an earlier one
pub fell_on : (a b c : Panel) → NoneFell a b → NoneFell b c → NoneFell a c
fell_on a b c first second = record {
  setups = omega (arith, first.setups, second.setups);
  faults = omega (arith, first.faults, second.faults);
  cuts = omega (arith, first.cuts, second.cuts);
}

failed_later : (a b c : Panel) → NoneFell a b → DeviceFailed b c → DeviceFailed a c
failed_later a b c fell (inl setups) = inl (rose-from a.counts.setups b.counts.setups c.counts.setups fell.setups setups)
failed_later a b c fell (inr (inl faults)) = inr (inl (rose-from a.counts.faults b.counts.faults c.counts.faults fell.faults faults))
failed_later a b c fell (inr (inr cuts)) = inr (inr (rose-from a.counts.cuts b.counts.cuts c.counts.cuts fell.cuts cuts))

pub unanswered_later : (stop : Stop) (counted counts : ℕ) (a b c : Panel) → NoneFell a b → IsUnanswered stop counted counts b c → IsUnanswered stop counted counts a c
unanswered_later (stops.Early endings.Write) counted counts a b c fell cause = cause
unanswered_later (stops.Early endings.Memory) counted counts a b c fell cause = tt
unanswered_later (stops.Early endings.Device) counted counts a b c fell cause = failed_later a b c fell cause
unanswered_later (stops.Early endings.Read) counted counts a b c fell cause = absurd cause
unanswered_later (stops.Early endings.Script) counted counts a b c fell cause = absurd cause
unanswered_later (stops.Early endings.Usage) counted counts a b c fell cause = cause
unanswered_later (stops.Early (endings.Image offset)) counted counts a b c fell cause = cause
unanswered_later (stops.Early (endings.Layout place)) counted counts a b c fell cause = cause
unanswered_later (stops.Early (endings.Meta line)) counted counts a b c fell cause = cause
unanswered_later (stops.Script n why) counted counts a b c fell cause = absurd cause
unanswered_later stops.Usage counted counts a b c fell cause = cause

-- a right image that was not mounted, and an exploration that came to no end
pub unmounted_unanswered : (image : Snapshot) (ending : Ending) (counted counts : ℕ) (old new : Panel) → first_finding (medium_of image.lines) ≡ None → StaysUnmounted image ending old new
    → IsUnanswered (stops.Early ending) counted counts old new
unmounted_unanswered image endings.Memory counted counts old new right cause = tt
unmounted_unanswered image endings.Device counted counts old new right cause = cause
unmounted_unanswered image (endings.Layout place) counted counts old new right cause = cc (sym right ∙ cause)
unmounted_unanswered image (endings.Meta line) counted counts old new right cause = cc (sym right ∙ cause)
unmounted_unanswered image endings.Usage counted counts old new right cause = cause
unmounted_unanswered image (endings.Image offset) counted counts old new right cause = cause
unmounted_unanswered image endings.Read counted counts old new right cause = absurd cause
unmounted_unanswered image endings.Write counted counts old new right cause = absurd cause
unmounted_unanswered image endings.Script counted counts old new right cause = absurd cause

pub explore_unanswered : (fault : ExploreFault) (counted counts : ℕ) (old new : Panel) → (fault ≡ explore.Device → DeviceStopped old new) → IsUnanswered (of_explore fault) counted counts old new
explore_unanswered explore.Device counted counts old new cause = inr (cause refl)
explore_unanswered explore.Memory counted counts old new cause = tt

pub unanswered_write : (fault : WriteFault) (counted between counts : ℕ) (old new : Panel) → counted ≤ between → (fault ≡ write.Failed → Rose between counts) → IsUnanswered (of_write fault) counted counts old new
unanswered_write write.Failed counted between counts old new later rose = rose-from counted between counts later (rose refl)
unanswered_write write.Memory counted between counts old new later rose = tt

-- a device that was disarmed, and then set up and mounted
pub fell_disarmed : (a b : Panel) → b ≡ after_disarm a → NoneFell a b
fell_disarmed a b is = subst (NoneFell a) (sym is) (record { setups = omega arith; faults = omega arith; cuts = omega arith })

pub fell_opened : (a b c : Panel) → b ≡ after_disarm a → Opens b c → NoneFell a c
fell_opened a b c is opens = fell_on a b c (fell_disarmed a b is) (record { setups = opens.setups; faults = opens.faults; cuts = opens.cuts })
