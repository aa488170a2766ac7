-- What a recovery may leave: a mount while the power stayed on, so that each word has all its values still.
use Rattle.std.specs.Prelude.{◌≡◌, ℕ, List, [], ◌∷◌}
use Rattle.machine_model.specs.Machine.{Machine}
use Rattle.machine_model.specs.Commands.{MayLeaveBlocks, MayLeaveFiles, MayLeaveVolume}
use Rattle.machine_model.specs.Restarting.{holding, stopped_by}

-- The state after it, where no line of metadata is bad: blocks, volume and files are as an interrupted action may have left them.
-- The unit stays, and what is armed.
pub record IsRemounted (h next : Machine) : Type 0 where
  pub blocks : MayLeaveBlocks h.interrupted h.blocks next.blocks
  pub volume : MayLeaveVolume h.geometry h.interrupted h.volume next.volume
  pub files : MayLeaveFiles h.mappings h.interrupted h.files next.files
  pub state : next ≡ record (holding h.geometry next.blocks next.volume next.files) { unit = h.unit; cut_armed = h.cut_armed; fail_armed = h.fail_armed }

-- the state after it, by the bad lines of metadata
abbrev pub RecoversTo : List ℕ → Machine → Machine → Type 0
RecoversTo [] h next = IsRemounted h next
RecoversTo (line ∷ lines) h next = next ≡ record (stopped_by h.geometry (line ∷ lines)) { unit = h.unit; cut_armed = h.cut_armed; fail_armed = h.fail_armed }

abbrev pub RecoveryMayLeave : Machine → Machine → Type 0
RecoveryMayLeave h next = RecoversTo h.bad_meta h next
