-- What calls on blocks ask and promise, a record a kind of call. `s` and `t` are the blocks before and after, and `state` is
-- what a device means.
use Rattle.std.specs.Prelude.{◌≡◌, ℕ, List, length, Option, Result, IsTrue, OnErr, OnOk, false}
use Rattle.std.specs.Result.{is_ok}
use Rattle.line_device.specs.Device.{Device}
use Rattle.line_device.specs.Medium.{WritesBack}
use Rattle.line_device.specs.Panel.{Outcome, Runs}
use Rattle.line_words.specs.declared.interruption.Interruption.{Interruption}
use Rattle.line_words.specs.Ending.{ended}
use Rattle.line_words.specs.Told.{is_done}
use Rattle.line_words.specs.Words.{WritesBackBeside, WritesBackOutside}
use Rattle.word_log.specs.Area.{IsOf}
use Rattle.word_log.specs.Changes.{commit_calls, commit_persists}
use Rattle.nvm_model.specs.Numbered.{AreMixed}
use Rattle.nvm_model.specs.Storage.{Block}
use Rattle.block_device.specs.declared.change.Change.{Change}
use Rattle.block_device.specs.declared.fault.BlockFault.{BlockFault}
use Rattle.block_device.specs.Area.{block_area, IsBlockLine}
use Rattle.block_device.specs.Object.{BlocksState, BlocksServe, HasGoodMetadata, IsInStep, blocks_of}
use Rattle.block_device.specs.Changes.{changed_map}
use Rattle.block_device.specs.Images.{EachReads, IsEither}
use Rattle.block_device.specs.Prepared.{ArePrepared, AreAsBefore, blocks_with, numbers_of}
use Rattle.block_device.specs.Refusals.{Answers, OnRefused, OnWorked, Refusal, block_outcome}

-- the blocks serve a device that is on, and nothing stopped their last call
pub record AreReady (s : BlocksState) (d : Device) : Type 0 where
  pub serves : BlocksServe s d.medium
  pub settled : IsTrue s.settled
  pub on : IsTrue d.panel.power

-- A call that makes the blocks `to` of them, or is refused for the reason `why`.
pub record ChangesBlocks {D : Type 0} (state : D → Device) (s t : BlocksState) (before after : D) (result : Result (Unit {0}) BlockFault) (why : Option Refusal) (to : List Block → List Block) (Between : List Block → List Block → List Block → Type 0) (calls persists : ℕ) : Type 0 where
  pub refused : Answers why result
  -- then nothing was done
  pub untouched : OnRefused result ((t ≡ s) × (after ≡ before))
  pub ok : OnOk result (blocks_of t (state after).medium ≡ to (blocks_of s (state before).medium))
  -- however it ended, an image reads as `Between` says of the blocks before and the wanted ones
  pub images : OnWorked result (EachReads s.geo (state after).medium
      (Between (blocks_of s (state before).medium) (to (blocks_of s (state before).medium))))
  -- other lines are only written back
  pub outside : WritesBackBeside (IsBlockLine s.geo) (state before).medium (state after).medium
  pub serves : IsTrue t.settled → BlocksServe t (state after).medium
  pub object : (t.geo ≡ s.geo) × (t.settled ≡ is_done (block_outcome result))
  pub runs : Runs calls persists (block_outcome result) (state before).panel (state after).panel

-- The same of a call that nothing refuses.
pub record WorksOnBlocks {D : Type 0} (state : D → Device) (s t : BlocksState) (before after : D) (result : Result (Unit {0}) Interruption) (to : List Block → List Block) (Between : List Block → List Block → List Block → Type 0) (calls persists : ℕ) : Type 0 where
  pub ok : OnOk result (blocks_of t (state after).medium ≡ to (blocks_of s (state before).medium))
  pub images : EachReads s.geo (state after).medium (Between (blocks_of s (state before).medium) (to (blocks_of s (state before).medium)))
  pub outside : WritesBackBeside (IsBlockLine s.geo) (state before).medium (state after).medium
  pub serves : OnOk result (BlocksServe t (state after).medium)
  pub object : (t.geo ≡ s.geo) × (t.settled ≡ is_ok result)
  pub runs : Runs calls persists (ended result) (state before).panel (state after).panel

-- A call that makes the changes of the map, all of them or none.
pub record SwitchesBlocks {D : Type 0} (state : D → Device) (s t : BlocksState) (before after : D) (result : Result (Unit {0}) Interruption) (changes : List Change) : Type 0 where
  pub ok : OnOk result (t.map ≡ changed_map changes s.map)
  pub images : EachReads s.geo (state after).medium (IsEither (blocks_of s (state before).medium) (blocks_with changes s (state before).medium))
  -- only log and map change
  pub outside : WritesBackOutside (IsOf (block_area s.geo)) (state before).medium (state after).medium
  pub serves : OnOk result (BlocksServe t (state after).medium)
  pub in_step : OnOk result (IsTrue t.quiet × IsInStep t.map t.free 0)
  pub object : (t.geo ≡ s.geo) × (t.settled ≡ is_ok result)
  pub runs : Runs (commit_calls (length changes)) (commit_persists (length changes)) (ended result) (state before).panel (state after).panel

-- blocks that have begun a call, with changes that are prepared so far
pub record MayPrepare (s : BlocksState) (d : Device) (changes : List Change) : Type 0 where
  pub serves : BlocksServe s d.medium
  pub unsettled : s.settled ≡ false
  pub on : IsTrue d.panel.power
  pub good : HasGoodMetadata s.geo d.medium
  pub prepared : ArePrepared s d.medium changes

-- A call that prepares the changes `ds` after `cs`: they are of the blocks with these numbers, and will make the blocks `to` of
-- those of `cs`.
pub record PreparesBlocks {D : Type 0} (state : D → Device) (s t : BlocksState) (before after : D) (result : Result (Unit {0}) Interruption) (cs ds : List Change) (numbers : List ℕ) (to : List Block → List Block) (calls persists : ℕ) : Type 0 where
  -- however it ended, the blocks are what they were
  pub as_before : AreAsBefore s t (state before).medium (state after).medium
  pub prepared : OnOk result (ArePrepared t (state after).medium ds)
  pub numbered : OnOk result (numbers_of ds ≡ numbers)
  pub written : OnOk result (blocks_with ds t (state after).medium ≡ to (blocks_with cs s (state before).medium))
  pub runs : Runs calls persists (ended result) (state before).panel (state after).panel

-- A call that fills a buffer with bytes of the device; stopped, it leaves each byte as it was or as it is to be.
pub record FillsBuffer {E : Type 0} (before after : Device) (old new : List ℕ) (result : Result (Unit {0}) E) (end : Outcome) (bytes : List ℕ) (calls : ℕ) : Type 0 where
  pub ok : OnOk result (new ≡ bytes)
  pub err : OnErr result (AreMixed ℕ old bytes new)
  pub lines : WritesBack before.medium after.medium
  pub runs : Runs calls 0 end before.panel after.panel
