-- When the device stopped an exploration.
use Rattle.std.specs.Prelude.{◌≢◌, ◌≤◌, ◌⊎◌, ℕ, List}
use Rattle.nvm_base.specs.Counts.{Rose}
use Rattle.line_device.specs.Panel.{Panel}
use Rattle.reply_text.specs.Answer.{Answer}
use Rattle.reply_text.specs.Answer.Answer.{Bytes, PoisonBlock, Scarred}

-- The device stopped it: its count of failures rose, or that of losses of power.
abbrev pub DeviceStopped : Panel → Panel → Type 0
DeviceStopped old new = Rose old.counts.faults new.counts.faults ⊎ Rose old.counts.cuts new.counts.cuts

-- none of the counts of what fails fell, that of set-ups among them
pub record NoneFell (old new : Panel) : Type 0 where
  pub setups : old.counts.setups ≤ new.counts.setups
  pub faults : old.counts.faults ≤ new.counts.faults
  pub cuts : old.counts.cuts ≤ new.counts.cuts

-- an answer that doesn't tell of a block
pub record TellsNoBlock (answer : Answer) : Type 0 where
  pub bytes : (bytes : List ℕ) → answer ≢ Bytes bytes
  pub scarred : (b : ℕ) → answer ≢ Scarred b
  pub bad_line : (b line : ℕ) → answer ≢ PoisonBlock b line
