use Rattle.std.proofs.Common.{◌≡◌, ◌<◌, ◌≤◌, ℕ, None}
use Rattle.nvm_model.specs.Blocks.{nth, obstacle_in}
use Rattle.block_device.specs.Object.{blocks_of}
use Rattle.block_device.proofs.Blocks.check_readable.Given as goal

abbrev pub invariant-loop-k : goal.invariant-loop-k
invariant-loop-k g l = (j : ℕ) → l.block ≤ j → j < l.k → obstacle_in j (nth (blocks_of l.self (g.L.Lines.state l.dev).medium) j) ≡ None
