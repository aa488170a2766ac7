use Rattle.std.proofs.Common.{◌≡◌, ◌*◌, ◌++◌, drop}
use Rattle.line_device.specs.Medium.{WritesBack}
use Rattle.line_device.specs.Panel.{Runs}
use Rattle.line_device.specs.Panel.Outcome.{went}
use Rattle.nvm_model.specs.Blocks.{look_blocks}
use Rattle.block_device.specs.Object.{blocks_of}
use Rattle.block_device.proofs.Blocks.load_blocks.Given as goal

abbrev pub invariant-loop-k : goal.invariant-loop-k
invariant-loop-k g l =
    let old = g.L.Lines.state l.initial.dev in
    let new = g.L.Lines.state l.dev in
    record {
      bytes : l.out ≡ look_blocks (blocks_of l.self old.medium) l.block l.k ++ drop (512 * l.k) l.initial.out;
      lines : WritesBack old.medium new.medium;
      runs : Runs (8 * l.k) 0 went old.panel new.panel;
    }
