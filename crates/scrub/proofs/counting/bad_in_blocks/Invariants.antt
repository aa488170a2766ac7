use Rattle.std.proofs.Common.{◌≡◌, ◌*◌, ◌≤◌, sum_by, take}
use Rattle.nvm_model.specs.Blocks.{bad_lines_in}
use Rattle.block_device.specs.Object.{blocks_of}
use Rattle.scrub.proofs.counting.bad_in_blocks.Given as goal

abbrev pub invariant-loop-block : goal.invariant-loop-block
invariant-loop-block g l = record {
  count : l.bad ≡ sum_by bad_lines_in (take l.block (blocks_of l.blocks (g.L.Lines.state l.dev).medium));
  few : l.bad ≤ 8 * l.block;
}
