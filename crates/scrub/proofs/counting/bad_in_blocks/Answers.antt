use Rattle.std.proofs.Common.{◌<◌, ◌≤◌, length, sum_by, ap, ◌∙◌, arith}
use Rattle.std.proofs.lemmas.List.{take_all}
use Rattle.std.proofs.lemmas.List.Sums.{sum_by_more}
use Rattle.nvm_model.specs.Storage.Block.{Absent}
use Rattle.nvm_model.specs.Blocks.{bad_lines_in}
use Rattle.block_device.specs.Object.{blocks_of}
use Rattle.scrub.proofs.UnitLemmas.{length-blocks_of}
use Rattle.scrub.proofs.counting.bad_in_blocks.Goals as goal

pub loop-block-preserved : goal.loop-block-preserved
loop-block-preserved g c =
    let all = blocks_of c.args.blocks.now (g.L.Lines.state c.args.dev.now).medium in
    let size = length-blocks_of c.args.blocks.now (g.L.Lines.state c.args.dev.now).medium in
    let within : c.loop-block.block < length all = omega (arith, size, c.requires.serves.all) in
    record {
      count = omega (arith, sum_by_more bad_lines_in all c.loop-block.block Absent within, c.loop-block.invariant.count, c.count_in_block-bad.ensures.count);
      few = omega arith;
    }

pub returns-clause-count : goal.returns-clause-count
returns-clause-count g c =
    let all = blocks_of c.args.blocks.now (g.L.Lines.state c.args.dev.now).medium in
    let size = length-blocks_of c.args.blocks.now (g.L.Lines.state c.args.dev.now).medium in
    let whole : length all ≤ c.loop-block.block = omega (arith, size, c.requires.serves.all) in
    c.loop-block.invariant.count ∙ ap (sum_by bad_lines_in) (take_all c.loop-block.block all whole)
