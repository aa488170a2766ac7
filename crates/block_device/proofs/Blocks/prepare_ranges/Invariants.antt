use Rattle.std.proofs.Common.{◌≡◌, ◌*◌, Ok, take}
use Rattle.nvm_model.specs.Blocks.{write_ranges}
use Rattle.block_device.specs.Calls.{PreparesBlocks}
use Rattle.block_device.specs.Refusals.{block_spans}
use Rattle.block_device.specs.Prepared.{numbers_in}
use Rattle.block_device.proofs.ApartLemmas.{size_of}
use Rattle.block_device.proofs.Blocks.prepare_ranges.Given as goal

abbrev pub invariant-loop-range : goal.invariant-loop-range
invariant-loop-range g l =
    let done = take l.range-index l.ranges in
    let count = size_of (block_spans done) in
    record {
      at : l.at ≡ size_of done;
      prepares : PreparesBlocks g.L.Lines.state l.initial.self l.self l.initial.dev l.dev (Ok tt) l.initial.changes.items l.changes.items (numbers_in (block_spans done)) (write_ranges done l.bytes) (24 * count) (8 * count);
    }
