use Rattle.std.proofs.Common.{◌*◌, ◌++◌, Ok}
use Rattle.nvm_model.specs.Numbered.{list_from}
use Rattle.block_device.specs.Calls.{PreparesBlocks}
use Rattle.block_device.specs.Prepared.{numbers_of}
use Rattle.block_device.proofs.WriteLemmas.{written}
use Rattle.block_device.proofs.Blocks.prepare_blocks.Given as goal

abbrev pub invariant-loop-k : goal.invariant-loop-k
invariant-loop-k g l =
    let cs = l.initial.changes.items in
    PreparesBlocks g.L.Lines.state l.initial.self l.self l.initial.dev l.dev (Ok tt) cs l.changes.items (numbers_of cs ++ list_from (λ b. b) l.block l.k) (written l.block l.k l.bytes) (24 * l.k) (8 * l.k)
