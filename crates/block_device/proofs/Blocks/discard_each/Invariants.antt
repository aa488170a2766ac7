use Rattle.std.proofs.Common.{◌-◌, ◌*◌, Ok}
use Rattle.nvm_model.specs.Storage.Block.{Absent}
use Rattle.nvm_model.specs.Blocks.{IsMixed}
use Rattle.block_device.specs.Calls.{WorksOnBlocks}
use Rattle.block_device.proofs.PartLemmas.{given}
use Rattle.block_device.proofs.Blocks.discard_each.Given as goal

abbrev pub invariant-loop-block : goal.invariant-loop-block
invariant-loop-block g l =
    let k = l.block - l.fn.blocks.start in
    WorksOnBlocks g.L.Lines.state l.fn.self l.self l.fn.dev l.dev (Ok tt) (given (λ _. Absent) l.fn.blocks.start k) IsMixed (11 * k) (5 * k)
