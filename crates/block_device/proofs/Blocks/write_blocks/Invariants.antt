use Rattle.std.proofs.Common.{◌*◌, Ok}
use Rattle.nvm_model.specs.Blocks.{IsMixed}
use Rattle.block_device.specs.Calls.{WorksOnBlocks}
use Rattle.block_device.proofs.WriteLemmas.{written}
use Rattle.block_device.proofs.Blocks.write_blocks.Given as goal

abbrev pub invariant-loop-k : goal.invariant-loop-k
invariant-loop-k g l = WorksOnBlocks g.L.Lines.state l.initial.self l.self l.initial.dev l.dev (Ok tt) (written l.block l.k l.bytes) IsMixed (35 * l.k) (13 * l.k)
