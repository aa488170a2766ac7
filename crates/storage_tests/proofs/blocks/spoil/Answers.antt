use Rattle.block_device.proofs.PoisonLemmas.{serves-poisoned}
use Rattle.storage_tests.proofs.blocks.spoil.Goals as goal

pub returns-then-line-lines : goal.returns-then-line-lines
returns-then-line-lines g c = λ settled. serves-poisoned c.args.blocks.now (g.L.Lines.state c.args.dev.now).medium _ c.args.line c.poison.ensures.lines (c.requires settled)
