use Rattle.std.proofs.Common.{sym, subst}
use Rattle.block_device.specs.Object.{BlocksServe}
use Rattle.storage_tests.proofs.blocks.cuts.perform_behind.Goals as goal

pub perform-answer-requires : goal.perform-answer-requires
perform-answer-requires g c = λ settled. subst (BlocksServe c.args.blocks.now) (sym c.new-fuse.ensures.lines) (c.requires settled)
