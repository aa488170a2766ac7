-- There is room for the blocks of the span.
use Rattle.std.proofs.Common.{lit<, ◌∙◌, arith}
use Rattle.block_device.proofs.SpanLemmas.{items_more, items_len}
use Rattle.block_device.proofs.changing.add_changes.Goals as goal

pub push-requires : goal.push-requires
push-requires c =
    let len = items_len _ _ _ _ _ c.loop-block.invariant in
    let room = c.requires.room in
    (lit< tt, omega arith)

pub loop-block-preserved : goal.loop-block-preserved
loop-block-preserved c =
    c.push.ensures.items ∙ items_more c.loop-block.changes.items c.args.changes.now.items c.args.state c.args.span.start c.loop-block.block (omega arith) c.loop-block.invariant

pub returns-clause-len : goal.returns-clause-len
returns-clause-len c =
    let len = items_len _ _ _ _ _ c.loop-block.invariant in
    omega arith
