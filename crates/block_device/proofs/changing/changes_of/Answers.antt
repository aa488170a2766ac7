-- Each span adds its blocks, and those of all are few.
use Rattle.std.proofs.Common.{◌++◌, [], ◌∷◌, get_or, ◌∙◌, ap}
use Rattle.nvm_base.specs.declared.units.Span.{Span}
use Rattle.block_device.specs.Changes.{changes_in}
use Rattle.block_device.proofs.SpanLemmas.{room_left, changes_in-more}
use Rattle.block_device.proofs.changing.changes_of.Goals as goal

abbrev none : Span
none = record { start = 0; len = 0 }

pub add_changes-requires-clause-room : goal.add_changes-requires-clause-room
add_changes-requires-clause-room c =
    room_left c.args.spans.now c.args.state c.loop-span.span-index none _ c.loop-span.invariant c.loop-span-test.true c.requires.few

pub loop-span-preserved : goal.loop-span-preserved
loop-span-preserved c =
    let span = get_or c.args.spans.now c.loop-span.span-index none in
    c.add_changes.ensures.items
    ∙ ap (λ xs. xs ++ changes_in (span ∷ []) c.args.state) c.loop-span.invariant
    ∙ changes_in-more c.args.spans.now c.args.state c.loop-span.span-index none c.loop-span-test.true
