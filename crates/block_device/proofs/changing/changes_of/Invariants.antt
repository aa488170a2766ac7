use Rattle.std.proofs.Common.{◌≡◌, take}
use Rattle.block_device.specs.Changes.{changes_in}
use Rattle.block_device.proofs.changing.changes_of.Given as goal

abbrev pub invariant-loop-span : goal.invariant-loop-span
invariant-loop-span l = l.changes.items ≡ changes_in (take l.span-index l.spans) l.fn.state
