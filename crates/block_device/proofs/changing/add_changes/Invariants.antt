use Rattle.std.proofs.Common.{◌≡◌, ◌++◌, ◌-◌}
use Rattle.nvm_model.specs.Numbered.{list_from}
use Rattle.block_device.proofs.SpanLemmas.{change_to}
use Rattle.block_device.proofs.changing.add_changes.Given as goal

abbrev pub invariant-loop-block : goal.invariant-loop-block
invariant-loop-block l =
    l.changes.items ≡ l.fn.changes.items ++ list_from (change_to l.fn.state) l.fn.span.start (l.block - l.fn.span.start)
