use Rattle.std.proofs.Common.{◌≡◌, ◌+◌, ◌<◌, take, length, true}
use Rattle.line_module.specs.Memory.{has}
use Rattle.line_module.proofs.order.place_of.Given as goal

abbrev pub invariant-loop-place : goal.invariant-loop-place
invariant-loop-place l = (has l.line (take (l.place + 1) l.lines) ≡ true) × (l.place < length l.lines)

abbrev pub decreases-loop-place : goal.decreases-loop-place
decreases-loop-place l = l.place
