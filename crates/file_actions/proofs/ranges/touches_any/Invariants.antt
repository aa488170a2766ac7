use Rattle.std.proofs.Common.{◌≡◌, false, take}
use Rattle.file_actions.specs.Rewriting.{touches_any_page}
use Rattle.file_actions.proofs.ranges.touches_any.Given as goal

abbrev pub invariant-loop-range : goal.invariant-loop-range
invariant-loop-range l = touches_any_page (take l.range-index l.ranges) l.page ≡ false
