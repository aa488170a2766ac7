use Rattle.std.proofs.Common.{◌≡◌, false, take}
use Rattle.file_actions.specs.Rewriting.{covers_any}
use Rattle.file_actions.proofs.ranges.covers_any.Given as goal

abbrev pub invariant-loop-range : goal.invariant-loop-range
invariant-loop-range l = covers_any (take l.range-index l.ranges) l.line ≡ false
