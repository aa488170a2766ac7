use Rattle.std.proofs.Common.{All, take}
use Rattle.reply_text.specs.Room.{HasStart}
use Rattle.reply_text.proofs.ranges.know_starts.Given as goal

abbrev pub invariant-loop-range : goal.invariant-loop-range
invariant-loop-range l = All HasStart (take l.range-index l.ranges)
