use Rattle.std.proofs.lemmas.List.{take_all}
use Rattle.std.proofs.Common.{All, subst}
use Rattle.std.proofs.lemmas.List.Elements.{All-more}
use Rattle.reply_text.specs.Room.{HasStart}
use Rattle.reply_text.proofs.ranges.know_starts.Goals as goal

pub loop-range-preserved : goal.loop-range-preserved
loop-range-preserved c = All-more HasStart c.args.ranges.now c.loop-range.range-index _ c.loop-range-test.true c.loop-range.invariant c.know_number.ensures

pub returns : goal.returns
returns c = subst (All HasStart) (take_all c.loop-range.range-index c.args.ranges.now c.loop-range-test.false) c.loop-range.invariant
