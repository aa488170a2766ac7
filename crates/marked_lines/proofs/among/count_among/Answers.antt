use Rattle.std.proofs.Common.{true, false, sym, arith}
use Rattle.marked_lines.specs.Counting.{has_mark}
use Rattle.marked_lines.proofs.CountLemmas.{count-next}
use Rattle.marked_lines.proofs.among.count_among.Goals as goal
use Rattle.marked_lines.proofs.among.count_among.Goals.{then-is_on, else-is_on}

pub loop-k-preserved : goal.loop-k-preserved
loop-k-preserved g c =
    let on = has_mark c.args.mark (g.L.Lines.state c.args.dev.now).medium in
    elim c.if-is_on.branch [
      | then-is_on w ↦ record {
        count = omega (arith, count-next on c.args.first c.loop-k.k true (sym w.if-is_on.ensures), c.loop-k.invariant.count, w.marked-is);
        few = omega (arith, c.loop-k.invariant.few, w.marked-is);
      }
      | else-is_on w ↦ record {
        count = omega (arith, count-next on c.args.first c.loop-k.k false (sym w.if-is_on.ensures), c.loop-k.invariant.count, w.marked-is);
        few = omega (arith, c.loop-k.invariant.few, w.marked-is);
      }
    ]
