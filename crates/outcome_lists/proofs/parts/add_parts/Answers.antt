use Rattle.std.proofs.Common.{◌≤◌, ap, sym, subst, ◌∙◌, arith}
use Rattle.outcome_lists.specs.Parts.{AreInOrder, AreParts, IsPart, part, reach, with_part}
use Rattle.outcome_lists.proofs.PartLemmas.{next_of_run}
use Rattle.outcome_lists.proofs.PartOrderLemmas.{all-with_part, order-with_part}
use Rattle.outcome_lists.proofs.parts.add_parts.Goals as goal

pub loop-n-preserved : goal.loop-n-preserved
loop-n-preserved c =
    let i = c.loop-n.invariant in
    let begins = i.begins in
    let ordered = i.ordered in
    let read = c.args.read.now in
    let old = c.loop-n.parts.items in
    let first = (reach read).start in
    let from : first ≤ c.loop-n.n = omega (arith, begins, ordered) in
    let more = c.in_ok-add_part.ensures.parts in
    record {
      ordered = omega (arith, ordered);
      begins = begins;
      ends = i.ends;
      parts = more ∙ ap (with_part old) c.part.ensures.part ∙ next_of_run (part read) first c.loop-n.n c.args.parts.now.items old from i.parts;
      taken = λ were. subst (AreParts c.args.geometry) (sym more) (all-with_part (IsPart c.args.geometry) old c.part.result (i.taken were) c.part.ensures.is);
      order = λ were. subst AreInOrder (sym more) (order-with_part old c.part.result (i.order were));
    }
