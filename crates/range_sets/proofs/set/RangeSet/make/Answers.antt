use Rattle.std.proofs.Common.{ap, sym, subst, ◌∙◌}
use Rattle.range_sets.specs.Ranges.{total_of, IsRangeSet}
use Rattle.range_sets.proofs.DisjointLemmas.{some_bytes, range_set}
use Rattle.range_sets.proofs.set.RangeSet.make.Goals as goal

pub first_overlap-requires-clause-some : goal.first_overlap-requires-clause-some
first_overlap-requires-clause-some c = some_bytes c.args.ranges.now (sym c.in_default.ensures)

pub invariant_of-result : goal.invariant_of-result
invariant_of-result c =
    let set = range_set c.args.ranges.now c.requires.ends c.requires.total (sym c.in_default.ensures) c.in_default-first_overlap.ensures in
    (subst IsRangeSet (sym c.in-Ok.ensures.items) set, c.total_of.ensures ∙ ap total_of (sym c.in-Ok.ensures.items))

pub returns-in-Ok-clause-set : goal.returns-in-Ok-clause-set
returns-in-Ok-clause-set c =
    let set = range_set c.args.ranges.now c.requires.ends c.requires.total (sym c.in_default.ensures) c.in_default-first_overlap.ensures in
    subst IsRangeSet (sym c.in-Ok.ensures.items) set
