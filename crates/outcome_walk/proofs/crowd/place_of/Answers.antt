use Rattle.std.proofs.Common.{Some, ap, sym, ◌∙◌}
use Rattle.std.proofs.lemmas.Slice.Eq.{slice_eq-Decides}
use Rattle.outcome_walk.proofs.CountLemmas.{sides_same, sides_there}
use Rattle.outcome_walk.proofs.crowd.place_of.Goals as goal

pub returns-then-eq : goal.returns-then-eq
returns-then-eq c =
    let same = (slice_eq-Decides sides_same c.as_slice.result.now c.args.sides.now c.eq.result c.eq.ensures).0 c.if-eq.true in
    sides_there c.args.crowds.now c.loop-k.k c.index-crowds-k.result c.loop-k-test.true c.index-crowds-k.is ∙ ap Some (sym c.as_slice.ensures.value ∙ same)
