use Rattle.std.proofs.Common.{true, ◌∷◌, [], ◌++◌, ap, sym, ◌∙◌}
use Rattle.outcome_walk.specs.Walking.{both}
use Rattle.outcome_walk.proofs.WalkLemmas.{standing_more}
use Rattle.outcome_walk.proofs.moving.all_standing.Goals as goal

pub loop-place-preserved : goal.loop-place-preserved
loop-place-preserved c =
    c.in_ok-push.ensures.items ∙ ap (λ sides. sides ++ both true ∷ []) c.loop-place.invariant ∙ sym (standing_more c.args.places.now c.loop-place._place-index c.loop-place-test.true)
