use Rattle.std.proofs.Common.{◌++◌, List, ap, ◌∙◌}
use Rattle.std.specs.List.{flat_map}
use Rattle.outcome_walk.specs.Holding.{trails_held, ways_held}
use Rattle.outcome_walk.specs.Steps.{Move, moves_held, with_move}
use Rattle.outcome_walk.proofs.StepLemmas.{grown_moved}
use Rattle.outcome_walk.proofs.walking.grown.Goals as goal

pub loop-outcome-init : goal.loop-outcome-init
loop-outcome-init c =
    let a = c.args in
    let grows = λ (ms : List Move). flat_map (λ t. flat_map (with_move t) ms) (trails_held a.found.now) in
    ap (λ fs. trails_held fs ++ grows (moves_held c.in_ok-moves.moves.items)) c.new-next.ensures.items ∙ ap grows c.in_ok-moves.ensures ∙ grown_moved a.places.now a.links.now (ways_held a.choices.now) (trails_held a.found.now)
