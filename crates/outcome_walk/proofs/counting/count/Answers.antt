use Rattle.std.proofs.Common.{◌+◌, ◌*◌, ◌++◌, ◌∷◌, [], ap, ap₂, ◌∙◌}
use Rattle.outcome_walk.specs.Counting.{below, completions, weighed}
use Rattle.outcome_walk.specs.Holding.{parts_held, ways_held}
use Rattle.outcome_walk.specs.Steps.{moves}
use Rattle.outcome_walk.proofs.CountLemmas.{begun_count, level_more}
use Rattle.outcome_walk.proofs.counting.count.Goals as goal

pub loop-level-init : goal.loop-level-init
loop-level-init c =
    let a = c.args in
    let parts = parts_held a.levels.now in
    let sides = c.in_ok-all_standing.field-0 in
    let all = completions a.places.now parts in
    ap (weighed all) (c.in_ok-push.ensures.items ∙ ap (λ crowds. crowds ++ record { sides = sides; number = c.in_ok-one.field-0 } ∷ []) c.new-crowds.ensures.items)
    ∙ ap (λ n. n * all sides.items + 0) c.in_ok-one.ensures ∙ begun_count a.places.now parts sides.items c.in_ok-all_standing.ensures

pub loop-level-preserved : goal.loop-level-preserved
loop-level-preserved c =
    level_more c.args.places.now c.args.levels.now c.loop-level.level-index c.level-item.result c.loop-level-test.true c.level-item.is c.loop-level.crowds.items c.in_ok-crowds.crowds.items _
    c.loop-level.invariant (λ f.
    c.in_ok-crowds.ensures f ∙ ap₂ (λ links choices. weighed (below f (moves c.args.places.now links (ways_held choices))) c.deref-in-loop-level-2.result.now) c.deref.ensures.value c.deref-in-loop-level.ensures.value
    ∙ ap (weighed (below f (moves c.args.places.now c.level-item.result.links.items (ways_held c.level-item.result.choices.items)))) c.deref-in-loop-level-2.ensures.value)
