use Rattle.std.proofs.Common.{ap₂, option_map, ◌∙◌}
use Rattle.outcome_walk.specs.Counting.{weighed}
use Rattle.outcome_walk.specs.Steps.{all_stepped, if_standing}
use Rattle.outcome_walk.proofs.CountLemmas.{choice_more}
use Rattle.outcome_walk.proofs.crowd.Crowd.grow.Goals as goal

pub loop-choice-preserved : goal.loop-choice-preserved
loop-choice-preserved c = λ f.
    let a = c.args in
    let stepped = c.in_ok-sides.ensures ∙ ap₂ (λ steps sides. if_standing (all_stepped steps sides)) c.deref.ensures.value c.deref-in-loop-choice.ensures.value in
    choice_more f a.self.now.sides.items a.moves.now c.loop-choice.choice-index c.choice-item.result c.loop-choice-test.true c.choice-item.is a.self.now.number
    (weighed f c.loop-choice.grown.items) (weighed f c.add_some.new.crowds.items) _ (option_map (λ s. s.items) c.in_ok-sides.sides) stepped (c.in_ok-add_some.ensures f) (c.loop-choice.invariant f)
