use Rattle.std.proofs.Common.{◌+◌, ◌*◌, Some, ap, sym, refl, ◌∙◌}
use Rattle.std.proofs.lemmas.Result.{on_ok_weaker}
use Rattle.outcome_walk.specs.Counting.{sides_at, weighed}
use Rattle.outcome_walk.proofs.CountLemmas.{weighed_more, weighed_push}
use Rattle.outcome_walk.proofs.crowd.add.Goals as goal

pub returns-in-Some : goal.returns-in-Some
returns-in-Some c = λ f.
    on_ok_weaker c.add.result
    (λ sum. weighed_more f c.args.crowds.now.items c.in-Some.k c.args.sides.items c.index_mut.result.now _ c.args.number.now
    (ap (sides_at c.in-Some.k) (sym c.deref-2.ensures.value) ∙ c.in-Some.ensures ∙ ap Some c.deref.ensures.value) c.index_mut.ensures.value refl sum)
    c.add.ensures.sum

pub returns-in_ok-push-in-None : goal.returns-in_ok-push-in-None
returns-in_ok-push-in-None c = λ f.
    ap (weighed f) c.in_ok-push-in-None.ensures.items ∙ weighed_push f c.args.crowds.now.items _
    ∙ ap (λ n. weighed f c.args.crowds.now.items + n * f c.args.sides.items) c.in_ok-number-in-None.ensures
