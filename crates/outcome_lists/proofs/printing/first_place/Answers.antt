use Rattle.std.proofs.Common.{◌≡◌, None, inl, inr, sym, ◌∙◌}
use Rattle.outcome_lists.specs.Walks.{first_place}
use Rattle.outcome_lists.proofs.PrintLemmas.{first_there, none_there}
use Rattle.outcome_lists.proofs.printing.first_place.Goals as goal

pub returns-then-stands : goal.returns-then-stands
returns-then-stands c =
    let at = c.loop-place.place-iterator in
    let next = c.next.new.self in
    let steps = c.in-Some.ensures.steps in
    sym (first_there at.a.rest.now next.a.rest.now at.b.rest.now next.b.rest.now c.in-Some.place.now c.in-Some.sides.now steps.0 steps.1
    (sym c.stands.ensures ∙ c.if-stands.true)) ∙ c.loop-place.invariant

pub returns : goal.returns
returns c =
    let places = c.loop-place.place-iterator.a.rest.now in
    let sides = c.loop-place.place-iterator.b.rest.now in
    sym (elim c.in-None.ensures.steps as (λ _. first_place places sides ≡ None) [
      | inl none ↦ none_there places sides (inl none.1.0)
      | inr none ↦ none_there places sides (inr none.1.0)
    ]) ∙ c.loop-place.invariant
