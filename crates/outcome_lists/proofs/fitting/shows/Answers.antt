use Rattle.std.proofs.Common.{ap, sym, ◌&&◌, ◌∙◌}
use Rattle.explorer.specs.CutPlaces.Sights.{shows}
use Rattle.outcome_lists.proofs.FitLemmas.{shown}
use Rattle.outcome_lists.proofs.fitting.shows.Goals as goal

pub returns-then-may_be_replies : goal.returns-then-may_be_replies
returns-then-may_be_replies c = λ h follows.
    let now = c.args.sight.now in
    let q = c.args.question.now in
    shown now c.args.geometry h q follows c.requires.whole c.shows.result
    (c.shows.ensures ∙ ap (λ b. b && shows q now) (sym c.if-may_be_replies.true ∙ c.may_be_replies.ensures))

pub returns-else-may_be_replies : goal.returns-else-may_be_replies
returns-else-may_be_replies c = λ h follows.
    let now = c.args.sight.now in
    let q = c.args.question.now in
    shown now c.args.geometry h q follows c.requires.whole c.may_be_replies.result
    (c.if-may_be_replies.false ∙ ap (λ b. b && shows q now) (sym c.if-may_be_replies.false ∙ c.may_be_replies.ensures))
