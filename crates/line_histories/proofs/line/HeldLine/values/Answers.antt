use Rattle.std.proofs.Common.{◌∷◌, get_or, sym, subst}
use Rattle.line_histories.specs.Log.{history_in}
use Rattle.line_histories.specs.Held.{HasHistory, held}
use Rattle.line_histories.proofs.HeldLemmas.{held-history}
use Rattle.line_histories.proofs.line.HeldLine.values.Goals as goal

pub returns : goal.returns
returns c =
    let h = c.self.inside in
    let w = c.args.w in
    subst (λ cell. HasHistory cell w (get_or h.durable w 0 ∷ history_in c.deref.result.now w)) c.self.view_is
    (subst (λ log. HasHistory (held h.bad h.weak h.durable h.log.items) w (get_or h.durable w 0 ∷ history_in log w)) (sym c.deref.ensures.value) (held-history h.bad h.weak h.durable h.log.items w c.requires))
