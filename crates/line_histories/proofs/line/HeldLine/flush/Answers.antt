use Rattle.std.proofs.Common.{◌∙◌, [], ap, sym}
use Rattle.line_device.specs.History.{newest}
use Rattle.nvm_model.specs.Cell.{flush_cell}
use Rattle.line_histories.specs.Log.{history}
use Rattle.line_histories.specs.Held.{held}
use Rattle.line_histories.proofs.HeldLemmas.{held-flushed}
use Rattle.line_histories.proofs.line.HeldLine.flush.Goals as goal

pub returns-else-self : goal.returns-else-self
returns-else-self c =
    let h = c.self.inside in
    let settled = c.settle.new.durable in
    ap (λ log. held h.bad h.weak settled log) c.clear.ensures.items
    ∙ ap (λ b. held h.bad b settled []) c.if-self.false
    ∙ held-flushed h.bad h.durable settled h.log.items (λ w below. c.settle.ensures.words w below ∙ ap (λ log. newest (history h.durable log w)) c.deref.ensures.value)
    ∙ ap (λ b. flush_cell (held h.bad b h.durable h.log.items)) (sym c.if-self.false)
    ∙ ap flush_cell c.self.view_is
