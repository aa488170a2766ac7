use Rattle.std.proofs.Common.{ℕ, Option, [], ◌∷◌, refl, arith}
use Rattle.block_device.specs.Refusals.{Refusal, together_refusal}
use Rattle.script_text.specs.Action.Action.{BDiscard}
use Rattle.machine_host.proofs.BlockLemmas.{called, change_answered}
use Rattle.machine_host.proofs.host.Performer.bdiscard.Goals as goal

pub returns : goal.returns
returns g c =
    let said = c.discard_now-call.ensures.changes in
    let places : ℕ → Option Refusal = λ blocks. together_refusal blocks (record { start = c.args.block; len = c.args.count } ∷ []) in
    change_answered _ _ _ _ c.discard_now-call.result _ _ _ _ c.self.view_is c.answer.ensures.state c.requires.on c.requires.serves (BDiscard c.args.block c.args.count) (λ h. omega arith) (λ h. omega arith)
    (called g.D.Lines.state _ _ _ _ c.discard_now-call.result (places c.self.inside.blocks.geo.blocks) _ _ _ _ said)
    _ places _ _ _ _ refl (λ h. refl) said.refused said.ok c.answer.ensures.answer tt
