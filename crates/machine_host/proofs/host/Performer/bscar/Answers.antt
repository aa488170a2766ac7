use Rattle.std.proofs.Common.{ℕ, Option, refl, arith}
use Rattle.block_device.specs.Refusals.{Refusal, together_refusal}
use Rattle.script_text.specs.Action.Action.{BScar}
use Rattle.machine_host.proofs.BlockLemmas.{called, change_answered}
use Rattle.machine_host.proofs.host.Performer.bscar.Goals as goal

pub returns : goal.returns
returns g c =
    let said = c.scar-call.ensures.changes in
    let places : ℕ → Option Refusal = λ blocks. together_refusal blocks c.args.spans.now in
    change_answered _ _ _ _ c.scar-call.result _ _ _ _ c.self.view_is c.answer.ensures.state c.requires.on c.requires.serves (BScar c.args.spans.now) (λ h. omega arith) (λ h. omega arith)
    (called g.D.Lines.state _ _ _ _ c.scar-call.result (places c.self.inside.blocks.geo.blocks) _ _ _ _ said)
    _ places _ _ _ _ refl (λ h. refl) said.refused said.ok c.answer.ensures.answer tt
