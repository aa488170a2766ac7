use Rattle.std.proofs.Common.{ℕ, Option, length, refl, arith}
use Rattle.block_device.specs.Refusals.{Refusal, bytes_refusal}
use Rattle.script_text.specs.Action.Action.{BWrite}
use Rattle.machine_host.proofs.BlockLemmas.{called, change_answered}
use Rattle.machine_host.proofs.host.Performer.bwrite.Goals as goal

pub returns : goal.returns
returns g c =
    let said = c.write-call.ensures.changes in
    let places : ℕ → Option Refusal = λ blocks. bytes_refusal blocks c.args.block (length c.args.bytes.now) in
    change_answered _ _ _ _ c.write-call.result _ _ _ _ c.self.view_is c.answer.ensures.state c.requires.on c.requires.serves (BWrite c.args.block c.args.bytes.now) (λ h. omega arith) (λ h. omega arith)
    (called g.D.Lines.state _ _ _ _ c.write-call.result (places c.self.inside.blocks.geo.blocks) _ _ _ _ said)
    _ places _ _ _ _ refl (λ h. refl) said.refused said.ok c.answer.ensures.answer tt
