use Rattle.std.proofs.Common.{ℕ, Option, refl, arith}
use Rattle.block_device.specs.Refusals.{Refusal, ranges_refusal}
use Rattle.script_text.specs.Action.Action.{BMulti}
use Rattle.machine_host.proofs.BlockLemmas.{called, change_answered}
use Rattle.machine_host.proofs.host.Performer.bmulti.Goals as goal

pub returns : goal.returns
returns g c =
    let said = c.atomic_multiwrite-call.ensures.changes in
    let places : ℕ → Option Refusal = λ blocks. ranges_refusal blocks c.args.ranges.now in
    change_answered _ _ _ _ c.atomic_multiwrite-call.result _ _ _ _ c.self.view_is c.answer.ensures.state c.requires.on c.requires.serves (BMulti c.args.ranges.now c.args.bytes.now) (λ h. omega arith) (λ h. omega arith)
    (called g.D.Lines.state _ _ _ _ c.atomic_multiwrite-call.result (places c.self.inside.blocks.geo.blocks) _ _ _ _ said)
    _ places _ _ _ _ refl (λ h. refl) said.refused said.ok c.answer.ensures.answer tt
