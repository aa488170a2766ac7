use Rattle.std.proofs.Common.{ℕ, Option, ◌+◌, ◌*◌, ◌/◌, length, nat_lt, refl, sym, subst, arith}
use Rattle.block_device.specs.Calls.{ChangesBlocks}
use Rattle.block_device.specs.Images.{IsEither}
use Rattle.block_device.specs.Refusals.{Refusal, bytes_refusal, meta_refusal, where_}
use Rattle.block_device.specs.Refusals.Refusal.{Limit}
use Rattle.nvm_model.specs.Blocks.{first_there, write}
use Rattle.script_text.specs.Action.Action.{BAtomic}
use Rattle.machine_host.proofs.BlockLemmas.{called, change_answered}
use Rattle.machine_model.proofs.RefusalLemmas.{first_assoc}
use Rattle.machine_host.proofs.host.Performer.batomic.Goals as goal

pub returns : goal.returns
returns g c =
    let r = c.atomic_write-call.result in
    let s = c.self.inside.blocks in
    let old = g.D.Lines.state c.args.device.now in
    let block = c.args.block in
    let bytes = c.args.bytes.now in
    let n : ℕ = length bytes / 512 in
    let places : ℕ → Option Refusal = λ blocks. first_there (bytes_refusal blocks block (length bytes)) (where_ (nat_lt 64 n) Limit) in
    let said = subst (λ why. ChangesBlocks g.D.Lines.state s c.atomic_write-call.new.self c.args.device.now c.atomic_write-call.new.dev r why (write block bytes) IsEither (29 * n + 6) (10 * n + 3))
    (sym (first_assoc (bytes_refusal s.geo.blocks block (length bytes)) (where_ (nat_lt 64 n) Limit) (meta_refusal s.geo old.medium))) c.atomic_write-call.ensures.changes in
    change_answered _ _ _ _ r _ _ _ _ c.self.view_is c.answer.ensures.state c.requires.on c.requires.serves (BAtomic block bytes) (λ h. omega arith) (λ h. omega arith)
    (called g.D.Lines.state _ _ _ _ r (places s.geo.blocks) _ _ _ _ said)
    _ places _ _ _ _ refl (λ h. refl) said.refused said.ok c.answer.ensures.answer tt
