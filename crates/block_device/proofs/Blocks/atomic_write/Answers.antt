-- One range takes all bytes.
use Rattle.std.proofs.Common.{◌∷◌, ◌+◌, ◌*◌, ◌/◌, [], length, refl, subst}
use Rattle.nvm_model.specs.Blocks.{write}
use Rattle.block_device.specs.Calls.{ChangesBlocks}
use Rattle.block_device.specs.Images.{IsEither}
use Rattle.block_device.specs.Refusals.{multiwrite_refusal}
use Rattle.block_device.proofs.CheckLemmas.{one_refusal}
use Rattle.block_device.proofs.WriteLemmas.{one_range}
use Rattle.block_device.proofs.Blocks.atomic_write.Goals as goal

pub returns : goal.returns
returns g c =
    let s = c.args.self.now in
    let t = c.atomic_multiwrite.new.self in
    let old = c.args.dev.now in
    let new = c.atomic_multiwrite.new.dev in
    let m = (g.L.Lines.state old).medium in
    let block = c.args.block in
    let bytes = c.args.bytes.now in
    let n = length bytes / 512 in
    record {
      changes =
          subst (λ why. ChangesBlocks g.L.Lines.state s t old new c.atomic_multiwrite.result why (write block bytes) IsEither (29 * n + 6) (10 * n + 3)) (one_refusal s m block (length bytes))
          (subst (λ to. ChangesBlocks g.L.Lines.state s t old new c.atomic_multiwrite.result (multiwrite_refusal s m (record { start = block; len = length bytes } ∷ [])) to IsEither (29 * n + 6) (10 * n + 3)) (λ i bs. one_range block (length bytes) bytes bs refl i)
          c.atomic_multiwrite.ensures.changes);
    }
