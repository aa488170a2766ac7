use Rattle.std.proofs.Common.{ℕ, length, replicate, sym, ap, ◌∙◌}
use Rattle.block_sights.specs.Sights.Sight.{Whole}
use Rattle.block_sights.proofs.ByteLemmas.{filled}
use Rattle.block_sights.proofs.block.HeldBlock.discard.Goals as goal

pub returns : goal.returns
returns c =
    let slice = c.as_mut_slice.ensures in
    ap Whole
    (filled c.self.inside.bytes.len c.fill.new.self c.self.inside.bytes.items c.self.invariant (ap length (sym slice.value) ∙ slice.len)
    (c.fill.ensures.after (λ y same. same) ∙ ap (λ n. replicate {A = ℕ} n 0) (ap length slice.value)))
