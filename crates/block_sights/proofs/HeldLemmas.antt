-- What kept blocks stand for, after the steps of a change.
use Rattle.std.proofs.Common.{◌≡◌, ℕ, ◌+◌, ◌-◌, ◌*◌, ◌/◌, Bool, true, cond, List, take, drop, length, sym, ap, ◌∙◌, arith}
use Rattle.nvm_model.specs.Numbered.{is_among}
use Rattle.block_sights.specs.Sights.{Sight, sight_written}
use Rattle.block_sights.specs.Sights.Sight.{Whole}

-- a block that is given its part of the bytes
pub given_part : (at : ℕ) (bytes : List ℕ) (b : ℕ) (among : Bool) (old new : Sight) → among ≡ true → among ≡ is_among at (length bytes / 512) b
    → new ≡ Whole (take (512 * (b - at) + 512 - 512 * (b - at)) (drop (512 * (b - at)) bytes)) → new ≡ sight_written at bytes b old
given_part at bytes b among old new true_ test is =
    let piece : List ℕ = drop (512 * (b - at)) bytes in
    let size : 512 * (b - at) + 512 - 512 * (b - at) ≡ 512 = omega arith in
    is ∙ ap (λ n. Whole (take n piece)) size ∙ sym (ap (λ t. cond t (Whole (take 512 piece)) old) (sym test ∙ true_))
