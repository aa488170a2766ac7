use Rattle.std.proofs.Common.{◌≡◌, ℕ, ◌+◌, ◌*◌, ◌/◌, ◌%◌, ◌^◌, sym, ◌∙◌, ap, arith}
use Rattle.std.proofs.Math.Nat.{add-mul-mod_self_right, mod-add-div'}
use Rattle.std.proofs.lemmas.Nat.{mul-mod_first}
use Rattle.line_module.specs.Survivors.{drawn}
use Rattle.line_module.proofs.survivors.drawn.Goals as goal

add-mod_first : (x b w : ℕ) → (x % w + b) % w ≡ (x + b) % w
add-mod_first x b w =
    let whole : x % w + b + x / w * w ≡ x + b = omega (arith, mod-add-div' x w) in
    sym (add-mul-mod_self_right (x % w + b) (x / w) w) ∙ ap (λ n. n % w) whole

wrapped : (a m b w : ℕ) → (a % w * m % w + b) % w ≡ (a * m + b) % w
wrapped a m b w = ap (λ n. (n + b) % w) (mul-mod_first a m w) ∙ add-mod_first (a * m) b w

pub returns : goal.returns
unfolding drawn
returns c = ap (λ n. n / 2 ^ 33) (wrapped (c.args.seed + c.args.place) 6364136223846793005 1442695040888963407 (2 ^ 64))
