use Rattle.std.proofs.Common.{◌≡◌, ℕ, ◌+◌, ◌-◌, ◌≤◌, List, length, take, drop, sym, length-take, arith}
use Rattle.std.proofs.lemmas.Grind.{common_steps}
use Rattle.std.proofs.lemmas.List.{drop-take}
use Rattle.script_text.proofs.piece.Piece.skip.Goals as goal

skipped : (items : List ℕ) (at n end : ℕ) → n ≤ length (take (end - at) (drop at items)) → take (end - (at + n)) (drop (at + n) items) ≡ drop n (take (end - at) (drop at items))
skipped items at n end within =
    let e : end - at ≡ n + (end - (at + n)) = omega (arith, length-take (end - at) (drop at items)) in
    let d : drop (at + n) items ≡ drop n (drop at items) = grind (arith, common_steps) in
    rw (e, d) (sym (drop-take n (end - (at + n)) (drop at items)))

pub returns : goal.returns
returns c =
    let within : c.args.n ≤ length (take (c.self.inside.end - c.self.inside.at) (drop c.self.inside.at c.self.inside.bytes.items)) = let r = c.requires in rw (← c.self.view_is) at r in
    rw (← c.self.view_is) (skipped c.self.inside.bytes.items c.self.inside.at c.args.n c.self.inside.end within)
