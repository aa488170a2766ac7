-- Bytes that are written piece by piece.
use Rattle.std.proofs.Common.{◌≡◌, ℕ, ◌+◌, ◌-◌, ◌≤◌, List, ◌++◌, length, take, drop, Option, Some, None, sym, ap, ◌∙◌, arith, append_assoc}
use Rattle.std.proofs.lemmas.Grind.{common_steps}
use Rattle.std.proofs.Math.Seq.{take-add}
use Rattle.std.specs.Io.KnownBytes.{Appends}

pieces : (bytes : List ℕ) (at n : ℕ) → n ≤ length (take (length bytes - at) (drop at bytes)) → take at bytes ++ take n (take (length bytes - at) (drop at bytes)) ≡ take (at + n) bytes
pieces bytes at n h =
    let tail : take (length bytes - at) (drop at bytes) ≡ drop at bytes = grind (arith, common_steps) in
    rw tail (sym (take-add at n bytes))

-- one more piece
pub Appends-more : (a b c : Option (List ℕ)) (bytes : List ℕ) (at n : ℕ) → n ≤ length (take (length bytes - at) (drop at bytes)) → Appends a b (take at bytes) → Appends b c (take n (take (length bytes - at) (drop at bytes))) → Appends a c (take (at + n) bytes)
Appends-more None b c bytes at n h p q = tt
Appends-more (Some xs) None c bytes at n h p q = absurd p
Appends-more (Some xs) (Some ys) None bytes at n h p q = absurd q
Appends-more (Some xs) (Some ys) (Some zs) bytes at n h p q =
    let next = take n (take (length bytes - at) (drop at bytes)) in
    q ∙ ap (λ l. l ++ next) p ∙ append_assoc xs (take at bytes) next ∙ ap (λ l. xs ++ l) (pieces bytes at n h)
