-- Bytes taken from the front of a list.
use Rattle.std.proofs.Common.{◌≡◌, ℕ, ◌+◌, ◌<◌, ◌≤◌, List, [], ◌++◌, length, take, drop, min, sym, ap, arith, length-append, length-drop, length-take}
use Rattle.std.proofs.lemmas.List.{take-append-drop}
use Rattle.std.proofs.lemmas.Grind.{common_steps}
use Rattle.std.proofs.Math.ListN.{drop_of_length-le}

-- what a call gives, and then what is left
pub given : (items buf out : List ℕ) (at n : ℕ) → out ≡ take n (drop at items) → n ≤ length (drop at items) → drop at items ≡ take n (out ++ drop n buf) ++ drop (at + n) items
given items buf out at n e h =
    let front : take n (out ++ drop n buf) ≡ take n (drop at items) = rw e (grind (arith, common_steps)) in
    let back : drop (at + n) items ≡ drop n (drop at items) = grind (arith, common_steps) in
    rw (front, back) (sym (take-append-drop n (drop at items)))

-- a call gives nothing only where nothing is left, or no room
pub ended : (items buf out : List ℕ) (at n piece : ℕ) → n ≡ min (min piece (length buf)) (length (drop at items)) → 1 ≤ piece → n ≡ 0 → 0 < length (out ++ drop n buf) → out ≡ take n (drop at items) → drop (at + n) items ≡ []
ended items buf out at n piece e some none room o =
    let l = ap length o in
    drop_of_length-le items (omega (arith, length-append out (drop n buf), length-drop n buf, length-drop at items, length-take n (drop at items)))
