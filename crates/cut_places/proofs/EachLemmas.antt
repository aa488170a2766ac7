-- Each item of a list changed, one after the other.
use Rattle.std.proofs.Common.{◌≡◌, ◌<◌, ◌+◌, ◌++◌, ◌∙◌, ℕ, List, ap, sym, length, map, take, drop, get_or, slice_set}
use Rattle.std.proofs.lemmas.List.Edits.{map_over_more}

pub one_more : {X : Type 0} (f : X → X) (xs ys : List X) (i : ℕ) (x y : X) → i < length xs → ys ≡ map f (take i xs) ++ drop i xs → x ≡ get_or ys i x → y ≡ f (get_or ys i x)
    → slice_set ys i y ≡ map f (take (i + 1) xs) ++ drop (i + 1) xs
one_more f xs ys i x y below so is e = ap (slice_set ys i) (e ∙ ap f (sym is)) ∙ map_over_more f xs ys i x below so is
