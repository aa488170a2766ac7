-- Lists that are mapped, item by item.
use Rattle.std.proofs.Common.{◌≡◌, ◌+◌, ◌<◌, ℕ, zero, suc, List, [], ◌∷◌, ◌++◌, drop, get_or, length, map, take, refl, sym, ap, ap₂, ◌∙◌, arith}
use Rattle.std.proofs.lemmas.List.{map-append}
pub use Rattle.outcome_walk.proofs.WalkLemmas.{suc_is}

-- the first ones, and those behind them
pub map_take : {A B : Type 0} (f : A → B) (n : ℕ) (xs : List A) → map f (take n xs) ≡ take n (map f xs)
map_take f zero xs = refl
map_take f (suc n) [] = refl
map_take f (suc n) (x ∷ xs) = ap (λ ys. f x ∷ ys) (map_take f n xs)

pub map_drop : {A B : Type 0} (f : A → B) (n : ℕ) (xs : List A) → map f (drop n xs) ≡ drop n (map f xs)
map_drop f zero xs = refl
map_drop f (suc n) [] = refl
map_drop f (suc n) (x ∷ xs) = map_drop f n xs

-- one item more of a list that is mapped
pub mapped_next : {A B : Type 0} (f : A → B) (xs : List A) (i : ℕ) (x : A) → i < length xs → x ≡ get_or xs i x → map f (take (i + 1) xs) ≡ map f (take i xs) ++ f x ∷ []
mapped_next f [] i x lt is = absurd (omega (arith, lt))
mapped_next f (y ∷ ys) zero x lt is = ap (λ y. f y ∷ []) (sym is)
mapped_next f (y ∷ ys) (suc i) x lt is =
    ap (λ n. map f (take n (y ∷ ys))) (sym (suc_is (suc i))) ∙ ap (λ zs. f y ∷ map f (take zs ys)) (suc_is i) ∙ ap (λ zs. f y ∷ zs) (mapped_next f ys i x (omega (arith, lt)) is)

-- and of what is held of them
pub held_next : {A B C D : Type 0} (held : A → D) (of : B → C) (f : C → D) (xs : List B) (i : ℕ) (x : B) → i < length xs → x ≡ get_or xs i x → (old new : List A) (y : A)
    → new ≡ old ++ y ∷ []
    → map held old ≡ map f (map of (take i xs)) → held y ≡ f (of x) → map held new ≡ map f (map of (take (i + 1) xs))
held_next held of f xs i x lt is old new y more were same =
    ap (map held) more ∙ map-append held old (y ∷ []) ∙ ap₂ (λ ds d. ds ++ d ∷ []) were same
    ∙ sym (ap (map f) (mapped_next of xs i x lt is) ∙ map-append f (map of (take i xs)) (of x ∷ []))
