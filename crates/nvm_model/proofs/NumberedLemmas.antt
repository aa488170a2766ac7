-- Lists made by number.
use Rattle.std.proofs.Common.{◌≡◌, ℕ, zero, suc, ◌+◌, ◌<◌, Some, option_map, slice_get, List, [], ◌∷◌, ◌++◌, length, get_or, refl, sym, ap, ◌∙◌, arith}
use Rattle.nvm_model.specs.Numbered.{list_from, map_from}

pub length-list_from : {A : Type 0} (f : ℕ → A) (n count : ℕ) → length (list_from f n count) ≡ count
length-list_from f n zero = refl
length-list_from f n (suc count) = ap suc (length-list_from f (suc n) count)

-- a stretch and the one after it
pub list_from-append : (f : ℕ → ℕ) (n a b : ℕ) → list_from f n (a + b) ≡ list_from f n a ++ list_from f (n + a) b
list_from-append f n zero b =
    let e1 : zero + b ≡ b = omega arith in let e2 : n + zero ≡ n = omega arith in rw (e1, e2) refl
list_from-append f n (suc a) b =
    let e1 : suc a + b ≡ suc (a + b) = omega arith in
    let e2 : n + suc a ≡ suc n + a = omega arith in
    rw (e1, e2) (ap (λ xs. f n ∷ xs) (list_from-append f (suc n) a b))

-- a list whose items are those numbers
pub list_from-is : (f : ℕ → ℕ) (n : ℕ) (xs : List ℕ) → ((k : ℕ) → k < length xs → get_or xs k 0 ≡ f (n + k)) → xs ≡ list_from f n (length xs)
list_from-is f n [] h = refl
list_from-is f n (x ∷ xs) h =
    let e : n + 0 ≡ n = omega arith in
    let head : x ≡ f n = h 0 (omega arith) ∙ ap f e in
    let rest : (k : ℕ) → k < length xs → get_or xs k 0 ≡ f (suc n + k) =
    λ k lt. let e2 : n + suc k ≡ suc n + k = omega arith in h (suc k) (omega arith) ∙ ap f e2 in
    rw head (ap (λ ys. f n ∷ ys) (list_from-is f (suc n) xs rest))

-- the same numbers from another place on
pub list_from-same : (f g : ℕ → ℕ) (a b count : ℕ) → ((k : ℕ) → k < count → f (a + k) ≡ g (b + k)) → list_from f a count ≡ list_from g b count
list_from-same f g a b zero h = refl
list_from-same f g a b (suc count) h =
    let e : a + 0 ≡ a = omega arith in
    let e2 : b + 0 ≡ b = omega arith in
    let head : f a ≡ g b = sym (ap f e) ∙ h 0 (omega arith) ∙ ap g e2 in
    let rest : (k : ℕ) → k < count → f (suc a + k) ≡ g (suc b + k) =
    λ k lt. let e3 : suc a + k ≡ a + suc k = omega arith in let e4 : b + suc k ≡ suc b + k = omega arith in
    ap f e3 ∙ h (suc k) (omega arith) ∙ ap g e4 in
    rw head (ap (λ xs. g b ∷ xs) (list_from-same f g (suc a) (suc b) count rest))

-- the item of a number
pub slice_get-map_from : {A B : Type 0} (f : ℕ → A → B) (n : ℕ) (xs : List A) (i : ℕ)
    → slice_get (map_from f n xs) i ≡ option_map (f (n + i)) (slice_get xs i)
slice_get-map_from f n [] i = refl
slice_get-map_from f n (x ∷ xs) zero = let e : n + 0 ≡ n = omega arith in rw e refl
slice_get-map_from f n (x ∷ xs) (suc i) =
    let e : n + suc i ≡ suc n + i = omega arith in rw e (slice_get-map_from f (suc n) xs i)

pub slice_get-list_from : {A : Type 0} (f : ℕ → A) (n count i : ℕ) → i < count → slice_get (list_from f n count) i ≡ Some (f (n + i))
slice_get-list_from f n zero i lt = absurd (omega arith)
slice_get-list_from f n (suc count) zero lt = let e : n + 0 ≡ n = omega arith in rw e refl
slice_get-list_from f n (suc count) (suc i) lt =
    let e : n + suc i ≡ suc n + i = omega arith in rw e (slice_get-list_from f (suc n) count i (omega arith))

pub length-map_from : {A B : Type 0} (f : ℕ → A → B) (n : ℕ) (xs : List A) → length (map_from f n xs) ≡ length xs
length-map_from f n [] = refl
length-map_from f n (x ∷ xs) = ap suc (length-map_from f (suc n) xs)
