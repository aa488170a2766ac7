-- Lists whose items are changed by number.
use Rattle.std.specs.Prelude.{◌≡◌, ◌⊎◌, ◌+◌, ◌&&◌, ℕ, zero, suc, Bool, List, [], ◌∷◌, length, nat_le, nat_lt, slice_get}

-- each item changed by f, which is told its number, from n upward
abbrev pub map_from : {A B : Type 0} → (ℕ → A → B) → ℕ → List A → List B
map_from f n [] = []
map_from f n (x ∷ xs) = f n x ∷ map_from f (suc n) xs

-- f of so many numbers, from n upward
abbrev pub list_from : {A : Type 0} → (ℕ → A) → ℕ → ℕ → List A
list_from f n zero = []
list_from f n (suc count) = f n ∷ list_from f (suc n) count

-- i is one of so many numbers
abbrev pub is_among : ℕ → ℕ → ℕ → Bool
is_among start count i = nat_le start i && nat_lt i (start + count)

-- each item is that of the one list, or of the other
pub record AreMixed (A : Type 0) (one other mixed : List A) : Type 0 where
  pub length : length mixed ≡ length one
  pub each : (i : ℕ) → (slice_get mixed i ≡ slice_get one i) ⊎ (slice_get mixed i ≡ slice_get other i)
