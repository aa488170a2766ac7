-- Blocks that are given to some numbers, one after the other.
use Rattle.std.proofs.Common.{◌≡◌, ◌⊎◌, inl, inr, ℕ, zero, suc, true, false, ◌||◌, ◌+◌, ◌≤◌, List, [], ◌∷◌, if◌then◌else◌, get_or, refl, sym, ◌∙◌, ap, ap₂, arith}
use Rattle.std.proofs.lemmas.Bool.{cases_Bool}
use Rattle.std.proofs.lemmas.Bool.Decides.{nat_tests}
use Rattle.nvm_model.specs.Numbered.{is_among, map_from}
use Rattle.nvm_model.specs.Storage.{Block}
use Rattle.nvm_model.specs.Storage.Block.{Absent}
use Rattle.nvm_model.specs.Blocks.{IsMixed, change, change_block}
use Rattle.nvm_model.proofs.NumberedLemmas.{length-map_from}

-- so many numbers from one on get the block of their number
abbrev pub given_block : (ℕ → Block) → ℕ → ℕ → ℕ → Block → Block
given_block to at count i old = if is_among at count i then to i else old

unfoldable pub given : (ℕ → Block) → ℕ → ℕ → List Block → List Block
given to at count blocks = map_from (given_block to at count) 0 blocks

-- functions that agree on each block
pub map_from-pointwise : {A : Type 0} (f g : ℕ → A → A) (n : ℕ) (xs : List A) → ((i : ℕ) (x : A) → f i x ≡ g i x) → map_from f n xs ≡ map_from g n xs
map_from-pointwise f g n [] same = refl
map_from-pointwise f g n (x ∷ xs) same = ap₂ ◌∷◌ (same n x) (map_from-pointwise f g (suc n) xs same)

map_from-kept : {A : Type 0} (f : ℕ → A → A) (n : ℕ) (xs : List A) → ((i : ℕ) (x : A) → f i x ≡ x) → map_from f n xs ≡ xs
map_from-kept f n [] same = refl
map_from-kept f n (x ∷ xs) same = ap₂ ◌∷◌ (same n x) (map_from-kept f (suc n) xs same)

map_from-after : {A : Type 0} (f g h : ℕ → A → A) (n : ℕ) (xs : List A) → ((i : ℕ) (x : A) → g i (f i x) ≡ h i x) → map_from g n (map_from f n xs) ≡ map_from h n xs
map_from-after f g h n [] same = refl
map_from-after f g h n (x ∷ xs) same = ap₂ ◌∷◌ (same n x) (map_from-after f g h (suc n) xs same)

-- each block of a part is as before, or as in the end
mixed_from : (f g : ℕ → Block → Block) (n : ℕ) (xs : List Block) (i : ℕ) → ((j : ℕ) (x : Block) → (f j x ≡ x) ⊎ (f j x ≡ g j x)) → (get_or (map_from f n xs) i Absent ≡ get_or xs i Absent) ⊎ (get_or (map_from f n xs) i Absent ≡ get_or (map_from g n xs) i Absent)
mixed_from f g n [] i each = inl refl
mixed_from f g n (x ∷ xs) zero each = each n x
mixed_from f g n (x ∷ xs) (suc i) each = mixed_from f g (suc n) xs i each

is_among-none : (at i : ℕ) → is_among at 0 i ≡ false
is_among-none at i = grind (arith, nat_tests)

is_among-wider : (at k all i : ℕ) → k ≤ all → is_among at k i ≡ true → is_among at all i ≡ true
is_among-wider at k all i few among = grind (arith, nat_tests)

is_among-next : (at k i : ℕ) → is_among (at + k) 1 i ≡ true → is_among at (k + 1) i ≡ true
is_among-next at k i among = grind (arith, nat_tests)

is_among-before : (at k i : ℕ) → is_among (at + k) 1 i ≡ false → is_among at (k + 1) i ≡ is_among at k i
is_among-before at k i out = grind (arith, nat_tests)

module _ (to : ℕ → Block) (at : ℕ) where
  pub given-none : (blocks : List Block) → given to at 0 blocks ≡ blocks
  unfolding given
  given-none blocks = map_from-kept (given_block to at 0) 0 blocks (λ i x. ap (λ b. if b then to i else x) (is_among-none at i))

  pub given-next : (k : ℕ) (blocks : List Block) → given to (at + k) 1 (given to at k blocks) ≡ given to at (k + 1) blocks
  unfolding given
  given-next k blocks =
      map_from-after (given_block to at k) (given_block to (at + k) 1) (given_block to at (k + 1)) 0 blocks
      (λ i x. elim (cases_Bool (is_among (at + k) 1 i)) as (λ _. given_block to (at + k) 1 i (given_block to at k i x) ≡ given_block to at (k + 1) i x) [
        | inl here ↦ ap (λ b. if b then to i else given_block to at k i x) here ∙ ap (λ b. if b then to i else x) (sym (is_among-next at k i here))
        | inr out ↦ ap (λ b. if b then to i else given_block to at k i x) out ∙ ap (λ b. if b then to i else x) (sym (is_among-before at k i out))
      ])

  pub given-mixed : (k all : ℕ) (blocks : List Block) → k ≤ all → IsMixed blocks (given to at all blocks) (given to at k blocks)
  unfolding given
  given-mixed k all blocks few = record {
    length = length-map_from (given_block to at k) 0 blocks;
    each = λ i. mixed_from (given_block to at k) (given_block to at all) 0 blocks i
        (λ j x. elim (cases_Bool (is_among at k j)) as (λ _. (given_block to at k j x ≡ x) ⊎ (given_block to at k j x ≡ given_block to at all j x)) [
          | inl among ↦ inr (ap (λ b. if b then to j else x) among ∙ ap (λ b. if b then to j else x) (sym (is_among-wider at k all j few among)))
          | inr out ↦ inl (ap (λ b. if b then to j else x) out)
        ]);
  }

-- a span that changes to one block
pub change-given : (start len : ℕ) (to : Block) (blocks : List Block) → change (record { start = start; len = len } ∷ []) to blocks ≡ given (λ _. to) start len blocks
unfolding change given
change-given start len to blocks =
    map_from-pointwise (change_block (record { start = start; len = len } ∷ []) to) (given_block (λ _. to) start len) 0 blocks
    (λ i x. ap (λ b. if b then to else x) (alone (is_among start len i)))
  where
    alone : (b : _) → (b || false) ≡ b
    alone true = refl
    alone false = refl

pub change-step : (at k block : ℕ) (to : Block) (blocks : List Block) → block ≡ at + k → change (record { start = block; len = 1 } ∷ []) to blocks ≡ given (λ _. to) (at + k) 1 blocks
change-step at k block to blocks same = change-given block 1 to blocks ∙ ap (λ n. given (λ _. to) n 1 blocks) same
