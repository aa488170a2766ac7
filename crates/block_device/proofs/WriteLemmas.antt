-- Bytes written to blocks that follow each other.
use Rattle.std.proofs.Common.{◌≡◌, ◌⊎◌, inl, inr, ℕ, zero, suc, true, false, ◌+◌, ◌-◌, ◌*◌, ◌/◌, ◌<◌, ◌≤◌, List, [], ◌∷◌, Some, if◌then◌else◌, length, get_or, get_or-take, get_or-drop, set, take, drop, length-drop, refl, sym, ◌∙◌, ap, ap₂, arith}
use Rattle.std.proofs.lemmas.List.{length-take-le, take_all}
use Rattle.std.proofs.lemmas.Bool.{cases_Bool}
use Rattle.std.proofs.lemmas.Bool.Decides.{nat_tests}
use Rattle.nvm_model.specs.Numbered.{is_among, list_from, map_from}
use Rattle.nvm_model.specs.Storage.{Block}
use Rattle.nvm_model.specs.Storage.Block.{Data}
use Rattle.nvm_model.specs.Blocks.{data_from, write, write_block, write_ranges}
use Rattle.block_device.proofs.ByteLemmas.{list_from-shift}
use Rattle.block_device.proofs.PartLemmas.{given, given_block, given-next, map_from-pointwise}

is_among-in : (at count i : ℕ) → at ≤ i → i < at + count → is_among at count i ≡ true
is_among-in at count i from to = grind (arith, nat_tests)

is_among-out : (at count i : ℕ) → (i < at) ⊎ (at + count ≤ i) → is_among at count i ≡ false
is_among-out at count i out = grind (arith, nat_tests)

-- the blocks of bytes that are written from a block on, by number
abbrev pub blocks_in : ℕ → List ℕ → ℕ → Block
blocks_in at bytes i = data_from bytes (i - at)

-- the first of them written
abbrev pub written : ℕ → ℕ → List ℕ → List Block → List Block
written at count bytes blocks = given (blocks_in at bytes) at count blocks

map_from-past : {A : Type 0} (f : ℕ → A → A) (n : ℕ) (xs : List A) → ((i : ℕ) (x : A) → n ≤ i → f i x ≡ x) → map_from f n xs ≡ xs
map_from-past f n [] same = refl
map_from-past f n (x ∷ xs) same = ap₂ ◌∷◌ (same n x (omega arith)) (map_from-past f (suc n) xs (λ i y from. same i y (omega arith)))

-- one block written is one item set
write_one_from : (bytes : List ℕ) (count at n k : ℕ) (xs : List Block) → count ≡ 1 → at ≡ n + k → k < length xs → map_from (given_block (blocks_in at bytes) at count) n xs ≡ set xs k (data_from bytes 0)
write_one_from bytes count at n k [] one is there = absurd (omega arith)
write_one_from bytes count at n zero (x ∷ xs) one is there =
    let here : n - at ≡ 0 = omega arith in
    ap₂ ◌∷◌ (ap (λ b. if b then data_from bytes (n - at) else x) (is_among-in at count n (omega arith) (omega arith)) ∙ ap (data_from bytes) here)
    (map_from-past (given_block (blocks_in at bytes) at count) (suc n) xs
    (λ i y from. ap (λ b. if b then data_from bytes (i - at) else y) (is_among-out at count i (inr (omega arith)))))
write_one_from bytes count at n (suc k) (x ∷ xs) one is there =
    ap₂ ◌∷◌ (ap (λ b. if b then data_from bytes (n - at) else x) (is_among-out at count n (inl (omega arith)))) (write_one_from bytes count at (suc n) k xs one (omega arith) (omega arith))

pub write_one : (bytes : List ℕ) (k : ℕ) (xs : List Block) → length bytes ≡ 512 → k < length xs → write k bytes xs ≡ set xs k (data_from bytes 0)
unfolding write
write_one bytes k xs whole there = write_one_from bytes (length bytes / 512) k 0 k xs (omega arith) (omega arith) there

-- a piece of 512 bytes is one block of all
data_from-piece : (bytes piece : List ℕ) (k : ℕ) → piece ≡ take 512 (drop (512 * k) bytes) → data_from piece 0 ≡ data_from bytes k
data_from-piece bytes piece k is =
    ap Data
    (list_from-shift (λ n. Some (list_from (λ i. get_or piece i 0) (64 * n) 64)) (λ n. Some (list_from (λ i. get_or bytes i 0) (64 * n) 64)) (8 * 0) (8 * k) 8
    (λ j less. ap Some
    (list_from-shift (λ i. get_or piece i 0) (λ i. get_or bytes i 0) (64 * (8 * 0 + j)) (64 * (8 * k + j)) 64 (λ i lt. inside j i less lt))))
  where
    inside : (j i : ℕ) → j < 8 → i < 64 → get_or piece (64 * (8 * 0 + j) + i) 0 ≡ get_or bytes (64 * (8 * k + j) + i) 0
    inside j i less lt =
        let at : ℕ = 64 * (8 * 0 + j) + i in
        let same : 512 * k + at ≡ 64 * (8 * k + j) + i = omega arith in
        ap (λ xs. get_or xs at 0) is ∙ get_or-take 512 (drop (512 * k) bytes) at 0 (omega arith) ∙ get_or-drop (512 * k) bytes at 0 ∙ ap (λ q. get_or bytes q 0) same

pub written-all : (at count : ℕ) (bytes : List ℕ) (blocks : List Block) → count ≡ length bytes / 512 → written at count bytes blocks ≡ write at bytes blocks
unfolding given write
written-all at count bytes blocks all = ap (λ n. map_from (given_block (blocks_in at bytes) at n) 0 blocks) all

-- a piece is one block of all
write_piece : (at k : ℕ) (bytes piece : List ℕ) (blocks : List Block) → length piece ≡ 512 → piece ≡ take 512 (drop (512 * k) bytes) → write (at + k) piece blocks ≡ given (blocks_in at bytes) (at + k) 1 blocks
unfolding given write
write_piece at k bytes piece blocks whole is =
    map_from-pointwise (write_block (at + k) piece) (given_block (blocks_in at bytes) (at + k) 1) 0 blocks each
  where
    one : length piece / 512 ≡ 1
    one = omega arith

    only : (i : ℕ) → is_among (at + k) 1 i ≡ true → i ≡ at + k
    only i among = grind (arith, nat_tests)

    each : (i : ℕ) (x : Block) → write_block (at + k) piece i x ≡ given_block (blocks_in at bytes) (at + k) 1 i x
    each i x =
        ap (λ n. if is_among (at + k) n i then data_from piece (i - (at + k)) else x) one
        ∙ elim (cases_Bool (is_among (at + k) 1 i)) as (λ _. given_block (blocks_in (at + k) piece) (at + k) 1 i x ≡ given_block (blocks_in at bytes) (at + k) 1 i x) [
          | inl here ↦
              let is_here : i ≡ at + k = only i here in
              let first : i - (at + k) ≡ 0 = omega arith in
              let number : k ≡ i - at = omega arith in
              ap (λ (y : Block). if is_among (at + k) 1 i then y else x) (ap (data_from piece) first ∙ data_from-piece bytes piece k is ∙ ap (data_from bytes) number)
          | inr out ↦ ap (λ b. if b then data_from piece (i - (at + k)) else x) out ∙ ap (λ b. if b then data_from bytes (i - at) else x) (sym out)
        ]

-- the piece of a block, as code takes it
pub piece_is : (bytes : List ℕ) (k : ℕ) → take (512 * k + 512 - 512 * k) (drop (512 * k) bytes) ≡ take 512 (drop (512 * k) bytes)
piece_is bytes k = let size : 512 * k + 512 - 512 * k ≡ 512 = omega arith in ap (λ n. take n (drop (512 * k) bytes)) size

pub piece_whole : (bytes piece : List ℕ) (k : ℕ) → k < length bytes / 512 → piece ≡ take 512 (drop (512 * k) bytes) → length piece ≡ 512
piece_whole bytes piece k less is =
    ap length is ∙ length-take-le 512 (drop (512 * k) bytes) (let rest = length-drop (512 * k) bytes in omega (arith, rest))

pub step_written : (at k : ℕ) (bytes piece : List ℕ) (old : List Block) → k < length bytes / 512 → piece ≡ take 512 (drop (512 * k) bytes) → write (at + k) piece old ≡ given (blocks_in at bytes) (at + k) 1 old
step_written at k bytes piece old less is = write_piece at k bytes piece old (piece_whole bytes piece k less is) is

pub so_far : (at k : ℕ) (bytes piece : List ℕ) (old now new : List Block) → k < length bytes / 512 → piece ≡ take 512 (drop (512 * k) bytes) → now ≡ written at k bytes old → new ≡ write (at + k) piece now → new ≡ written at (k + 1) bytes old
so_far at k bytes piece old now new less is before step =
    step ∙ step_written at k bytes piece now less is ∙ ap (given (blocks_in at bytes) (at + k) 1) before ∙ given-next (blocks_in at bytes) at k old

-- one range takes all bytes
pub one_range : (start len : ℕ) (bytes : List ℕ) (blocks : List Block) → length bytes ≡ len → write_ranges (record { start = start; len = len } ∷ []) bytes blocks ≡ write start bytes blocks
one_range start len bytes blocks all = ap (λ bs. write start bs blocks) (take_all len bytes (omega arith))

-- a piece as a range, as code takes it
pub piece_step : (at k : ℕ) (bytes : List ℕ) (now : List Block) → k < length bytes / 512 → write_ranges (record { start = at + k; len = 512 } ∷ []) (take (512 * k + 512 - 512 * k) (drop (512 * k) bytes)) now ≡ given (blocks_in at bytes) (at + k) 1 now
piece_step at k bytes now less =
    ap (λ bs. write_ranges (record { start = at + k; len = 512 } ∷ []) bs now) (piece_is bytes k)
    ∙ one_range (at + k) 512 (take 512 (drop (512 * k) bytes)) now (piece_whole bytes (take 512 (drop (512 * k) bytes)) k less refl)
    ∙ step_written at k bytes (take 512 (drop (512 * k) bytes)) now less refl
