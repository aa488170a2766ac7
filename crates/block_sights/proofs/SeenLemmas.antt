-- Blocks that can be read, and their bytes.
use Rattle.std.proofs.Common.{◌≡◌, ℕ, ◌+◌, ◌*◌, ◌/◌, ◌%◌, ◌<◌, Option, Some, None, option_map, List, length, is_none, position, refl, sym, ap, ◌∙◌, arith}
use Rattle.std.specs.Prelude.{slice_index}
use Rattle.nvm_model.specs.Storage.{Block}
use Rattle.nvm_model.specs.Storage.Block.{Absent, Scarred, Data}
use Rattle.nvm_model.specs.Blocks.{block_byte, byte_of_blocks, look_blocks, nth, obstacle_in}
use Rattle.nvm_model.specs.Blocks.Obstacle.{bad_line}
use Rattle.nvm_model.proofs.NumberedLemmas.{length-list_from, list_from-same}
use Rattle.block_sights.specs.Sights.{bytes_by, sight, sight_of_lines}
use Rattle.block_sights.specs.Sights.Sight.{Whole}
use Rattle.block_sights.proofs.ByteLemmas.{bytes_by-at}

whole_bytes : (xs ys : List ℕ) → Whole xs ≡ Whole ys → xs ≡ ys
whole_bytes xs ys same = cc same

-- a block that nothing keeps from being read is seen whole
seen_whole : (b : ℕ) (block : Block) → obstacle_in b block ≡ None → sight block ≡ Whole (bytes_by (block_byte block))
seen_whole b Absent none = refl
seen_whole b Scarred none = cc none
seen_whole b (Data lines) none = by_line (position is_none lines) none
  where
    by_line : (o : Option ℕ) → option_map (bad_line b) o ≡ None → sight_of_lines lines o ≡ Whole (bytes_by (block_byte (Data lines)))
    by_line None same = refl
    by_line (Some k) same = cc same

-- and its bytes are those that a read is answered
read_bytes : (b : ℕ) (blocks : List Block) → bytes_by (block_byte (nth blocks b)) ≡ look_blocks blocks b 1
unfolding bytes_by look_blocks
read_bytes b blocks = list_from-same (block_byte (nth blocks b)) (byte_of_blocks blocks) 0 (512 * b) 512 each
  where
    each : (k : ℕ) → k < 512 → block_byte (nth blocks b) (0 + k) ≡ byte_of_blocks blocks (512 * b + k)
    each k lt =
        let number : b ≡ (512 * b + k) / 512 = omega (arith, lt) in
        let place : 0 + k ≡ (512 * b + k) % 512 = omega (arith, lt) in
        ap (λ n. block_byte (nth blocks n) (0 + k)) number ∙ ap (block_byte (nth blocks ((512 * b + k) / 512))) place

pub read_seen : (b : ℕ) (blocks : List Block) → obstacle_in b (nth blocks b) ≡ None → sight (nth blocks b) ≡ Whole (look_blocks blocks b 1)
read_seen b blocks none = seen_whole b (nth blocks b) none ∙ ap Whole (read_bytes b blocks)

-- the bytes that are seen
seen_by : (block : Block) (seen : List ℕ) → sight block ≡ Whole seen → seen ≡ bytes_by (block_byte block)
seen_by Absent seen is = whole_bytes _ _ (sym is)
seen_by Scarred seen is = cc is
seen_by (Data lines) seen is = by_line (position is_none lines) is
  where
    by_line : (o : Option ℕ) → sight_of_lines lines o ≡ Whole seen → seen ≡ bytes_by (block_byte (Data lines))
    by_line None same = whole_bytes _ _ (sym same)
    by_line (Some k) same = cc same

pub seen_bytes : (block : Block) (seen : List ℕ) (i : ℕ) → sight block ≡ Whole seen → i < 512 → block_byte block i ≡ slice_index seen i
seen_bytes block seen i is lt = sym (ap (λ xs. slice_index xs i) (seen_by block seen is) ∙ bytes_by-at (block_byte block) i lt)

bytes_size : (f : ℕ → ℕ) → length (bytes_by f) ≡ 512
unfolding bytes_by
bytes_size f = length-list_from f 0 512

pub seen_size : (block : Block) (seen : List ℕ) → sight block ≡ Whole seen → length seen ≡ 512
seen_size block seen is = ap length (seen_by block seen is) ∙ bytes_size (block_byte block)
