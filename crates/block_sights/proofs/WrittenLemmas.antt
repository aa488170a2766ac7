-- Blocks that are written or made something else, one by one.
use Rattle.std.proofs.Common.{◌≡◌, inl, inr, ℕ, zero, suc, ◌+◌, ◌-◌, ◌*◌, ◌/◌, ◌<◌, ◌≤◌, Bool, true, false, cond, Option, Some, None, List, [], ◌∷◌, take, drop, length, is_none, position, refl, sym, ap, ◌∙◌, arith}
use Rattle.std.specs.Prelude.{slice_index}
use Rattle.std.specs.List.{list_any, position_or_len}
use Rattle.std.proofs.lemmas.Bool.{cases_Bool, le-ltb}
use Rattle.std.proofs.lemmas.Bool.Decides.{nat_tests}
use Rattle.nvm_base.specs.declared.units.Span.{Span}
use Rattle.nvm_model.specs.Numbered.{is_among, list_from, map_from}
use Rattle.nvm_model.specs.Storage.{Block}
use Rattle.nvm_model.specs.Blocks.{nth, data_from, write, write_block, write_ranges, change, change_block}
use Rattle.nvm_model.proofs.NumberedLemmas.{length-list_from, length-map_from}
use Rattle.block_sights.specs.Sights.{sight, sight_of_lines, sight_written, sight_written_ranges, sight_made}
use Rattle.block_sights.specs.Sights.Sight.{Whole}
use Rattle.block_sights.proofs.ByteLemmas.{part_of_data}

-- each block
nth-map_from : (f : ℕ → Block → Block) (n : ℕ) (blocks : List Block) (b : ℕ) → b < length blocks → nth (map_from f n blocks) b ≡ f (n + b) (nth blocks b)
nth-map_from f n [] b there = absurd (omega arith)
nth-map_from f n (x ∷ xs) zero there = let e : n + 0 ≡ n = omega arith in rw e refl
nth-map_from f n (x ∷ xs) (suc b) there = let e : n + suc b ≡ suc n + b = omega arith in rw e (nth-map_from f (suc n) xs b (omega arith))

pub nth-write : (at : ℕ) (bytes : List ℕ) (blocks : List Block) (b : ℕ) → b < length blocks → nth (write at bytes blocks) b ≡ write_block at bytes b (nth blocks b)
unfolding write
nth-write at bytes blocks b there = let e : 0 + b ≡ b = omega arith in nth-map_from (write_block at bytes) 0 blocks b there ∙ ap (λ k. write_block at bytes k (nth blocks b)) e

length-write : (at : ℕ) (bytes : List ℕ) (blocks : List Block) → length (write at bytes blocks) ≡ length blocks
unfolding write
length-write at bytes blocks = length-map_from (write_block at bytes) 0 blocks

pub nth-change : (spans : List Span) (to : Block) (blocks : List Block) (b : ℕ) → b < length blocks → nth (change spans to blocks) b ≡ change_block spans to b (nth blocks b)
unfolding change
nth-change spans to blocks b there = let e : 0 + b ≡ b = omega arith in nth-map_from (change_block spans to) 0 blocks b there ∙ ap (λ k. change_block spans to k (nth blocks b)) e

-- lines that are all there
lines_there : (f : ℕ → List ℕ) (n count : ℕ) → position_or_len is_none (list_from (λ k. Some (f k)) n count) ≡ count
lines_there f n zero = refl
lines_there f n (suc count) = let rest = lines_there f (suc n) count in omega (arith, rest)

none_bad : (f : ℕ → List ℕ) (n count : ℕ) → position is_none (list_from (λ k. Some (f k)) n count) ≡ None
none_bad f n count =
    let lines : List (Option (List ℕ)) = list_from (λ k. Some (f k)) n count in
    let all = lines_there f n count in
    let size = length-list_from (λ k. Some (f k)) n count in
    ap (λ b. cond b (Some (position_or_len is_none lines)) None) (le-ltb (position_or_len is_none lines) (length lines) (omega (arith, all, size)))

data_seen : (bytes : List ℕ) (i : ℕ) → 512 * i + 512 ≤ length bytes → sight (data_from bytes i) ≡ Whole (take 512 (drop (512 * i) bytes))
data_seen bytes i there =
    let line : ℕ → List ℕ = λ n. list_from (λ k. slice_index bytes k) (64 * n) 64 in
    ap (sight_of_lines (list_from (λ n. Some (line n)) (8 * i) 8)) (none_bad line (8 * i) 8) ∙ ap Whole (sym (part_of_data bytes i there))

within : (at count b : ℕ) → is_among at count b ≡ true → b - at < count
within at count b among = grind (arith, nat_tests)

pub block_written : (at : ℕ) (bytes : List ℕ) (b : ℕ) (old : Block) → sight (write_block at bytes b old) ≡ sight_written at bytes b (sight old)
block_written at bytes b old =
    let piece : List ℕ = take 512 (drop (512 * (b - at)) bytes) in
    elim (cases_Bool (is_among at (length bytes / 512) b)) as (λ _. sight (write_block at bytes b old) ≡ sight_written at bytes b (sight old)) [
      | inl here ↦
          let inside = within at (length bytes / 512) b here in
          ap (λ t. sight (cond t (data_from bytes (b - at)) old)) here
          ∙ data_seen bytes (b - at) (omega (arith, inside))
          ∙ sym (ap (λ t. cond t (Whole piece) (sight old)) here)
      | inr out ↦ ap (λ t. sight (cond t (data_from bytes (b - at)) old)) out ∙ sym (ap (λ t. cond t (Whole piece) (sight old)) out)
    ]

pub written_seen : (at : ℕ) (bytes : List ℕ) (blocks : List Block) (b : ℕ) → b < length blocks → sight (nth (write at bytes blocks) b) ≡ sight_written at bytes b (sight (nth blocks b))
written_seen at bytes blocks b there = ap sight (nth-write at bytes blocks b there) ∙ block_written at bytes b (nth blocks b)

pub ranges_seen : (ranges : List Span) (bytes : List ℕ) (blocks : List Block) (b : ℕ) → b < length blocks
    → sight (nth (write_ranges ranges bytes blocks) b) ≡ sight_written_ranges ranges bytes b (sight (nth blocks b))
ranges_seen [] bytes blocks b there = refl
ranges_seen (range ∷ ranges) bytes blocks b there =
    let part : List ℕ = take range.len bytes in
    ranges_seen ranges (drop range.len bytes) (write range.start part blocks) b (omega (arith, there, length-write range.start part blocks))
    ∙ ap (sight_written_ranges ranges (drop range.len bytes) b) (written_seen range.start part blocks b there)

pub made_seen : (spans : List Span) (to : Block) (blocks : List Block) (b : ℕ) → b < length blocks
    → sight (nth (change spans to blocks) b) ≡ sight_made spans (sight to) b (sight (nth blocks b))
made_seen spans to blocks b there = ap sight (nth-change spans to blocks b there) ∙ by_test (list_any (λ (span : Span). is_among span.start span.len b) spans)
  where
    by_test : (t : Bool) → sight (cond t to (nth blocks b)) ≡ cond t (sight to) (sight (nth blocks b))
    by_test true = refl
    by_test false = refl
