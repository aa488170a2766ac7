-- The lowest bad line of a block, where a media error took another one.
use Rattle.std.proofs.Common.{◌≡◌, inl, inr, ℕ, zero, suc, ◌+◌, ◌<◌, ◌==◌, cond, min, Option, Some, None, List, [], ◌∷◌, length, nat_lt, is_none, if◌then◌else◌, position, sym, ap, ◌∙◌, arith}
use Rattle.std.specs.List.{position_or_len}
use Rattle.std.proofs.lemmas.Bool.{cases_Bool, cases_eq, eq-eqb, ne_eqb, lt-ltb, ltb-false}
use Rattle.nvm_model.specs.Numbered.{map_from}
use Rattle.nvm_model.specs.Storage.{Block}
use Rattle.nvm_model.specs.Storage.Block.{Data}
use Rattle.nvm_model.specs.Blocks.{nth, lose, lose_at, lose_line, lose_line_of}
use Rattle.nvm_model.proofs.NumberedLemmas.{length-map_from}
use Rattle.nvm_model.proofs.LostLemmas.{nth-lose}
use Rattle.block_sights.specs.Sights.{sight, sight_of_lines, lose_sight, sight_lost}
use Rattle.block_sights.specs.Sights.Sight.{BadLine}

-- how many lines from the first on are good
first_lost : (lines : List (Option (List ℕ))) (n m line : ℕ) → m ≡ n + line → line < length lines
    → position_or_len is_none (map_from (λ k bytes. if k == m then None else bytes) n lines) ≡ min line (position_or_len is_none lines)
first_lost [] n m line at there = absurd (omega arith)
first_lost (x ∷ xs) n m zero at there =
    let rest = map_from (λ k bytes. if k == m then None else bytes) (suc n) xs in
    ap (λ b. position_or_len is_none ((if b then None else x) ∷ rest)) (eq-eqb n m (omega arith)) ∙ omega arith
first_lost (None ∷ xs) n m (suc line) at there =
    let rest = map_from (λ k bytes. if k == m then None else bytes) (suc n) xs in
    ap (λ b. position_or_len is_none ((if b then None else None) ∷ rest)) (ne_eqb n m (λ same. omega (arith, same))) ∙ omega arith
first_lost (Some line_bytes ∷ xs) n m (suc line) at there =
    let rest = map_from (λ k bytes. if k == m then None else bytes) (suc n) xs in
    let before = first_lost xs (suc n) m line (omega arith) (omega arith) in
    ap (λ b. position_or_len is_none ((if b then None else Some line_bytes) ∷ rest)) (ne_eqb n m (λ same. omega (arith, same))) ∙ omega (arith, before)

-- the lines of a block
pub lines_lost : (line : ℕ) (lines : List (Option (List ℕ))) → line < length lines → sight (Data (lose_at line lines)) ≡ lose_sight line (sight (Data lines))
lines_lost line lines there =
    let old = position_or_len is_none lines in
    let all = lose_at line lines in
    let size : length all ≡ length lines = length-map_from (λ k bytes. if k == line then None else bytes) 0 lines in
    let lowest : position_or_len is_none all ≡ min line old = first_lost lines 0 line line (omega arith) there in
    ap (λ b. sight_of_lines all (cond b (Some (position_or_len is_none all)) None)) (lt-ltb (position_or_len is_none all) (length all) (omega (arith, there, size, lowest)))
    ∙ ap BadLine lowest
    ∙ elim (cases_Bool (nat_lt old (length lines))) as (λ _. BadLine (min line old) ≡ lose_sight line (sight_of_lines lines (position is_none lines))) [
      | inl bad ↦ sym (ap (λ b. lose_sight line (sight_of_lines lines (cond b (Some old) None))) bad)
      | inr good ↦
          let this : min line old ≡ line = omega (arith, there, ltb-false old (length lines) good) in
          ap BadLine this ∙ sym (ap (λ b. lose_sight line (sight_of_lines lines (cond b (Some old) None))) good)
    ]

pub block_lost : (block line : ℕ) (lines : List (Option (List ℕ))) (blocks : List Block) (b : ℕ) → nth blocks block ≡ Data lines → line < length lines
    → sight (nth (lose block line blocks) b) ≡ sight_lost block line b (sight (nth blocks b))
block_lost block line lines blocks b is there =
    ap sight (nth-lose block line blocks b)
    ∙ elim (cases_eq b block) as (λ _. sight (lose_line_of block line b (nth blocks b)) ≡ sight_lost block line b (sight (nth blocks b))) [
      | inl same ↦
          let here : nth blocks b ≡ Data lines = ap (nth blocks) same ∙ is in
          ap (λ t. sight (cond t (lose_line line (nth blocks b)) (nth blocks b))) (eq-eqb b block same)
          ∙ ap (λ old. sight (lose_line line old)) here
          ∙ lines_lost line lines there
          ∙ sym (ap (λ old. lose_sight line (sight old)) here)
          ∙ sym (ap (λ t. cond t (lose_sight line (sight (nth blocks b))) (sight (nth blocks b))) (eq-eqb b block same))
      | inr other ↦
          ap (λ t. sight (cond t (lose_line line (nth blocks b)) (nth blocks b))) (ne_eqb b block other)
          ∙ sym (ap (λ t. cond t (lose_sight line (sight (nth blocks b))) (sight (nth blocks b))) (ne_eqb b block other))
    ]
