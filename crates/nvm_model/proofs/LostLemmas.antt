-- Blocks of which a media error took a line.
use Rattle.std.proofs.Common.{◌≡◌, ℕ, zero, suc, ◌+◌, ◌<◌, ◌==◌, Bool, true, false, cond, Option, Some, None, option_map, List, [], ◌∷◌, length, slice_get, slice_index_or, refl, ap, ◌∙◌, arith}
use Rattle.std.proofs.lemmas.Bool.{eq-eqb, ne_eqb}
use Rattle.std.proofs.lemmas.Option.{slice_get-get_or}
use Rattle.nvm_model.specs.Numbered.{map_from}
use Rattle.nvm_model.specs.Storage.{Block}
use Rattle.nvm_model.specs.Storage.Block.{Absent}
use Rattle.nvm_model.specs.Blocks.{nth, lose_at, lose_line, lose_line_of, lose}
use Rattle.nvm_model.proofs.NumberedLemmas.{slice_get-map_from, length-map_from}

-- the lines of a block, with one of them lost
pub lose_at-here : (line : ℕ) (lines : List (Option (List ℕ))) → line < length lines → slice_get (lose_at line lines) line ≡ Some None
lose_at-here line lines there =
    slice_get-map_from _ 0 lines line ∙ ap (option_map _) (slice_get-get_or lines line None there) ∙ ap (λ t. Some (cond t None (slice_index_or lines line None))) (eq-eqb (0 + line) line (omega arith))

pub lose_at-beside : (line k : ℕ) (lines : List (Option (List ℕ))) → (k ≡ line → ⊥) → slice_get (lose_at line lines) k ≡ slice_get lines k
lose_at-beside line k lines out = slice_get-map_from _ 0 lines k ∙ by_line (slice_get lines k)
  where
    by_line : (o : Option (Option (List ℕ))) → option_map (λ bytes. cond ((0 + k) == line) None bytes) o ≡ o
    by_line None = refl
    by_line (Some bytes) = ap (λ t. Some (cond t None bytes)) (ne_eqb (0 + k) line (λ same. out (omega (arith, same))))

-- each block
pub nth-lose : (block line : ℕ) (blocks : List Block) (i : ℕ) → nth (lose block line blocks) i ≡ lose_line_of block line i (nth blocks i)
unfolding lose
nth-lose block line blocks i = from 0 blocks i ∙ ap (λ k. lose_line_of block line k (nth blocks i)) zero_more
  where
    zero_more : 0 + i ≡ i
    zero_more = omega arith

    none : (t : Bool) → Absent ≡ cond t Absent Absent
    none true = refl
    none false = refl

    from : (n : ℕ) (blocks : List Block) (i : ℕ) → nth (map_from (lose_line_of block line) n blocks) i ≡ lose_line_of block line (n + i) (nth blocks i)
    from n [] i = none ((n + i) == block)
    from n (b ∷ bs) zero = let e : n + 0 ≡ n = omega arith in rw e refl
    from n (b ∷ bs) (suc i) = let e : n + suc i ≡ suc n + i = omega arith in rw e (from (suc n) bs i)

pub nth-lost : (block line : ℕ) (blocks : List Block) → nth (lose block line blocks) block ≡ lose_line line (nth blocks block)
nth-lost block line blocks = nth-lose block line blocks block ∙ ap (λ t. cond t (lose_line line (nth blocks block)) (nth blocks block)) (eq-eqb block block refl)

pub nth-beside : (block line : ℕ) (blocks : List Block) (i : ℕ) → (i ≡ block → ⊥) → nth (lose block line blocks) i ≡ nth blocks i
nth-beside block line blocks i out = nth-lose block line blocks i ∙ ap (λ t. cond t (lose_line line (nth blocks i)) (nth blocks i)) (ne_eqb i block out)

pub length-lose : (block line : ℕ) (blocks : List Block) → length (lose block line blocks) ≡ length blocks
unfolding lose
length-lose block line blocks = length-map_from _ 0 blocks
