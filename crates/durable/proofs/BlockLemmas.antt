-- Blocks that an action does not reach.
use Rattle.std.proofs.Common.{◌≡◌, inl, inr, ℕ, zero, suc, ◌+◌, ◌*◌, ◌-◌, ◌/◌, ◌%◌, ◌==◌, ◌≤◌, Bool, true, false, cond, Option, Some, None, option_map, List, [], ◌∷◌, length, slice_get, slice_index_or, take, drop, refl, sym, ap, subst, ◌∙◌, arith}
use Rattle.std.specs.List.{list_any}
use Rattle.std.specs.Prelude.{slice_index, unwrap_or}
use Rattle.std.proofs.lemmas.Bool.{cases_eq, eq-eqb, or_parts}
use Rattle.std.proofs.lemmas.Option.{get_or_from_slice_get, unwrap_or-slice_get}
use Rattle.nvm_model.proofs.NumberedLemmas.{slice_get-map_from}
use Rattle.nvm_model.proofs.LostLemmas.{lose_at-beside, nth-beside, nth-lost}
use Rattle.std.proofs.lemmas.Bool.Decides.{nat_tests}
use Rattle.std.proofs.lemmas.List.{length-take}
use Rattle.nvm_base.specs.declared.units.Span.{Span}
use Rattle.nvm_model.specs.Blocks.{change, change_block, data_from, lose, lose_at, lose_line, nth, write, write_block, write_ranges}
use Rattle.nvm_model.specs.Numbered.{is_among, map_from}
use Rattle.nvm_model.specs.Storage.{Block, Mapping}
use Rattle.nvm_model.specs.Storage.Block.{Absent, Scarred, Data}
use Rattle.block_device.specs.Refusals.{block_spans}
use Rattle.script_text.specs.Action.{Action}
use Rattle.script_text.specs.Action.Action.{BWrite, BAtomic, BMulti, BDiscard, BDiscardIf, BScar}
use Rattle.machine_model.specs.OnBlocks.{blocks_from}
use Rattle.machine_model.specs.Commands.{LeavesBlocks, meaning}
use Rattle.machine_model.specs.Meaning.{BlocksLeft}
use Rattle.machine_model.specs.Meaning.BlocksLeft.{Same, Either, Mixed}
use Rattle.durable.specs.Place.Place.{of_blocks}
use Rattle.durable.specs.Touching.{changes}
use Rattle.durable.specs.Place.{block_has}
use Rattle.durable.proofs.LineLemmas.{HasOrLost}

nth-map : (f : ℕ → Block → Block) (k n : ℕ) (blocks : List Block) → ((old : Block) → f (k + n) old ≡ old) → nth (map_from f k blocks) n ≡ nth blocks n
nth-map f k n [] same = refl
nth-map f k zero (x ∷ xs) same = let e : k + 0 ≡ k = omega arith in ap (λ j. f j x) (sym e) ∙ same x
nth-map f k (suc n) (x ∷ xs) same =
    let e : suc k + n ≡ k + suc n = omega arith in nth-map f (suc k) n xs (λ old. ap (λ j. f j old) e ∙ same old)

fewer : (start less more b : ℕ) → less ≤ more → is_among start more b ≡ false → is_among start less b ≡ false
fewer start less more b le out = grind (arith, nat_tests)

nth-write : (at n : ℕ) (bytes : List ℕ) (blocks : List Block) → is_among at (length bytes / 512) n ≡ false → nth (write at bytes blocks) n ≡ nth blocks n
unfolding write
nth-write at n bytes blocks out = nth-map (write_block at bytes) 0 n blocks (λ old. by_number (0 + n) old (omega arith))
  where
    by_number : (m : ℕ) (old : Block) → m ≡ n → write_block at bytes m old ≡ old
    by_number m old is = ap (λ b. cond b (data_from bytes (m - at)) old) (ap (is_among at (length bytes / 512)) is ∙ out)

nth-write_ranges : (ranges : List Span) (bytes : List ℕ) (n : ℕ) (blocks : List Block)
    → list_any (λ (span : Span). is_among span.start span.len n) (block_spans ranges) ≡ false → nth (write_ranges ranges bytes blocks) n ≡ nth blocks n
nth-write_ranges [] bytes n blocks out = refl
nth-write_ranges (range ∷ ranges) bytes n blocks out =
    let parts = or_parts (is_among range.start (range.len / 512) n) (list_any (λ (span : Span). is_among span.start span.len n) (block_spans ranges)) out in
    let size = length-take range.len bytes in
    nth-write_ranges ranges (drop range.len bytes) n (write range.start (take range.len bytes) blocks) parts.1
    ∙ nth-write range.start n (take range.len bytes) blocks
    (fewer range.start (length (take range.len bytes) / 512) (range.len / 512) n (omega (arith, size)) parts.0)

nth-change : (spans : List Span) (to : Block) (n : ℕ) (blocks : List Block) → list_any (λ (span : Span). is_among span.start span.len n) spans ≡ false
    → nth (change spans to blocks) n ≡ nth blocks n
unfolding change
nth-change spans to n blocks out = nth-map (change_block spans to) 0 n blocks (λ old. by_number (0 + n) old (omega arith))
  where
    by_number : (m : ℕ) (old : Block) → m ≡ n → change_block spans to m old ≡ old
    by_number m old is = ap (λ b. cond b to old) (ap (λ j. list_any (λ (span : Span). is_among span.start span.len j) spans) is ∙ out)

-- a block that an action does not change
pub nth-spared : (mappings : List Mapping) (action : Action) (i : ℕ) (blocks : List Block) → changes mappings action (of_blocks i) ≡ false → nth ((meaning action).blocks blocks) (i / 512) ≡ nth blocks (i / 512)
nth-spared mappings (BWrite block bytes) i blocks out = nth-write block (i / 512) bytes blocks (or_parts _ false out).0
nth-spared mappings (BAtomic block bytes) i blocks out = nth-write block (i / 512) bytes blocks (or_parts _ false out).0
nth-spared mappings (BMulti ranges bytes) i blocks out = nth-write_ranges ranges bytes (i / 512) blocks out
nth-spared mappings (BDiscard block count) i blocks out = nth-change (blocks_from block count) Absent (i / 512) blocks out
nth-spared mappings (BDiscardIf block count) i blocks out = nth-change (blocks_from block count) Absent (i / 512) blocks out
nth-spared mappings (BScar ranges) i blocks out = nth-change ranges Scarred (i / 512) blocks out
nth-spared mappings action i blocks out = refl

-- what an interruption leaves of one that is the same either way
pub nth-left : (left : BlocksLeft) (n : ℕ) (old to new : List Block) → nth to n ≡ nth old n → LeavesBlocks left old to new → nth new n ≡ nth old n
nth-left Same n old to new same is = ap (λ bs. nth bs n) is
nth-left Either n old to new same (inl is) = ap (λ bs. nth bs n) is
nth-left Either n old to new same (inr is) = ap (λ bs. nth bs n) is ∙ same
nth-left Mixed n old to new same may = elim (may.each n) as (λ _. nth new n ≡ nth old n) [ inl is ↦ is | inr is ↦ is ∙ same ]

same_get : (xs ys : List (Option (List ℕ))) (k : ℕ) → slice_get xs k ≡ slice_get ys k → slice_index_or xs k None ≡ slice_index_or ys k None
same_get xs ys k is = sym (unwrap_or-slice_get xs k None) ∙ ap (λ o. unwrap_or o None) is ∙ unwrap_or-slice_get ys k None

get_or_none : (xs : List (Option (List ℕ))) (k : ℕ) → slice_get xs k ≡ None → slice_index_or xs k None ≡ None
get_or_none xs k is = sym (unwrap_or-slice_get xs k None) ∙ ap (λ o. unwrap_or o None) is

-- a block of which a line was lost
pub lost_there : (line : ℕ) (lines : List (Option (List ℕ))) → slice_index_or (lose_at line lines) line None ≡ None
lost_there line lines = by_line (slice_get lines line) (slice_get-map_from _ 0 lines line)
  where
    gone : (bytes : Option (List ℕ)) → cond ((0 + line) == line) None bytes ≡ None
    gone bytes = ap (λ t. cond t None bytes) (eq-eqb (0 + line) line (omega arith))

    by_line : (o : Option (Option (List ℕ))) → slice_get (lose_at line lines) line ≡ option_map (λ bytes. cond ((0 + line) == line) None bytes) o
        → slice_index_or (lose_at line lines) line None ≡ None
    by_line None is = get_or_none (lose_at line lines) line is
    by_line (Some bytes) is = get_or_from_slice_get (lose_at line lines) line (cond ((0 + line) == line) None bytes) None is ∙ gone bytes

module _ (harmed : Bool) where
  pub has-lost : (block line i : ℕ) (v : Option ℕ) (blocks : List Block) → (i / 64 ≡ 8 * block + line → harmed ≡ true)
      → HasOrLost harmed (block_has (nth blocks (i / 512)) (i % 512)) v → HasOrLost harmed (block_has (nth (lose block line blocks) (i / 512)) (i % 512)) v
  has-lost block line i v blocks hurt has = elim (cases_eq (i / 512) block) as (λ _. HasOrLost harmed (block_has (nth (lose block line blocks) (i / 512)) (i % 512)) v) [
    | inl same ↦ subst (λ b. HasOrLost harmed (block_has b (i % 512)) v) (sym (ap (nth (lose block line blocks)) same ∙ nth-lost block line blocks ∙ ap (λ n. lose_line line (nth blocks n)) (sym same))) (of_block same (nth blocks (i / 512)) has)
    | inr out ↦ subst (λ b. HasOrLost harmed (block_has b (i % 512)) v) (sym (nth-beside block line blocks (i / 512) out)) has
  ]
    where
      of_block : i / 512 ≡ block → (b : Block) → HasOrLost harmed (block_has b (i % 512)) v → HasOrLost harmed (block_has (lose_line line b) (i % 512)) v
      of_block same Absent has = has
      of_block same Scarred has = has
      of_block same (Data lines) has = elim (cases_eq ((i % 512) / 64) line) as (λ _. HasOrLost harmed (block_has (Data (lose_at line lines)) (i % 512)) v) [
        | inl at ↦ inr (ap (option_map (λ bytes. slice_index bytes (i % 512 % 64))) (ap (λ k. slice_index_or (lose_at line lines) k None) at ∙ lost_there line lines), hurt (omega (arith, same, at)))
        | inr out ↦ subst (λ o. HasOrLost harmed (option_map (λ bytes. slice_index bytes (i % 512 % 64)) o) v) (sym (same_get (lose_at line lines) lines ((i % 512) / 64) (lose_at-beside line ((i % 512) / 64) lines out))) has
      ]
