-- Blocks that have lines have eight of them, whatever is made of them.
use Rattle.std.proofs.Common.{inl, inr, ℕ, zero, suc, ◌*◌, ◌-◌, ◌/◌, Option, None, Some, ◌==◌, Bool, true, false, cond, List, [], ◌∷◌, length, take, drop, map, sym, subst, ◌∙◌}
use Rattle.std.specs.Prelude.{slice_index}
use Rattle.std.specs.List.{list_any}
use Rattle.nvm_base.specs.declared.units.Span.{Span}
use Rattle.nvm_model.specs.Blocks.{change, change_block, data_from, lose, lose_line, lose_line_of, nth, write, write_block, write_ranges}
use Rattle.nvm_model.specs.Numbered.{is_among, list_from, map_from}
use Rattle.nvm_model.specs.Storage.{Block}
use Rattle.nvm_model.specs.Storage.Block.{Absent, Scarred, Data}
use Rattle.nvm_model.proofs.NumberedLemmas.{length-list_from, length-map_from}
use Rattle.word_tables.specs.declared.geometry.Geometry.{Geometry}
use Rattle.word_tables.specs.Layout.{block_line}
use Rattle.block_map.specs.declared.state.BlockState.{BlockState}
use Rattle.block_map.specs.declared.state.BlockState.TheVariants as state
use Rattle.block_device.specs.Reading.{block_read, blocks_read, line_read, states_read}
use Rattle.script_text.specs.Action.{Action}
use Rattle.script_text.specs.Action.Action.{BWrite, BAtomic, BMulti, BDiscard, BDiscardIf, BScar, PoisonBlock}
use Rattle.machine_model.specs.Commands.{LeavesBlocks, MayLeaveBlocks, meaning}
use Rattle.machine_model.specs.Meaning.{BlocksLeft}
use Rattle.machine_model.specs.Meaning.BlocksLeft.{Same, Either, Mixed}
use Rattle.machine_model.specs.OnBlocks.{blocks_from}
use Rattle.durable.specs.Durable.{HasEightLines, HaveEightLines}
use Rattle.durable.proofs.StepKinds.{blocks_after}

eight-map : (f : ℕ → Block → Block) (k : ℕ) (blocks : List Block) → ((j : ℕ) (old : Block) → HasEightLines old → HasEightLines (f j old)) → HaveEightLines blocks
    → HaveEightLines (map_from f k blocks)
eight-map f k [] each eight n = eight n
eight-map f k (b ∷ blocks) each eight zero = each k b (eight zero)
eight-map f k (b ∷ blocks) each eight (suc n) = eight-map f (suc k) blocks each (λ m. eight (suc m)) n

eight-write : (at : ℕ) (bytes : List ℕ) (blocks : List Block) → HaveEightLines blocks → HaveEightLines (write at bytes blocks)
unfolding write
eight-write at bytes blocks eight = eight-map (write_block at bytes) 0 blocks (λ j old had. by_test j old had (is_among at (length bytes / 512) j)) eight
  where
    by_test : (j : ℕ) (old : Block) → HasEightLines old → (b : Bool) → HasEightLines (cond b (data_from bytes (j - at)) old)
    by_test j old had true = length-list_from (λ m. Some (list_from (slice_index bytes) (64 * m) 64)) (8 * (j - at)) 8
    by_test j old had false = had

eight-write_ranges : (ranges : List Span) (bytes : List ℕ) (blocks : List Block) → HaveEightLines blocks → HaveEightLines (write_ranges ranges bytes blocks)
eight-write_ranges [] bytes blocks eight = eight
eight-write_ranges (range ∷ ranges) bytes blocks eight =
    eight-write_ranges ranges (drop range.len bytes) (write range.start (take range.len bytes) blocks) (eight-write range.start (take range.len bytes) blocks eight)

eight-change : (spans : List Span) (to : Block) (blocks : List Block) → HasEightLines to → HaveEightLines blocks → HaveEightLines (change spans to blocks)
unfolding change
eight-change spans to blocks has eight =
    eight-map (change_block spans to) 0 blocks (λ j old had. by_test old had (list_any (λ (span : Span). is_among span.start span.len j) spans)) eight
  where
    by_test : (old : Block) → HasEightLines old → (b : Bool) → HasEightLines (cond b to old)
    by_test old had true = has
    by_test old had false = had

eight-lose : (block line : ℕ) (blocks : List Block) → HaveEightLines blocks → HaveEightLines (lose block line blocks)
unfolding lose
eight-lose block line blocks eight = eight-map (lose_line_of block line) 0 blocks (λ j old had. by_test old had (j == block)) eight
  where
    lost : (old : Block) → HasEightLines old → HasEightLines (lose_line line old)
    lost Absent had = had
    lost Scarred had = had
    lost (Data lines) had = length-map_from _ 0 lines ∙ had

    by_test : (old : Block) → HasEightLines old → (b : Bool) → HasEightLines (cond b (lose_line line old) old)
    by_test old had true = lost old had
    by_test old had false = had

eight-made : (action : Action) (blocks : List Block) → HaveEightLines blocks → HaveEightLines ((meaning action).blocks blocks)
eight-made (BWrite block bytes) blocks eight = eight-write block bytes blocks eight
eight-made (BAtomic block bytes) blocks eight = eight-write block bytes blocks eight
eight-made (BMulti ranges bytes) blocks eight = eight-write_ranges ranges bytes blocks eight
eight-made (BDiscard block count) blocks eight = eight-change (blocks_from block count) Absent blocks tt eight
eight-made (BDiscardIf block count) blocks eight = eight-change (blocks_from block count) Absent blocks tt eight
eight-made (BScar ranges) blocks eight = eight-change ranges Scarred blocks tt eight
eight-made action blocks eight = eight

pub eight-altered : (action : Action) (blocks : List Block) → HaveEightLines blocks → HaveEightLines (blocks_after action blocks)
eight-altered (PoisonBlock block line) blocks eight = eight-lose block line blocks eight
eight-altered action blocks eight = eight-made action blocks eight

-- and so have those that an interruption leaves
eight-leaves : (left : BlocksLeft) (old to new : List Block) → HaveEightLines old → HaveEightLines to → LeavesBlocks left old to new → HaveEightLines new
eight-leaves Same old to new eight made is = subst HaveEightLines {x = old} (sym is) eight
eight-leaves Either old to new eight made (inl is) = subst HaveEightLines {x = old} (sym is) eight
eight-leaves Either old to new eight made (inr is) = subst HaveEightLines {x = to} (sym is) made
eight-leaves Mixed old to new eight made may =
    λ n. elim (may.each n) as (λ _. HasEightLines (nth new n)) [ inl is ↦ subst HasEightLines (sym is) (eight n) | inr is ↦ subst HasEightLines (sym is) (made n) ]

pub eight-left : (o : Option Action) (old new : List Block) → HaveEightLines old → MayLeaveBlocks o old new → HaveEightLines new
eight-left None old new eight is = subst HaveEightLines {x = old} (sym is) eight
eight-left (Some action) old new eight may =
    eight-leaves (meaning action).blocks_left old ((meaning action).blocks old) new eight (eight-made action old eight) may

pub eight-read : (geo : Geometry) (bad : ℕ → Bool) (word : ℕ → ℕ) → HaveEightLines (blocks_read geo bad word)
unfolding blocks_read
eight-read geo bad word = from (states_read geo word)
  where
    one : (state : BlockState) → HasEightLines (block_read geo bad word state)
    one state.Absent = tt
    one state.Scarred = tt
    one (state.At unit) = length-list_from (line_read bad word) (block_line geo unit) 8

    from : (states : List BlockState) → HaveEightLines (map (block_read geo bad word) states)
    from [] n = tt
    from (s ∷ states) zero = one s
    from (s ∷ states) (suc n) = from states n
