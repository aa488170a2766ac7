-- Blocks have lines of 64 bytes, whatever commands do to them.
use Rattle.std.proofs.Common.{ℕ, zero, suc, ◌-◌, ◌*◌, ◌/◌, ◌<◌, ◌==◌, Bool, true, false, cond, Option, Some, None, List, [], ◌∷◌, drop, length, slice_index, take, ◌∙◌, arith}
use Rattle.std.specs.List.{list_any}
use Rattle.nvm_base.specs.declared.units.Span.{Span}
use Rattle.nvm_model.specs.Blocks.{change, change_block, data_from, lose, lose_line, lose_line_of, write, write_block, write_ranges}
use Rattle.nvm_model.specs.Numbered.{is_among, list_from, map_from}
use Rattle.nvm_model.specs.Storage.{Block}
use Rattle.nvm_model.specs.Storage.Block.{Absent, Scarred, Data}
use Rattle.nvm_model.proofs.NumberedLemmas.{length-list_from, length-map_from}
use Rattle.script_text.specs.Action.{Action}
use Rattle.script_text.specs.Action.Action.{BWrite, BAtomic, BMulti, BDiscard, BDiscardIf, BScar, PoisonBlock}
use Rattle.machine_model.specs.Commands.{meaning}
use Rattle.machine_model.specs.OnBlocks.{blocks_from}
use Rattle.durable.proofs.StepKinds.{blocks_after}
use Rattle.state_images.specs.Storable.{AreBytes, AreLinesOfBytes, AreWholeBlocks, IsLineOfBytes, IsWholeBlock}
use Rattle.outcome_runs.specs.Brings.{BringsRight}

byte_at : (bytes : List ℕ) → AreBytes bytes → (k : ℕ) → slice_index bytes k < 256
byte_at [] are k = omega arith
byte_at (byte ∷ bytes) are zero = are.0
byte_at (byte ∷ bytes) are (suc k) = byte_at bytes are.1 k

pub bytes_from : (f : ℕ → ℕ) (n count : ℕ) → ((k : ℕ) → f k < 256) → AreBytes (list_from f n count)
bytes_from f n zero each = tt
bytes_from f n (suc count) each = (each n, bytes_from f (suc n) count each)

bytes_taken : (n : ℕ) (bytes : List ℕ) → AreBytes bytes → AreBytes (take n bytes)
bytes_taken zero [] are = tt
bytes_taken zero (byte ∷ bytes) are = tt
bytes_taken (suc n) [] are = tt
bytes_taken (suc n) (byte ∷ bytes) are = (are.0, bytes_taken n bytes are.1)

bytes_left : (n : ℕ) (bytes : List ℕ) → AreBytes bytes → AreBytes (drop n bytes)
bytes_left zero [] are = tt
bytes_left zero (byte ∷ bytes) are = are
bytes_left (suc n) [] are = tt
bytes_left (suc n) (byte ∷ bytes) are = bytes_left n bytes are.1

pub lines_from : (f : ℕ → Option (List ℕ)) (n count : ℕ) → ((k : ℕ) → IsLineOfBytes (f k)) → AreLinesOfBytes (list_from f n count)
lines_from f n zero each = tt
lines_from f n (suc count) each = (each n, lines_from f (suc n) count each)

whole_data : (bytes : List ℕ) (i : ℕ) → AreBytes bytes → IsWholeBlock (data_from bytes i)
whole_data bytes i are = (
  length-list_from (λ n. Some (list_from (slice_index bytes) (64 * n) 64)) (8 * i) 8,
  lines_from (λ n. Some (list_from (slice_index bytes) (64 * n) 64)) (8 * i) 8
      (λ n. (length-list_from (slice_index bytes) (64 * n) 64, bytes_from (slice_index bytes) (64 * n) 64 (byte_at bytes are))),
)

whole_map : (f : ℕ → Block → Block) (n : ℕ) (blocks : List Block) → ((j : ℕ) (old : Block) → IsWholeBlock old → IsWholeBlock (f j old)) → AreWholeBlocks blocks
    → AreWholeBlocks (map_from f n blocks)
whole_map f n [] each all = tt
whole_map f n (block ∷ blocks) each all = (each n block all.0, whole_map f (suc n) blocks each all.1)

whole_write : (at : ℕ) (bytes : List ℕ) (blocks : List Block) → AreBytes bytes → AreWholeBlocks blocks → AreWholeBlocks (write at bytes blocks)
unfolding write
whole_write at bytes blocks are all = whole_map (write_block at bytes) 0 blocks (λ j old had. by_test j old had (is_among at (length bytes / 512) j)) all
  where
    by_test : (j : ℕ) (old : Block) → IsWholeBlock old → (b : Bool) → IsWholeBlock (cond b (data_from bytes (j - at)) old)
    by_test j old had true = whole_data bytes (j - at) are
    by_test j old had false = had

whole_ranges : (ranges : List Span) (bytes : List ℕ) (blocks : List Block) → AreBytes bytes → AreWholeBlocks blocks → AreWholeBlocks (write_ranges ranges bytes blocks)
whole_ranges [] bytes blocks are all = all
whole_ranges (range ∷ ranges) bytes blocks are all =
    whole_ranges ranges (drop range.len bytes) (write range.start (take range.len bytes) blocks) (bytes_left range.len bytes are)
    (whole_write range.start (take range.len bytes) blocks (bytes_taken range.len bytes are) all)

whole_change : (spans : List Span) (to : Block) (blocks : List Block) → IsWholeBlock to → AreWholeBlocks blocks → AreWholeBlocks (change spans to blocks)
unfolding change
whole_change spans to blocks has all =
    whole_map (change_block spans to) 0 blocks (λ j old had. by_test old had (list_any (λ (span : Span). is_among span.start span.len j) spans)) all
  where
    by_test : (old : Block) → IsWholeBlock old → (b : Bool) → IsWholeBlock (cond b to old)
    by_test old had true = has
    by_test old had false = had

lost_lines : (line n : ℕ) (lines : List (Option (List ℕ))) → AreLinesOfBytes lines → AreLinesOfBytes (map_from (λ k bytes. cond (k == line) None bytes) n lines)
lost_lines line n [] all = tt
lost_lines line n (bytes ∷ lines) all = (by_test (n == line), lost_lines line (suc n) lines all.1)
  where
    by_test : (b : Bool) → IsLineOfBytes (cond b None bytes)
    by_test true = tt
    by_test false = all.0

whole_lose : (block line : ℕ) (blocks : List Block) → AreWholeBlocks blocks → AreWholeBlocks (lose block line blocks)
unfolding lose
whole_lose block line blocks all = whole_map (lose_line_of block line) 0 blocks (λ j old had. by_test old had (j == block)) all
  where
    lost : (old : Block) → IsWholeBlock old → IsWholeBlock (lose_line line old)
    lost Absent had = had
    lost Scarred had = had
    lost (Data lines) had = (length-map_from _ 0 lines ∙ had.0, lost_lines line 0 lines had.1)

    by_test : (old : Block) → IsWholeBlock old → (b : Bool) → IsWholeBlock (cond b (lose_line line old) old)
    by_test old had true = lost old had
    by_test old had false = had

-- what a command makes of them
pub whole_made : (action : Action) (blocks : List Block) → BringsRight action → AreWholeBlocks blocks → AreWholeBlocks ((meaning action).blocks blocks)
whole_made (BWrite block bytes) blocks right all = whole_write block bytes blocks right all
whole_made (BAtomic block bytes) blocks right all = whole_write block bytes blocks right all
whole_made (BMulti ranges bytes) blocks right all = whole_ranges ranges bytes blocks right all
whole_made (BDiscard block count) blocks right all = whole_change (blocks_from block count) Absent blocks tt all
whole_made (BDiscardIf block count) blocks right all = whole_change (blocks_from block count) Absent blocks tt all
whole_made (BScar ranges) blocks right all = whole_change ranges Scarred blocks tt all
whole_made action blocks right all = all

pub whole_after : (action : Action) (blocks : List Block) → BringsRight action → AreWholeBlocks blocks → AreWholeBlocks (blocks_after action blocks)
whole_after (PoisonBlock block line) blocks right all = whole_lose block line blocks all
whole_after action blocks right all = whole_made action blocks right all
