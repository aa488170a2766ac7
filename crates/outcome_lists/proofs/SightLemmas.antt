-- What is looked at for one part: its line, its block, or its file.
use Rattle.std.proofs.Common.{◌≡◌, ◌%◌, ℕ, None, zero, suc, List, [], ◌∷◌, drop, map, take, sym, ap, subst, ◌∙◌, ◌+◌, ◌-◌, ◌/◌, ◌++◌, ap₂, append-nil, arith}
use Rattle.std.specs.List.{list_all, range_with_len}
use Rattle.word_tables.specs.declared.geometry.Geometry.{Geometry}
use Rattle.nvm_model.specs.Cell.{Cell}
use Rattle.block_sights.specs.Sights.{Sight as BlockSight}
use Rattle.explorer.specs.MachineModel.Machine.{Machine}
use Rattle.explorer.specs.CutPlaces.declared.sight.Sight.{Sight}
use Rattle.explorer.specs.CutPlaces.Following.{Follows}
use Rattle.explorer.specs.CutPlaces.SeesFiles.{SeesFiles, is_held}
use Rattle.explorer.specs.CutPlaces.FilesState.{FilesState}
use Rattle.explorer.specs.SightsSeen.declared.block_seen.BlockSeen.{BlockSeen}
use Rattle.explorer.specs.SightsSeen.declared.line_seen.LineSeen.{LineSeen}
use Rattle.explorer.specs.SightsSeen.Units.{AreBlocks, AreLines, block_numbers, line_numbers}
use Rattle.outcome_lists.specs.Courses.{IsAt}
use Rattle.explorer.specs.AskedReads.declared.read.Read.{Read}
use Rattle.explorer.specs.AskedReads.declared.read.Read.TheVariants.{Volume, Blocks}
use Rattle.explorer.specs.ValueTables.Looking.{IsOf, blocks_looked_at, blocks_touched, file_lines_looked_at, file_lines_touched, lines_looked_at, lines_touched, none_refused}
use Rattle.explorer.specs.ValueTables.Rows.{read_refusal}
use Rattle.explorer.specs.ValueTables.Sides.{HasRun}
use Rattle.outcome_lists.specs.Parts.{IsPart}
use Rattle.outcome_lists.proofs.MappedLemmas.{map_drop, map_take}

-- a part that is not refused looks at what it touches
module _ (geo : Geometry) (part : Read) (taken : read_refusal geo part ≡ None) where
  pub lines_of_part : lines_looked_at geo (part ∷ []) ≡ lines_touched part
  lines_of_part = ap (λ o. none_refused o (lines_touched part) ++ []) taken ∙ append-nil (lines_touched part)

  pub blocks_of_part : blocks_looked_at geo (part ∷ []) ≡ blocks_touched part
  blocks_of_part = ap (λ o. none_refused o (blocks_touched part) ++ []) taken ∙ append-nil (blocks_touched part)

  pub file_lines_of_part : file_lines_looked_at geo (part ∷ []) ≡ file_lines_touched part
  file_lines_of_part = ap (λ o. none_refused o (file_lines_touched part) ++ []) taken ∙ append-nil (file_lines_touched part)

-- a word is in one line
one_line_of : (start : ℕ) → start % 8 ≡ 0 → lines_touched (Volume start 8) ≡ start / 64 ∷ []
one_line_of start aligned = ap (range_with_len (start / 64)) count
  where
    count : (start + 8 - 1) / 64 + 1 - start / 64 ≡ 1
    count = omega (arith, aligned)

-- the first of them, and those behind the first
lines_taken : (f : ℕ → Cell) (n : ℕ) (lines : List LineSeen) → AreLines f lines → AreLines f (take n lines)
lines_taken f zero lines are = tt
lines_taken f (suc n) [] are = tt
lines_taken f (suc n) (s ∷ lines) are = (are.0, lines_taken f n lines are.1)

lines_left : (f : ℕ → Cell) (n : ℕ) (lines : List LineSeen) → AreLines f lines → AreLines f (drop n lines)
lines_left f zero lines are = are
lines_left f (suc n) [] are = tt
lines_left f (suc n) (s ∷ lines) are = lines_left f n lines are.1

blocks_taken : (f : ℕ → BlockSight) (n : ℕ) (blocks : List BlockSeen) → AreBlocks f blocks → AreBlocks f (take n blocks)
blocks_taken f zero blocks are = tt
blocks_taken f (suc n) [] are = tt
blocks_taken f (suc n) (s ∷ blocks) are = (are.0, blocks_taken f n blocks are.1)

blocks_left : (f : ℕ → BlockSight) (n : ℕ) (blocks : List BlockSeen) → AreBlocks f blocks → AreBlocks f (drop n blocks)
blocks_left f zero blocks are = are
blocks_left f (suc n) [] are = tt
blocks_left f (suc n) (s ∷ blocks) are = blocks_left f n blocks are.1

-- a part of what is looked at follows the state as all of it does
pub follows_part : (all some : Sight) (geo : Geometry) (h : Machine) → ((f : ℕ → Cell) → AreLines f all.lines.items → AreLines f some.lines.items)
    → ((f : ℕ → BlockSight) → AreBlocks f all.blocks.items → AreBlocks f some.blocks.items) → some.files ≡ all.files → Follows all geo h → Follows some geo h
follows_part all some geo h lines blocks files follows = record {
  ready = follows.ready;
  sizes = follows.sizes;
  sees = record {
    lines = lines _ follows.sees.lines;
    blocks = blocks _ follows.sees.blocks;
    files = subst (λ (s : FilesState). SeesFiles s h) (sym files) follows.sees.files;
  };
}

-- what is looked at for one word, or for one block, follows as all of it does
pub word_follows : (all some : Sight) (geo : Geometry) (h : Machine) (at : ℕ) → some.lines.items ≡ take 1 (drop at all.lines.items) → some.blocks.items ≡ []
    → some.files ≡ all.files
    → Follows all geo h → Follows some geo h
word_follows all some geo h at lines blocks files follows =
    follows_part all some geo h (λ f are. subst (AreLines f) (sym lines) (lines_taken f 1 (drop at all.lines.items) (lines_left f at all.lines.items are)))
    (λ f are. subst (AreBlocks f) (sym blocks) tt) files follows

pub block_follows : (all some : Sight) (geo : Geometry) (h : Machine) (at : ℕ) → some.lines.items ≡ [] → some.blocks.items ≡ take 1 (drop at all.blocks.items)
    → some.files ≡ all.files
    → Follows all geo h → Follows some geo h
block_follows all some geo h at lines blocks files follows =
    follows_part all some geo h (λ f are. subst (AreLines f) (sym lines) tt)
    (λ f are. subst (AreBlocks f) (sym blocks) (blocks_taken f 1 (drop at all.blocks.items) (blocks_left f at all.blocks.items are))) files follows

-- the line and the block at a place
one_number : {A : Type 0} (f : A → ℕ) (xs : List A) (at n : ℕ) (ns : List ℕ) → HasRun (map f xs) at ns → ns ≡ n ∷ [] → map f (take 1 (drop at xs)) ≡ n ∷ []
one_number f xs at n ns run one =
    map_take f 1 (drop at xs) ∙ ap (take 1) (map_drop f at xs ∙ run.is ∙ ap (λ ms. ms ++ run.others) one)

module _ (all : Sight) (geo : Geometry) (lines_before blocks_before : ℕ) (s : Sight) (files : s.files ≡ all.files) where
  -- what is looked at for a word of the volume, a block, and a word of a file
  pub sight_of_word : (start len : ℕ) → IsPart geo (Volume start len) → IsAt all (Volume start len) lines_before blocks_before
      → s.lines.items ≡ take 1 (drop lines_before all.lines.items) → s.blocks.items ≡ [] → IsOf s geo (Volume start len ∷ [])
  sight_of_word start len is at lines blocks =
      let touched : lines_touched (Volume start len) ≡ start / 64 ∷ [] = ap (λ n. lines_touched (Volume start n)) is.one.1 ∙ one_line_of start is.one.0 in
      record {
        lines = ap line_numbers lines ∙ one_number (λ (l : LineSeen). l.number) all.lines.items lines_before (start / 64) (lines_touched (Volume start len)) at.lines touched
            ∙ sym (lines_of_part geo (Volume start len) is.taken ∙ touched);
        blocks = ap block_numbers blocks ∙ sym (blocks_of_part geo (Volume start len) is.taken);
        files = ap (list_all (is_held s.files.numbers)) (file_lines_of_part geo (Volume start len) is.taken);
      }

  pub sight_of_block : (first count : ℕ) → IsPart geo (Blocks first count) → IsAt all (Blocks first count) lines_before blocks_before
      → s.lines.items ≡ [] → s.blocks.items ≡ take 1 (drop blocks_before all.blocks.items) → IsOf s geo (Blocks first count ∷ [])
  sight_of_block first count is at lines blocks =
      let touched : blocks_touched (Blocks first count) ≡ first ∷ [] = ap (range_with_len first) is.one in
      record {
        lines = ap line_numbers lines ∙ sym (lines_of_part geo (Blocks first count) is.taken);
        blocks = ap block_numbers blocks ∙ one_number (λ (b : BlockSeen). b.number) all.blocks.items blocks_before first (blocks_touched (Blocks first count)) at.blocks touched
            ∙ sym (blocks_of_part geo (Blocks first count) is.taken ∙ touched);
        files = ap (list_all (is_held s.files.numbers)) (file_lines_of_part geo (Blocks first count) is.taken);
      }

-- a stretch of one
pub one_of : {A : Type 0} (all xs ys : List A) (at : ℕ) → ys ≡ take (at + 1 - at) (drop at xs) → xs ≡ all → ys ≡ take 1 (drop at all)
one_of all xs ys at is same =
    let one : at + 1 - at ≡ 1 = omega arith in
    is ∙ ap₂ (λ n zs. take n (drop at zs)) one same
