use Rattle.std.proofs.Common.{◌≡◌, ◌+◌, ◌++◌, true, drop}
use Rattle.std.specs.List.{list_all}
use Rattle.std.specs.Option.{option_copied}
use Rattle.cut_places.specs.SeesFiles.{is_held}
use Rattle.cut_places.specs.SightsSeen.Units.{block_numbers, line_numbers}
use Rattle.value_tables.specs.Left.{Found}
use Rattle.value_tables.specs.Looking.{blocks_looked_at, file_lines_looked_at, lines_looked_at}
use Rattle.value_tables.specs.Rows.{rows_text}
use Rattle.value_tables.specs.Sides.{AreBlocksLeft, AreFilesLeft, AreLeft, texts}
use Rattle.value_tables.proofs.rows.rows_of.Given as goal

abbrev pub invariant-loop-i : goal.invariant-loop-i
invariant-loop-i l = record {
  lines : drop l.passed.lines (line_numbers l.sides.lines.now) ≡ lines_looked_at l.geometry (drop l.i l.reads);
  blocks : drop l.passed.blocks (block_numbers l.sides.blocks.now) ≡ blocks_looked_at l.geometry (drop l.i l.reads);
  files : list_all (is_held l.sides.files.now.numbers) (file_lines_looked_at l.geometry (drop l.i l.reads)) ≡ true;
  text : (may : Found) → AreLeft may.lines l.sides.lines.now l.sides.new_lines.now
      → AreBlocksLeft may.blocks l.sides.blocks.now l.sides.new_blocks.now
      → AreFilesLeft may.files l.sides.files.now (option_copied l.sides.new_files)
      → texts l.rows.items ++ rows_text may (l.i + 1) l.geometry (drop l.i l.reads) ≡ rows_text may 1 l.geometry l.reads;
}
