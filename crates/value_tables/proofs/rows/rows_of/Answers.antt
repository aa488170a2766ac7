use Rattle.cut_places.specs.SightsSeen.Units.{block_numbers, line_numbers}
use Rattle.value_tables.specs.Rows.{rows_text}
use Rattle.value_tables.specs.Sides.{texts}
use Rattle.value_tables.proofs.LookLemmas.{blocks_after, blocks_next, files_after, files_next, lines_after, lines_next, rows_after}
use Rattle.value_tables.proofs.rows.rows_of.Goals as goal

pub add_rows-requires-clause-lines : goal.add_rows-requires-clause-lines
add_rows-requires-clause-lines c =
    lines_next c.args.geometry c.args.reads.now c.loop-i.i c.loop-i-test.true c.index-reads-i.result c.index-reads-i.is (line_numbers c.args.sides.now.lines.now) c.loop-i.passed.lines c.loop-i.invariant.lines

pub add_rows-requires-clause-blocks : goal.add_rows-requires-clause-blocks
add_rows-requires-clause-blocks c =
    blocks_next c.args.geometry c.args.reads.now c.loop-i.i c.loop-i-test.true c.index-reads-i.result c.index-reads-i.is (block_numbers c.args.sides.now.blocks.now) c.loop-i.passed.blocks c.loop-i.invariant.blocks

pub add_rows-requires-clause-files : goal.add_rows-requires-clause-files
add_rows-requires-clause-files c =
    files_next c.args.geometry c.args.reads.now c.loop-i.i c.loop-i-test.true c.index-reads-i.result c.index-reads-i.is c.args.sides.now.files.now.numbers c.loop-i.invariant.files

pub loop-i-preserved : goal.loop-i-preserved
loop-i-preserved c =
    let i = c.loop-i.invariant in
    let after = c.in_ok-add_rows.ensures in
    record {
      lines = lines_after c.args.geometry c.args.reads.now c.loop-i.i c.loop-i-test.true c.index-reads-i.result c.index-reads-i.is (line_numbers c.args.sides.now.lines.now) c.loop-i.passed.lines c.add_rows.new.passed.lines
          i.lines after.lines;
      blocks = blocks_after c.args.geometry c.args.reads.now c.loop-i.i c.loop-i-test.true c.index-reads-i.result c.index-reads-i.is (block_numbers c.args.sides.now.blocks.now) c.loop-i.passed.blocks c.add_rows.new.passed.blocks
          i.blocks after.blocks;
      files = files_after c.args.geometry c.args.reads.now c.loop-i.i c.loop-i-test.true c.index-reads-i.result c.index-reads-i.is c.args.sides.now.files.now.numbers i.files;
      text = λ may are others files.
          rows_after c.args.geometry c.args.reads.now c.loop-i.i c.loop-i-test.true c.index-reads-i.result c.index-reads-i.is may (texts c.loop-i.rows.items) (texts c.add_rows.new.rows.items)
          (rows_text may 1 c.args.geometry c.args.reads.now) (i.text may are others files) (after.text may are others files);
    }
