use Rattle.std.proofs.Common.{◌≡◌, ◌-◌, ◌<◌, ◌++◌, map, refl, ap, ◌∙◌, arith}
use Rattle.std.specs.List.{range_with_len}
use Rattle.cut_places.specs.SightsSeen.Units.{block_numbers}
use Rattle.value_tables.specs.declared.shown.Shown.TheVariants.{Block}
use Rattle.value_tables.specs.Rows.{row_text}
use Rattle.value_tables.specs.Sides.{texts}
use Rattle.value_tables.proofs.RowLemmas.{block_count, row_of_block, rows_more, run_within}
use Rattle.value_tables.proofs.touched.add_blocks.Goals as goal

pub overflow_add-at : goal.overflow_add-at
overflow_add-at c =
    let now = c.args.sides.now.blocks.now in
    let ordered = c.loop-b.invariant.ordered in
    let below : c.loop-b.b - c.args.first < c.args.count = omega (arith, ordered) in
    let lt = run_within (block_numbers now) c.args.at c.args.first c.args.count c.requires.run (c.loop-b.b - c.args.first) below in
    let count = block_count now in
    let fits = c.requires.blocks_fit in
    omega (arith, lt, count, fits)

pub block_row-requires : goal.block_row-requires
block_row-requires c =
    let now = c.args.sides.now.blocks.now in
    let ordered = c.loop-b.invariant.ordered in
    let below : c.loop-b.b - c.args.first < c.args.count = omega (arith, ordered) in
    let lt = run_within (block_numbers now) c.args.at c.args.first c.args.count c.requires.run (c.loop-b.b - c.args.first) below in
    let count = block_count now in
    omega (arith, lt, count)

pub loop-b-preserved : goal.loop-b-preserved
loop-b-preserved c =
    let i = c.loop-b.invariant in
    let first = c.args.first in
    let b = c.loop-b.b in
    let ordered = i.ordered in
    record {
      ordered = omega (arith, ordered);
      ends = refl;
      text = λ may are.
          rows_more (row_text may c.args.k) (λ n. Block n) first b (texts c.args.rows.now.items) c.loop-b.rows.items c.keep.new.items.items c.in_ok-row.row i.ordered
          (i.text may are) c.in_ok-keep.ensures
          (c.in_ok-row.ensures ∙ row_of_block may c.args.sides.now.blocks.now c.args.sides.now.new_blocks.now c.args.k b c.args.at first c.args.count (b - first)
          c.requires.run are (omega (arith, ordered)) (omega (arith, ordered)));
    }

pub returns : goal.returns
returns c = λ may are.
    let i = c.loop-b.invariant in
    let ordered = i.ordered in
    let count : c.loop-b.b - c.args.first ≡ c.args.count = omega (arith, ordered) in
    i.text may are ∙ ap (λ n. texts c.args.rows.now.items ++ map (row_text may c.args.k) (map (λ b. Block b) (range_with_len c.args.first n))) count
