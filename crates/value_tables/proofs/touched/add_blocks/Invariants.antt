use Rattle.std.proofs.Common.{◌≡◌, ◌+◌, ◌-◌, ◌≤◌, ◌++◌, map}
use Rattle.std.specs.List.{range_with_len}
use Rattle.value_tables.specs.declared.shown.Shown.TheVariants.{Block}
use Rattle.value_tables.specs.Left.{Found}
use Rattle.value_tables.specs.Rows.{row_text}
use Rattle.value_tables.specs.Sides.{AreBlocksLeft, texts}
use Rattle.value_tables.proofs.touched.add_blocks.Given as goal

abbrev pub invariant-loop-b : goal.invariant-loop-b
invariant-loop-b l = record {
  ordered : l.initial.b ≤ l.b;
  ends : l.b-end ≡ l.fn.first + l.fn.count;
  text : (may : Found) → AreBlocksLeft may.blocks l.sides.blocks.now l.sides.new_blocks.now
      → texts l.rows.items ≡ texts l.fn.rows.items ++ map (row_text may l.k) (map Block (range_with_len l.fn.first (l.b - l.fn.first)));
}
