use Rattle.std.proofs.Common.{◌≡◌, ◌+◌, ◌-◌, ◌/◌, ◌≤◌, ◌++◌, map}
use Rattle.std.specs.List.{range_with_len}
use Rattle.std.specs.Option.{option_copied}
use Rattle.value_tables.specs.declared.shown.Shown.TheVariants.{FileWord}
use Rattle.value_tables.specs.Left.{Found}
use Rattle.value_tables.specs.Rows.{row_text}
use Rattle.value_tables.specs.Sides.{AreFilesLeft, texts}
use Rattle.value_tables.proofs.file_words.add_file_words.Given as goal

abbrev pub invariant-loop-p : goal.invariant-loop-p
invariant-loop-p l = record {
  begins : l.initial.p ≡ l.fn.span.start / 8;
  ordered : l.initial.p ≤ l.p;
  ends : l.p-end ≡ (l.fn.span.start + l.fn.span.len - 1) / 8 + 1;
  text : (may : Found) → AreFilesLeft may.files l.sides.files.now (option_copied l.sides.new_files)
      → texts l.rows.items ≡ texts l.fn.rows.items ++ map (row_text may l.k) (map (FileWord l.name) (range_with_len l.initial.p (l.p - l.initial.p)));
}
