use Rattle.std.proofs.Common.{◌≡◌, ◌+◌, ◌-◌, ◌/◌, ◌++◌, map, refl, ap, ◌∙◌, arith}
use Rattle.std.specs.List.{range_with_len}
use Rattle.std.specs.Option.{option_copied}
use Rattle.value_tables.specs.declared.shown.Shown.TheVariants.{FileWord}
use Rattle.value_tables.specs.Rows.{row_text}
use Rattle.value_tables.specs.Sides.{texts}
use Rattle.value_tables.proofs.RowLemmas.{row_of_file_word, rows_more}
use Rattle.value_tables.proofs.file_words.add_file_words.Goals as goal

pub loop-p-preserved : goal.loop-p-preserved
loop-p-preserved c =
    let i = c.loop-p.invariant in
    let start = c.args.span.start in
    let len = c.args.span.len in
    let p = c.loop-p.p in
    let ordered = i.ordered in
    record {
      begins = refl;
      ordered = omega (arith, ordered);
      ends = refl;
      text = λ may are.
          rows_more (row_text may c.args.k) (λ n. FileWord c.args.name.now n) (start / 8) p (texts c.args.rows.now.items) c.loop-p.rows.items c.keep.new.items.items c.in_ok-row.row i.ordered
          (i.text may are) c.in_ok-keep.ensures
          (c.in_ok-row.ensures ∙ row_of_file_word may c.args.sides.now.files.now (option_copied c.args.sides.now.new_files) c.args.name.now c.args.k p start len are c.requires.held
          (omega (arith, ordered)) (omega (arith, ordered)));
    }

pub returns : goal.returns
returns c = λ may are.
    let i = c.loop-p.invariant in
    let ordered = i.ordered in
    let count : c.loop-p.p - c.args.span.start / 8 ≡ (c.args.span.start + c.args.span.len - 1) / 8 + 1 - c.args.span.start / 8 = omega (arith, ordered) in
    i.text may are ∙ ap (λ n. texts c.args.rows.now.items ++ map (row_text may c.args.k) (map (λ p. FileWord c.args.name.now p) (range_with_len (c.args.span.start / 8) n))) count
