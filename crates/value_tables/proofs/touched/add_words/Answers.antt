use Rattle.std.proofs.Common.{◌≡◌, ◌+◌, ◌-◌, ◌/◌, ◌<◌, ◌++◌, map, refl, ap, ◌∙◌, arith}
use Rattle.std.specs.List.{range_with_len}
use Rattle.cut_places.specs.SightsSeen.Units.{line_numbers}
use Rattle.value_tables.specs.declared.shown.Shown.TheVariants.{Word}
use Rattle.value_tables.specs.Rows.{row_text}
use Rattle.value_tables.specs.Sides.{texts}
use Rattle.value_tables.proofs.RowLemmas.{line_count, row_of_word, rows_more, run_within}
use Rattle.value_tables.proofs.touched.add_words.Goals as goal

pub overflow_add-at : goal.overflow_add-at
overflow_add-at c =
    let now = c.args.sides.now.lines.now in
    let first = c.args.span.start / 64 in
    let number = (c.args.span.start + c.args.span.len - 1) / 64 + 1 - c.args.span.start / 64 in
    let ordered = c.loop-p.invariant.ordered in
    let below : c.loop-p.p / 8 - first < number = omega (arith, ordered) in
    let lt = run_within (line_numbers now) c.args.at first number c.requires.run (c.loop-p.p / 8 - first) below in
    let count = line_count now in
    let fits = c.requires.lines_fit in
    omega (arith, lt, count, fits)

pub loop-p-preserved : goal.loop-p-preserved
loop-p-preserved c =
    let i = c.loop-p.invariant in
    let first = c.args.span.start / 64 in
    let number = (c.args.span.start + c.args.span.len - 1) / 64 + 1 - c.args.span.start / 64 in
    let p = c.loop-p.p in
    let ordered = i.ordered in
    record {
      begins = refl;
      ordered = omega (arith, ordered);
      ends = refl;
      text = λ may are.
          rows_more (row_text may c.args.k) (λ n. Word n) (c.args.span.start / 8) p (texts c.args.rows.now.items) c.loop-p.rows.items c.keep.new.items.items c.in_ok-row.row i.ordered
          (i.text may are) c.in_ok-keep.ensures
          (c.in_ok-row.ensures ∙ row_of_word may c.args.sides.now.lines.now c.args.sides.now.new_lines.now c.args.k p c.args.at first number (p / 8 - first)
          c.requires.run are (omega (arith, ordered)) (omega (arith, ordered)));
    }

pub returns : goal.returns
returns c = λ may are.
    let i = c.loop-p.invariant in
    let ordered = i.ordered in
    let count : c.loop-p.p - c.args.span.start / 8 ≡ (c.args.span.start + c.args.span.len - 1) / 8 + 1 - c.args.span.start / 8 = omega (arith, ordered) in
    i.text may are ∙ ap (λ n. texts c.args.rows.now.items ++ map (row_text may c.args.k) (map (λ p. Word p) (range_with_len (c.args.span.start / 8) n))) count
