use Rattle.std.proofs.Common.{◌++◌, map, ap, sym, ◌∙◌}
use Rattle.value_tables.specs.declared.shown.Shown.TheVariants.{Refuses}
use Rattle.value_tables.specs.Rows.{row_text, touched, unless_refused}
use Rattle.value_tables.specs.Sides.{texts}
use Rattle.value_tables.proofs.RowLemmas.{ok_more, texts_more}
use Rattle.value_tables.proofs.rows.add_rows.Goals as goal

pub returns-in_ok-row-in-Some-clause-text : goal.returns-in_ok-row-in-Some-clause-text
returns-in_ok-row-in-Some-clause-text c = λ may are others files.
    let f = row_text may c.args.k in
    let row = c.in_ok-row-in-Some.row in
    ok_more c.keep.result (λ more. texts_more c.args.rows.now.items c.keep.new.items.items row (f (Refuses c.in-Some.why)) more (c.in_ok-row-in-Some.ensures may)
    ∙ ap (λ o. texts c.args.rows.now.items ++ map f (unless_refused o (touched c.args.read))) (sym c.in-Some.is ∙ c.read_refusal.ensures)) c.keep.ensures
