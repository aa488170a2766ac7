use Rattle.std.proofs.Common.{◌∙◌}
use Rattle.script_text.specs.Action.{action_of}
use Rattle.value_tables.specs.Sides.{texts}
use Rattle.value_tables.proofs.PlaceLemmas.{at_rest, done_printed, of_after, refused_printed}
use Rattle.value_tables.proofs.WithinLemmas.{is_within}
use Rattle.value_tables.proofs.listing.step.Goals as goal

pub returns-then-not-done-clause-prints : goal.returns-then-not-done-clause-prints
returns-then-not-done-clause-prints c = λ h follows is.
    let rows = texts c.in_ok-rows.rows.items in
    refused_printed c.args.reads.now c.args.geometry c.args.sight.now h follows c.args.line (action_of c.args.command.now) c.args.table.now c.print.new.self rows
    (is ∙ c.if-not-done.true) (record { text = c.in_ok-print.ensures.text; last = c.in_ok-print.ensures.last })
    (at_rest c.args.reads.now c.args.geometry c.args.sight.now h follows rows c.in_ok-rows.ensures)

pub returns-clause-prints : goal.returns-clause-prints
returns-clause-prints c = λ h follows is.
    let before = texts c.in_ok-rows.rows.items in
    let rows = texts c.in_ok-rows-2.rows.items in
    let after = c.in_ok-after.after in
    done_printed c.args.reads.now c.args.geometry c.args.sight.now h follows c.args.line (action_of c.args.command.now) (is ∙ c.if-not-done.false) (is_within c.args.sight.now c.args.geometry c.args.reads.now c.requires.looks) after
    c.in_ok-after.ensures.lines c.in_ok-after.ensures.blocks c.in_ok-after.ensures.files rows c.in_ok-rows-2.ensures
    c.args.table.now c.print.new.self c.print-2.new.self before
    (record { text = c.in_ok-print.ensures.text; last = c.in_ok-print.ensures.last })
    (at_rest c.args.reads.now c.args.geometry c.args.sight.now h follows before c.in_ok-rows.ensures)
    (record { text = c.in_ok-print-2.ensures.text; last = c.in_ok-print-2.ensures.last }) c.requires.program

pub returns-clause-looks : goal.returns-clause-looks
returns-clause-looks c =
    of_after c.args.geometry c.args.geometry (action_of c.args.command.now) c.args.reads.now c.args.sight.now c.in_ok-after.after c.requires.looks
    c.in_ok-after.ensures.lines c.in_ok-after.ensures.blocks c.in_ok-after.ensures.files
