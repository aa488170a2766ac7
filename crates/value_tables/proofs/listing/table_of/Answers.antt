use Rattle.std.proofs.Common.{false, get_or, map, ap, refl, sym, ◌+◌, ◌∙◌}
use Rattle.cut_places.proofs.GoingLemmas.{program_at}
use Rattle.value_tables.specs.Sides.{texts}
use Rattle.value_tables.proofs.GoLemmas.{at_end, goes_at, goes_first, goes_on, goes_past}
use Rattle.value_tables.proofs.PlaceLemmas.{at_rest}
use Rattle.value_tables.proofs.listing.table_of.Goals.{in-Some+in_ok-step, in_default}
use Rattle.value_tables.proofs.listing.table_of.Goals as goal

pub loop-i-init : goal.loop-i-init
loop-i-init c =
    goes_first c.args.program.now c.args.done.now c.args.reads.now c.args.geometry c.args.sight.now c.new-table.result c.requires.looks
    c.new-table.ensures.text (ap (map (λ row. row.items)) c.new-table.ensures.last)

pub step-requires-clause-program : goal.step-requires-clause-program
step-requires-clause-program c = program_at c.args.program.now c.loop-i.i c.in-Some.command c.index-program-i.result c.loop-i-test.true (sym c.in-Some.is ∙ c.index-program-i.is) c.requires.program

pub loop-i-preserved : goal.loop-i-preserved
loop-i-preserved c =
    let i = c.loop-i.i in
    let line = c.index-program-i.result in
    let is_done = get_or c.args.done.now i false in
    elim c.match-line.branch [
      | in-Some+in_ok-step w ↦
          let after = w.in_ok-step.ensures in
          goes_at c.args.program.now c.args.done.now c.args.reads.now c.args.geometry c.args.sight.now (i + 1) w.step.new.sight c.match-line.sight w.step.new.table c.match-line.table w.sight-is w.table-is
          (goes_on c.args.program.now c.args.done.now c.args.reads.now c.args.geometry c.args.sight.now i c.loop-i.sight c.loop-i.table c.loop-i.invariant line is_done
          c.loop-i-test.true c.requires.told c.index-program-i.is refl w.in-Some.command w.in-Some.is w.step.new.sight w.step.new.table after.looks after.prints)
      | in_default w ↦
          goes_at c.args.program.now c.args.done.now c.args.reads.now c.args.geometry c.args.sight.now (i + 1) c.loop-i.sight c.match-line.sight c.loop-i.table c.match-line.table w.sight-is w.table-is
          (goes_past c.args.program.now c.args.done.now c.args.reads.now c.args.geometry c.args.sight.now i c.loop-i.sight c.loop-i.table c.loop-i.invariant line is_done
          c.loop-i-test.true c.requires.told c.index-program-i.is refl w.in_default.is)
    ]

pub returns : goal.returns
returns c = λ h follows all.
    at_end c.args.program.now c.args.done.now c.args.reads.now c.args.geometry c.args.sight.now c.loop-i.i c.loop-i.sight c.loop-i.table c.loop-i.invariant
    c.print.new.self (texts c.in_ok-rows.rows.items) c.loop-i-test.false c.loop-i.auto.i-end
    (record { text = c.in_ok-print.ensures.text; last = c.in_ok-print.ensures.last })
    (λ to at. at_rest c.args.reads.now c.args.geometry c.loop-i.sight to at (texts c.in_ok-rows.rows.items) c.in_ok-rows.ensures) h follows all
