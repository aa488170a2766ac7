use Rattle.std.proofs.Common.{◌+◌, false, sym, ◌∙◌}
use Rattle.cut_places.proofs.GoingLemmas.{any_default, at_end, below, found_first, goes_at, goes_first, goes_on, goes_past, program_at, shown_there}
use Rattle.cut_places.proofs.finding.find.Goals.{in-Some+in_ok-found+else-is_some, in_default}
use Rattle.cut_places.proofs.finding.find.Goals as goal

pub loop-i-init : goal.loop-i-init
loop-i-init c = goes_first c.args.program.now c.args.done.now c.args.question.now c.args.geometry c.args.sight.now c.requires.within

pub step-requires-clause-program : goal.step-requires-clause-program
step-requires-clause-program c = program_at c.args.program.now c.loop-i.i c.in-Some.command c.index-program-i.result c.loop-i-test.true (sym c.in-Some.is ∙ c.index-program-i.is) c.requires.program

pub returns-then-is_some-clause-first : goal.returns-then-is_some-clause-first
returns-then-is_some-clause-first c =
    found_first c.args.program.now c.args.done.now c.args.question.now c.args.geometry c.args.sight.now c.loop-i.i c.loop-i.sight c.loop-i.invariant c.index-program-i.result
    _ c.loop-i-test.true c.requires.told c.index-program-i.is (any_default c.args.done.now c.loop-i.i false (below c.args.program.now c.args.done.now c.loop-i.i c.requires.told c.loop-i-test.true)) c.in-Some.command c.in-Some.is c.step.new.sight c.in_ok-found.found (sym (c.if-is_some.ensures))
    c.in_ok-found.ensures.explores

pub loop-i-preserved : goal.loop-i-preserved
loop-i-preserved c = elim c.match-line.branch [
  | in-Some+in_ok-found+else-is_some w ↦
      goes_at c.args.program.now c.args.done.now c.args.question.now c.args.geometry c.args.sight.now (c.loop-i.i + 1) w.step.new.sight c.match-line.sight w.sight-is
      (goes_on c.args.program.now c.args.done.now c.args.question.now c.args.geometry c.args.sight.now c.loop-i.i c.loop-i.sight c.loop-i.invariant c.index-program-i.result
      _ c.loop-i-test.true c.requires.told c.index-program-i.is (any_default c.args.done.now c.loop-i.i false (below c.args.program.now c.args.done.now c.loop-i.i c.requires.told c.loop-i-test.true)) w.in-Some.command w.in-Some.is w.step.new.sight w.in_ok-found.found (sym (w.if-is_some.ensures))
      w.in_ok-found.ensures.whole w.in_ok-found.ensures.enough w.in_ok-found.ensures.within w.in_ok-found.ensures.explores)
  | in_default w ↦
      goes_at c.args.program.now c.args.done.now c.args.question.now c.args.geometry c.args.sight.now (c.loop-i.i + 1) c.loop-i.sight c.match-line.sight w.sight-is
      (goes_past c.args.program.now c.args.done.now c.args.question.now c.args.geometry c.args.sight.now c.loop-i.i c.loop-i.sight c.loop-i.invariant c.index-program-i.result
      _ c.loop-i-test.true c.requires.told c.index-program-i.is (any_default c.args.done.now c.loop-i.i false (below c.args.program.now c.args.done.now c.loop-i.i c.requires.told c.loop-i-test.true)) w.in_default.is)
]

pub returns-then-shows-clause-first : goal.returns-then-shows-clause-first
returns-then-shows-clause-first c =
    at_end c.args.program.now c.args.done.now c.args.question.now c.args.geometry c.args.sight.now c.loop-i.i c.loop-i.sight c.loop-i.invariant _ (sym c.shows.ensures ∙ c.if-shows.true)
    c.loop-i-test.false c.loop-i.auto.i-end c.requires.replies

pub returns-clause-first : goal.returns-clause-first
returns-clause-first c =
    at_end c.args.program.now c.args.done.now c.args.question.now c.args.geometry c.args.sight.now c.loop-i.i c.loop-i.sight c.loop-i.invariant _ (sym c.shows.ensures ∙ c.if-shows.false)
    c.loop-i-test.false c.loop-i.auto.i-end c.requires.replies

pub returns-then-is_some-clause-shown : goal.returns-then-is_some-clause-shown
returns-then-is_some-clause-shown c =
    shown_there c.args.program.now c.args.done.now c.args.question.now c.args.geometry c.args.sight.now c.loop-i.i c.loop-i.sight c.loop-i.invariant c.index-program-i.result
    _ c.loop-i-test.true c.requires.told c.index-program-i.is (any_default c.args.done.now c.loop-i.i false (below c.args.program.now c.args.done.now c.loop-i.i c.requires.told c.loop-i-test.true))
    c.in-Some.command c.in-Some.is c.step.new.sight c.in_ok-found.found c.in_ok-found.ensures.shown

pub returns-then-shows-clause-shown : goal.returns-then-shows-clause-shown
returns-then-shows-clause-shown c = sym c.shows.ensures ∙ c.if-shows.true
