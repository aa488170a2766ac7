use Rattle.std.proofs.Common.{[], false, get_or, refl, sym, ◌+◌, ◌∙◌}
use Rattle.explorer.proofs.CutPlaces.GoingLemmas.{program_at}
use Rattle.explorer.proofs.ValueTables.WithinLemmas.{is_within}
use Rattle.outcome_lists.proofs.PlaceLemmas.{all_found, files_alone, files_follow, found_first, found_on, found_past}
use Rattle.outcome_lists.proofs.places.places.Goals.{in-Some+in_ok-add_places+in_ok-follow, in_default}
use Rattle.outcome_lists.proofs.places.places.Goals as goal

pub loop-i-init : goal.loop-i-init
loop-i-init c =
    let course = c.args.course.now in
    found_first course.program.now course.done.now course.geometry c.in_ok-seen.seen c.new-found.result.items
    (files_alone c.in_ok-seen.seen course.geometry c.in_ok-seen.ensures.lines c.in_ok-seen.ensures.blocks) c.new-found.ensures.items

pub follow-requires-clause-program : goal.follow-requires-clause-program
follow-requires-clause-program c =
    program_at c.args.course.now.program.now c.loop-i.i c.in-Some.command c.line-item.result c.loop-i-test.true (sym c.in-Some.is ∙ c.line-item.is) c.requires.course.program

pub follow-requires-clause-within : goal.follow-requires-clause-within
follow-requires-clause-within c = is_within c.loop-i.seen c.args.course.now.geometry [] c.loop-i.invariant.looks

pub loop-i-preserved : goal.loop-i-preserved
loop-i-preserved c =
    let course = c.args.course.now in
    let program = course.program.now in
    let done = course.done.now in
    let geo = course.geometry in
    let began = c.in_ok-seen.seen in
    let i = c.loop-i.i in
    let now = c.loop-i.seen in
    let line = c.line-item.result in
    let before = c.loop-i.invariant in
    let is_done = get_or done i false in
    elim c.match-line.branch [
      | in-Some+in_ok-add_places+in_ok-follow w ↦ rw (w.seen-is, w.state-is, w.found-is) (
          found_on program done geo began i now c.loop-i.state c.loop-i.found.items before line is_done c.loop-i-test.true c.requires.course.told c.line-item.is refl
          w.in-Some.command w.in-Some.is w.follow.new.sight (c.loop-i.state + 1) w.add_places.new.found.items refl w.in_ok-add_places.ensures
          (w.in_ok-follow.ensures.looks [] before.looks) w.in_ok-follow.ensures.follows)
      | in_default w ↦ rw (w.seen-is, w.state-is, w.found-is) (
          found_past program done geo began i now c.loop-i.state c.loop-i.found.items before line is_done c.loop-i-test.true c.requires.course.told c.line-item.is refl
          w.in_default.is)
    ]

pub returns : goal.returns
returns c =
    let course = c.args.course.now in
    λ h is.
    all_found course.program.now course.done.now course.geometry c.in_ok-seen.seen c.loop-i.i c.loop-i.seen c.loop-i.state c.loop-i.found.items c.loop-i.invariant
    c.push.new.self.items c.before-2.result c.loop-i-test.false c.loop-i.auto.i-end c.before-2.ensures c.in_ok-push.ensures.items h
    (files_follow course.sight.now c.in_ok-seen.seen course.geometry h c.in_ok-seen.ensures.lines c.in_ok-seen.ensures.blocks c.in_ok-seen.ensures.files is.follows)
    is.done
