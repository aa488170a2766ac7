use Rattle.std.proofs.Common.{[], ◌∷◌, ◌++◌, ap, false, get_or, map, refl, sym, ◌∙◌}
use Rattle.explorer.specs.Outcomes.Seen.{may_show}
use Rattle.explorer.specs.AskedReads.Program.{inputs_of_lines}
use Rattle.explorer.proofs.CutPlaces.GoingLemmas.{program_at}
use Rattle.explorer.proofs.ValueTables.WithinLemmas.{is_within}
use Rattle.outcome_lists.specs.Asking.{asked}
use Rattle.outcome_lists.specs.Choices.{states}
use Rattle.outcome_lists.specs.Outcomes.{look_of}
use Rattle.outcome_lists.proofs.CourseLemmas.{reaches_first, reaches_on, reaches_past, told_last}
use Rattle.outcome_lists.proofs.FitLemmas.{fits_next, whole_of}
use Rattle.outcome_lists.proofs.fitting.fits.Goals.{in-Some+in_ok-push+in_ok-follow, in_default}
use Rattle.outcome_lists.proofs.fitting.fits.Goals as goal

pub loop-i-init : goal.loop-i-init
loop-i-init c =
    let course = c.args.course.now in
    let geo = course.geometry in
    let q = c.args.question.now in
    let sight = c.in_ok-sight in
    record {
      looks = sight.ensures.looks;
      whole = whole_of course.sight.now sight.sight geo (c.args.part.now ∷ []) q c.requires.way sight.ensures.looks sight.ensures.files;
      reaches = λ h from.
          reaches_first course.program.now course.done.now geo sight.sight _ h (sight.ensures.follows h from.follows) from.done
          (ap (λ bs. bs ++ map (may_show (look_of (asked q))) (states h (inputs_of_lines course.program.now))) c.new-fits.ensures.items);
    }

pub follow-requires-clause-program : goal.follow-requires-clause-program
follow-requires-clause-program c =
    program_at c.args.course.now.program.now c.loop-i.i c.in-Some.command c.line-item.result c.loop-i-test.true (sym c.in-Some.is ∙ c.line-item.is) c.requires.course.program

pub follow-requires-clause-within : goal.follow-requires-clause-within
follow-requires-clause-within c = is_within c.loop-i.sight c.args.course.now.geometry (c.args.part.now ∷ []) c.loop-i.invariant.looks

pub loop-i-preserved : goal.loop-i-preserved
loop-i-preserved c =
    let program = c.args.course.now.program.now in
    let done = c.args.course.now.done.now in
    let geo = c.args.course.now.geometry in
    let q = c.args.question.now in
    let look = look_of (asked q) in
    let i = c.loop-i.i in
    let now = c.loop-i.sight in
    let were = c.loop-i.invariant in
    let line = c.line-item.result in
    let is_done = get_or done i false in
    elim c.match-line.branch [
      | in-Some+in_ok-push+in_ok-follow w ↦ rw (w.sight-is, w.fits-is) (record {
        looks = w.in_ok-follow.ensures.looks (c.args.part.now ∷ []) were.looks;
        whole = w.in_ok-follow.ensures.whole q were.whole;
        reaches = λ h from.
            reaches_on program done geo i now _ (were.reaches h from) line is_done c.loop-i-test.true c.requires.course.told c.line-item.is refl _ w.in-Some.command w.in-Some.is
            w.follow.new.sight w.in_ok-follow.ensures.follows
            (λ to lines follows allowed told. fits_next look c.loop-i.fits.items w.push.new.self.items _ w.shows.result to w.in-Some.command lines w.in_ok-push.ensures.items
            (w.shows.ensures to follows) told);
      })
      | in_default w ↦ rw (w.sight-is, w.fits-is) (record {
        looks = were.looks;
        whole = were.whole;
        reaches = λ h from. reaches_past program done geo i now _ (were.reaches h from) line is_done c.loop-i-test.true c.requires.course.told c.line-item.is refl _
            w.in_default.is (λ to lines told. told);
      })
    ]

pub returns : goal.returns
returns c = λ h from.
    let course = c.args.course.now in
    let reached = c.loop-i.invariant.reaches h from in
    c.in_ok-push-2.ensures.items ∙ ap (λ b. c.loop-i.fits.items ++ b ∷ []) (c.shows-2.ensures reached.to reached.follows)
    ∙ told_last course.program.now course.done.now course.geometry c.loop-i.i c.loop-i.sight _ reached c.loop-i-test.false
