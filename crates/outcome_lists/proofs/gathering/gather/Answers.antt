use Rattle.std.proofs.Common.{[], ◌∷◌, ap, false, get_or, refl, sym, ◌∙◌}
use Rattle.explorer.specs.AskedReads.Program.{inputs_of_lines}
use Rattle.explorer.proofs.CutPlaces.GoingLemmas.{program_at}
use Rattle.explorer.proofs.ValueTables.WithinLemmas.{is_within}
use Rattle.outcome_lists.specs.Choices.{sights_through, states, values_through}
use Rattle.outcome_lists.proofs.CourseLemmas.{reaches_first, reaches_on, reaches_past, told_last}
use Rattle.outcome_lists.proofs.GatherLemmas.{sights_on, values_on}
use Rattle.outcome_lists.proofs.gathering.gather.Goals.{in-Some+in_ok-add+in_ok-follow, in_default}
use Rattle.outcome_lists.proofs.gathering.gather.Goals as goal

pub loop-i-init : goal.loop-i-init
loop-i-init c =
    let part = c.args.part.now in
    let program = c.args.course.now.program.now in
    record {
      looks = c.requires.looks;
      reaches = λ h follows all. reaches_first program c.args.course.now.done.now c.args.course.now.geometry c.args.sight.now _ h follows all (
        ap (λ vs. values_through part vs (states h (inputs_of_lines program))) c.none-gathered.ensures.values,
        ap (λ bs. sights_through part bs (states h (inputs_of_lines program))) c.none-gathered.ensures.blocks,
      );
    }

pub follow-requires-clause-program : goal.follow-requires-clause-program
follow-requires-clause-program c =
    program_at c.args.course.now.program.now c.loop-i.i c.in-Some.command c.line-item.result c.loop-i-test.true (sym c.in-Some.is ∙ c.line-item.is) c.requires.course.program

pub follow-requires-clause-within : goal.follow-requires-clause-within
follow-requires-clause-within c = is_within c.loop-i.sight c.args.course.now.geometry (c.args.part.now ∷ []) c.loop-i.invariant.looks

pub loop-i-preserved : goal.loop-i-preserved
loop-i-preserved c =
    let program = c.args.course.now.program.now in
    let done = c.args.course.now.done.now in
    let part = c.args.part.now in
    let geo = c.args.course.now.geometry in
    let i = c.loop-i.i in
    let now = c.loop-i.sight in
    let values = c.loop-i.gathered.word.word.values.items in
    let blocks = c.loop-i.gathered.blocks.items in
    let line = c.line-item.result in
    let is_done = get_or done i false in
    elim c.match-line.branch [
      | in-Some+in_ok-add+in_ok-follow w ↦ rw (w.sight-is, w.gathered-is) (record {
        looks = w.in_ok-follow.ensures.looks (part ∷ []) c.loop-i.invariant.looks;
        reaches = λ h follows all.
            reaches_on program done geo i now _ (c.loop-i.invariant.reaches h follows all) line is_done c.loop-i-test.true c.requires.course.told c.line-item.is refl _
            w.in-Some.command w.in-Some.is
            w.follow.new.sight w.in_ok-follow.ensures.follows
            (λ to lines follows allowed were. (
              values_on part to w.in-Some.command lines values w.add.new.self.word.word.values.items _
                  (w.in_ok-add.ensures.values geo to follows c.requires.taken c.loop-i.invariant.looks) were.0,
              sights_on part to w.in-Some.command lines blocks w.add.new.self.blocks.items _ (w.in_ok-add.ensures.blocks geo to follows c.requires.taken c.loop-i.invariant.looks)
                  were.1,
            ));
      })
      | in_default w ↦ rw (w.sight-is, w.gathered-is) (record {
        looks = c.loop-i.invariant.looks;
        reaches = λ h follows all.
            reaches_past program done geo i now _ (c.loop-i.invariant.reaches h follows all) line is_done c.loop-i-test.true c.requires.course.told c.line-item.is refl _
            w.in_default.is (λ to lines were. were);
      })
    ]

pub returns-clause-values : goal.returns-clause-values
returns-clause-values c = λ h follows all.
    let geo = c.args.course.now.geometry in
    let reached = c.loop-i.invariant.reaches h follows all in
    c.in_ok-add-2.ensures.values geo reached.to reached.follows c.requires.taken c.loop-i.invariant.looks
    ∙ (told_last c.args.course.now.program.now c.args.course.now.done.now geo c.loop-i.i c.loop-i.sight _ reached c.loop-i-test.false).0

pub returns-clause-blocks : goal.returns-clause-blocks
returns-clause-blocks c = λ h follows all.
    let geo = c.args.course.now.geometry in
    let reached = c.loop-i.invariant.reaches h follows all in
    c.in_ok-add-2.ensures.blocks geo reached.to reached.follows c.requires.taken c.loop-i.invariant.looks
    ∙ (told_last c.args.course.now.program.now c.args.course.now.done.now geo c.loop-i.i c.loop-i.sight _ reached c.loop-i-test.false).1
