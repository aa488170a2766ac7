use Rattle.std.proofs.Common.{◌≡◌, ◌||◌, sym, ap, ◌∙◌, subst, arith, List, slice_get, Some}
use Rattle.std.proofs.lemmas.Result.{err_from_is_err_and}
use Rattle.explore_program.specs.Telling.{is_missed}
use Rattle.outcome_lists.specs.AskedReads.Asking.{IsLook}
use Rattle.outcome_lists.specs.AskedReads.declared.read.Read.{Read}
use Rattle.outcome_lists.specs.OutcomeTest.Seen.{Seen}
use Rattle.outcome_lists.specs.Explorer.Tabulating.{LooksWithin, looked}
use Rattle.image_file.specs.Text.{snapshot_of}
use Rattle.program_base.specs.Opening.{opened}
use Rattle.explore_program.proofs.AnswerLemmas.{answered_none, asked_at, goes_more, goes_through, goes_unfound, goes_unlooked, goes_untold, looked_asks, looked_replies, spelled_by}
use Rattle.explore_program.proofs.answering.answer_all.Goals.{then-missed, else-missed}
use Rattle.explore_program.proofs.answering.answer_all.Goals as goal

pub loop-asking-init : goal.loop-asking-init
loop-asking-init g c = record { later = omega arith; device = record { setups = omega arith; faults = omega arith; cuts = omega arith }; answered = λ asked ask under. answered_none _ _ _ asked (g.K.Sink.written c.args.answers.now) }

pub find-requires-clause-replies : goal.find-requires-clause-replies
find-requires-clause-replies g c = looked_replies c.requires.sizes c.in_ok-looked.ensures

pub returns-in_err-looked : goal.returns-in_err-looked
returns-in_err-looked g c asked ask under =
    let p = err_from_is_err_and c.from_residual.result c.from_residual.ensures.1 in
    rw (p.1, p.2) (goes_unlooked (opened (snapshot_of c.args.image.now)).geometry c.args.exploration.now.reads.items _ asked (g.K.Sink.written c.args.answers.now) (g.K.Sink.count c.args.answers.now) (g.K.Sink.count c.args.answers.now) (g.D.Lines.state c.args.device.now).panel (g.D.Lines.state c.args.device.now).panel)

pub returns-in_err-found : goal.returns-in_err-found
returns-in_err-found g c asked ask under =
    let p = err_from_is_err_and c.from_residual-in_err-found.result c.from_residual-in_err-found.ensures.1 in
    let at = subst (λ questions. slice_get questions c.loop-asking.asking-index ≡ Some c.asking-item.result) c.deref-asking-items.ensures.value
    (asked_at c.deref-asking-items.result.now c.loop-asking.asking-index c.asking-item.result c.loop-asking-test.true c.asking-item.is) in
    rw (p.1, p.2) (goes_unfound (opened (snapshot_of c.args.image.now)).geometry c.args.exploration.now.reads.items _ c.args.exploration.now.questions.items c.loop-asking.asking-index c.asking-item.result c.loop-asking.missed _ _ (g.K.Sink.written c.loop-asking.answers) _ _ (g.K.Sink.count c.loop-asking.answers) _ _ (g.D.Lines.state c.find.new.device).panel at
    c.loop-asking.invariant c.in_err-found.field-0.0 c.in_err-found.ensures.cause asked ask under)

pub returns-in_err-tell : goal.returns-in_err-tell
returns-in_err-tell g c asked ask under =
    let p = err_from_is_err_and c.from_residual-in_err-tell.result c.from_residual-in_err-tell.ensures.1 in
    let at = subst (λ questions. slice_get questions c.loop-asking.asking-index ≡ Some c.asking-item.result) c.deref-asking-items.ensures.value
    (asked_at c.deref-asking-items.result.now c.loop-asking.asking-index c.asking-item.result c.loop-asking-test.true c.asking-item.is) in
    let geo = (opened (snapshot_of c.args.image.now)).geometry in
    let all = looked geo c.args.exploration.now.reads.items in
    let asks = subst (λ (rs : List Read). IsLook (looked geo rs) c.in_ok-looked.looked) c.deref.ensures.value (looked_asks c.requires.sizes c.in_ok-looked.ensures) in
    let finds = λ (look : List Seen) (is : IsLook look c.asking-item.result.question) (within : LooksWithin all look). c.in_ok-found.ensures.found look all is asks within in
    rw (p.1, p.2) (goes_untold (opened (snapshot_of c.args.image.now)).geometry c.args.exploration.now.reads.items _ c.args.exploration.now.questions.items c.loop-asking.asking-index c.asking-item.result c.loop-asking.missed _ _ _ _ _ _ _ _ (g.D.Lines.state c.find.new.device).panel at
    c.loop-asking.invariant c.in_err-tell.field-0.0 c.in_ok-found.found c.answer_line.result c.tell.result finds
    (spelled_by _ _ _ c.answer_line.result asks c.answer_line.ensures) c.tell.ensures.bytes c.in_err-tell.ensures.cause asked ask under)

pub loop-asking-preserved : goal.loop-asking-preserved
loop-asking-preserved g c =
    let at = subst (λ questions. slice_get questions c.loop-asking.asking-index ≡ Some c.asking-item.result) c.deref-asking-items.ensures.value
    (asked_at c.deref-asking-items.result.now c.loop-asking.asking-index c.asking-item.result c.loop-asking-test.true c.asking-item.is) in
    let says : c.if-missed.missed ≡ (c.loop-asking.missed || is_missed c.asking-item.result.wanted c.in_ok-found.found) = elim c.if-missed.branch [
      | then-missed w ↦ w.missed-is ∙ w.if-missed.true ∙ sym (ap (λ b. b || is_missed c.asking-item.result.wanted c.in_ok-found.found) w.if-missed.true)
      | else-missed w ↦ w.missed-is ∙ w.is_missed-missed.ensures ∙ sym (ap (λ b. b || is_missed c.asking-item.result.wanted c.in_ok-found.found) w.if-missed.false)
    ] in
    let geo = (opened (snapshot_of c.args.image.now)).geometry in
    let all = looked geo c.args.exploration.now.reads.items in
    let asks = subst (λ (rs : List Read). IsLook (looked geo rs) c.in_ok-looked.looked) c.deref.ensures.value (looked_asks c.requires.sizes c.in_ok-looked.ensures) in
    let finds = λ (look : List Seen) (is : IsLook look c.asking-item.result.question) (within : LooksWithin all look). c.in_ok-found.ensures.found look all is asks within in
    goes_more (opened (snapshot_of c.args.image.now)).geometry c.args.exploration.now.reads.items _ c.args.exploration.now.questions.items c.loop-asking.asking-index c.asking-item.result c.loop-asking.missed _ _ _ _ _ _ _ _ (g.D.Lines.state c.find.new.device).panel at
    c.loop-asking.invariant c.in_ok-found.found c.if-missed.missed c.answer_line.result c.tell.result c.in_ok-tell.field-0
    finds c.in_ok-found.ensures.counts (spelled_by _ _ _ c.answer_line.result asks c.answer_line.ensures) c.tell.ensures.bytes c.in_ok-tell.was c.tell.ensures.later says

pub returns : goal.returns
returns g c asked ask under = goes_through (opened (snapshot_of c.args.image.now)).geometry c.args.exploration.now.reads.items _ c.args.exploration.now.questions.items c.loop-asking.asking-index c.loop-asking.missed _ _ _ _ _ _ (omega (arith, c.loop-asking-test.false, c.deref-asking-items.ensures.len)) c.loop-asking.invariant asked ask under
