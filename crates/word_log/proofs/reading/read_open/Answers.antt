use Rattle.std.proofs.Common.{◌∙◌, [], sym, ap, arith}
use Rattle.line_device.proofs.WriteBackLemmas.{write_back-trans, newest-write_back}
use Rattle.line_device.specs.Medium.{last_image}
use Rattle.word_log.specs.Area.{entry_place}
use Rattle.word_log.specs.Replay.{wrong_entry}
use Rattle.word_log.proofs.AnswerLemmas.{tells-handed_on}
use Rattle.word_log.proofs.ReadLemmas.{counted}
use Rattle.word_log.proofs.reading.read_open.Goals as goal

pub returns-in_err-changes-clause-tells : goal.returns-in_err-changes-clause-tells
returns-in_err-changes-clause-tells g c = tells-handed_on _ _ _ c.from_residual-in_err-changes.ensures.1 c.in_err-changes.ensures.stops

pub returns-in_err-changes-clause-lines : goal.returns-in_err-changes-clause-lines
returns-in_err-changes-clause-lines g c = write_back-trans _ _ _ c.in_ok-count.ensures.lines c.in_err-changes.ensures.lines

pub returns-in-Some-clause-lines : goal.returns-in-Some-clause-lines
returns-in-Some-clause-lines g c = write_back-trans _ _ _ c.in_ok-count.ensures.lines c.in_ok-changes.ensures.lines

pub returns-in-None-clause-lines : goal.returns-in-None-clause-lines
returns-in-None-clause-lines g c = write_back-trans _ _ _ c.in_ok-count.ensures.lines c.in_ok-changes.ensures.lines

pub returns-in-Some-clause-tells : goal.returns-in-Some-clause-tells
returns-in-Some-clause-tells g c =
    let old = last_image (g.L.Lines.state c.args.dev.now).medium in
    (counted c.args.area _ _ c.in_ok-count.count _ (omega arith) c.if-count-area.false
    (c.in_ok-count.ensures.value ∙ ap old c.count_place.ensures) (newest-write_back _ _ c.in_ok-count.ensures.lines) c.in_ok-changes.ensures.entries).wrong
    ∙ sym (ap (wrong_entry c.args.area (entry_place c.args.area 0) []) c.as_slice.ensures)
    ∙ sym c.wrong_place.ensures
    ∙ c.in-Some.is

pub returns-in-None-clause-tells : goal.returns-in-None-clause-tells
returns-in-None-clause-tells g c =
    let old = last_image (g.L.Lines.state c.args.dev.now).medium in
    (counted c.args.area _ _ c.in_ok-count.count _ (omega arith) c.if-count-area.false
    (c.in_ok-count.ensures.value ∙ ap old c.count_place.ensures) (newest-write_back _ _ c.in_ok-count.ensures.lines) c.in_ok-changes.ensures.entries).wrong
    ∙ sym (ap (wrong_entry c.args.area (entry_place c.args.area 0) []) c.as_slice.ensures)
    ∙ sym c.wrong_place.ensures
    ∙ c.in-None.is

pub returns-in-None-clause-changes : goal.returns-in-None-clause-changes
returns-in-None-clause-changes g c =
    let old = last_image (g.L.Lines.state c.args.dev.now).medium in
    (counted c.args.area _ _ c.in_ok-count.count _ (omega arith) c.if-count-area.false
    (c.in_ok-count.ensures.value ∙ ap old c.count_place.ensures) (newest-write_back _ _ c.in_ok-count.ensures.lines) c.in_ok-changes.ensures.entries).read
