use Rattle.std.proofs.Common.{◌+◌, ◌∙◌, ap}
use Rattle.line_device.specs.Medium.{last_image}
use Rattle.line_device.proofs.WriteBackLemmas.{write_back-trans, newest-write_back}
use Rattle.word_log.proofs.AnswerLemmas.{pair_same}
use Rattle.word_log.proofs.reading.read_entry.Goals as goal

pub returns-in_err-value-clause-lines : goal.returns-in_err-value-clause-lines
returns-in_err-value-clause-lines g c = write_back-trans _ _ _ c.in_ok-place.ensures.lines c.in_err-value.ensures.lines

pub returns-clause-lines : goal.returns-clause-lines
returns-clause-lines g c = write_back-trans _ _ _ c.in_ok-place.ensures.lines c.in_ok-value.ensures.lines

pub returns-clause-entry : goal.returns-clause-entry
returns-clause-entry g c =
    let old = (g.L.Lines.state c.args.dev.now).medium in
    pair_same _ _ _ _
    (c.in_ok-place.ensures.value ∙ ap (last_image old) c.entry_place-at.ensures)
    (c.in_ok-value.ensures.value ∙ newest-write_back old _ c.in_ok-place.ensures.lines (c.entry_place-at.result + 1) ∙ ap (λ p. last_image old (p + 1)) c.entry_place-at.ensures)
