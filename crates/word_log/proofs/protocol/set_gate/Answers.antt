use Rattle.std.proofs.Common.{inl}
use Rattle.line_device.proofs.HistoryLemmas.{is_in-word_write_back}
use Rattle.word_log.specs.Area.{gate_place}
use Rattle.word_log.proofs.FrameLemmas.{gate_line}
use Rattle.line_words.proofs.FrameLemmas.{outside-stored}
use Rattle.word_log.proofs.StepLemmas.{sets_gate}
use Rattle.word_log.proofs.protocol.set_gate.Goals as goal

pub returns-in_err-store_word-clause-either : goal.returns-in_err-store_word-clause-either
returns-in_err-store_word-clause-either g c = λ x at. inl (is_in-word_write_back _ x _ _ (c.in_err-store_word.ensures.lines.word_write_back (gate_place c.args.area)) at)

pub persist_line-requires-clause-good_line : goal.persist_line-requires-clause-good_line
persist_line-requires-clause-good_line g c =
    gate_line c.args.area _ _ _ c.requires.usable.fits c.requires.usable.strong c.requires.usable.whole (outside-stored _ _ _ _ c.in_ok-store_word.ensures.lines)

pub returns-clause-outside : goal.returns-clause-outside
returns-clause-outside g c =
    (sets_gate c.persist_line.result c.args.area c.args.gate _ _ _ _ c.requires.usable.fits c.requires.usable.strong c.requires.usable.whole c.gate_place.ensures c.in_ok-store_word.ensures.lines c.persist_line.ensures.lines).outside

pub returns-clause-either : goal.returns-clause-either
returns-clause-either g c =
    (sets_gate c.persist_line.result c.args.area c.args.gate _ _ _ _ c.requires.usable.fits c.requires.usable.strong c.requires.usable.whole c.gate_place.ensures c.in_ok-store_word.ensures.lines c.persist_line.ensures.lines).either

pub returns-clause-ok : goal.returns-clause-ok
returns-clause-ok g c =
    (sets_gate c.persist_line.result c.args.area c.args.gate _ _ _ _ c.requires.usable.fits c.requires.usable.strong c.requires.usable.whole c.gate_place.ensures c.in_ok-store_word.ensures.lines c.persist_line.ensures.lines).ok
