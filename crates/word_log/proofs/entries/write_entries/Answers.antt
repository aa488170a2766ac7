use Rattle.std.proofs.Common.{arith}
use Rattle.word_log.proofs.FrameLemmas.{log_good_line}
use Rattle.line_words.proofs.FrameLemmas.{outside-trans, outside-write_back, outside-wider, good_line-outside}
use Rattle.word_log.proofs.StepLemmas.{writes_entries, behind_gate-entries, outside-counted}
use Rattle.word_log.proofs.entries.write_entries.Goals as goal

pub returns-in_err-store_word-clause-outside : goal.returns-in_err-store_word-clause-outside
returns-in_err-store_word-clause-outside g c =
    outside-trans _ _ _ _
    (outside-wider _ _ _ _ (λ p within. behind_gate-entries c.args.area c.args.changes.now _ p c.requires.usable.fits c.requires.taken.few within.0 within.1) c.in_ok-store_entries.ensures.outside)
    (outside-write_back _ _ _ c.in_err-store_word.ensures.lines)

pub persist_lines-requires-clause-good_line : goal.persist_lines-requires-clause-good_line
persist_lines-requires-clause-good_line g c = λ line from to.
    good_line-outside _ _ _ line
    (log_good_line c.args.area _ line c.requires.usable.fits c.requires.usable.strong c.requires.usable.whole from (omega (arith, c.requires.usable.fits.shape.len, c.requires.usable.fits.shape.whole, c.requires.taken.few, c.div_ceil.ensures)))
    (outside-counted c.args.area c.args.changes.now _ _ _ _ c.requires.usable.fits c.requires.taken.few c.in_ok-store_entries.ensures.outside c.count_place.ensures c.in_ok-store_word.ensures.lines)

pub returns-clause-outside : goal.returns-clause-outside
returns-clause-outside g c =
    (writes_entries c.persist_lines.result c.args.area c.args.changes.now _ c.div_ceil.result _ _ _ _ c.requires.usable.fits c.requires.taken.few c.in_ok-store_entries.ensures.outside c.in_ok-store_entries.ensures.ok c.count_place.ensures c.in_ok-store_word.ensures.lines (omega (arith, c.div_ceil.ensures)) c.persist_lines.ensures.lines c.persist_lines.ensures.ok).outside

pub returns-clause-ok : goal.returns-clause-ok
returns-clause-ok g c =
    (writes_entries c.persist_lines.result c.args.area c.args.changes.now _ c.div_ceil.result _ _ _ _ c.requires.usable.fits c.requires.taken.few c.in_ok-store_entries.ensures.outside c.in_ok-store_entries.ensures.ok c.count_place.ensures c.in_ok-store_word.ensures.lines (omega (arith, c.div_ceil.ensures)) c.persist_lines.ensures.lines c.persist_lines.ensures.ok).ok
