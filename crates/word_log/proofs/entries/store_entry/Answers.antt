use Rattle.std.proofs.Common.{◌+◌, ◌<◌, ◌≤◌, sym, arith}
use Rattle.word_log.proofs.StepLemmas.{stores_pair}
use Rattle.line_words.proofs.FrameLemmas.{outside-wider}
use Rattle.word_log.proofs.entries.store_entry.Goals as goal

pub returns-clause-outside : goal.returns-clause-outside
returns-clause-outside g c =
    let at = c.entry_place-place.result in
    outside-wider (λ p. (at ≤ p) × (p < at + 2)) _ _ _ (λ p within. (omega (arith, c.entry_place-place.ensures, within), omega (arith, c.entry_place-place.ensures, within)))
    (stores_pair c.store_word-2.result at c.args.change.0 c.args.change.1 _ _ _ c.in_ok-store_word.ensures.lines c.store_word-2.ensures.lines).outside

pub returns-clause-place : goal.returns-clause-place
returns-clause-place g c =
    rw (sym c.entry_place-place.ensures)
    (stores_pair c.store_word-2.result c.entry_place-place.result c.args.change.0 c.args.change.1 _ _ _ c.in_ok-store_word.ensures.lines c.store_word-2.ensures.lines).first

pub returns-clause-value : goal.returns-clause-value
returns-clause-value g c =
    rw (sym c.entry_place-place.ensures)
    (stores_pair c.store_word-2.result c.entry_place-place.result c.args.change.0 c.args.change.1 _ _ _ c.in_ok-store_word.ensures.lines c.store_word-2.ensures.lines).second
