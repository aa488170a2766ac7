use Rattle.line_words.proofs.CallLemmas.{write_back-stored_word}
use Rattle.line_words.proofs.words.store_word.Goals as goal

pub returns-in-Ok-clause-lines : goal.returns-in-Ok-clause-lines
returns-in-Ok-clause-lines g c =
    write_back-stored_word (g.L.Lines.state c.args.dev.now).medium _ c.args.place c.args.value c.word_bytes.result c.ranges.value.fits c.word_bytes.ensures c.in-Ok.ensures.lines
