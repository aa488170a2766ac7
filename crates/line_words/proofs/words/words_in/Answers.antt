use Rattle.std.proofs.Common.{◌∙◌, arith}
use Rattle.line_device.proofs.WordLemmas.{word_spelled}
use Rattle.line_words.proofs.words.words_in.Goals as goal

pub returns-clause-words : goal.returns-clause-words
returns-clause-words c = λ w below. c.read_u64_into.ensures w (omega arith) ∙ word_spelled c.args.bytes.now w
