use Rattle.std.proofs.Common.{◌-◌, ◌*◌, ◌∙◌, length, arith}
use Rattle.line_device.proofs.WordLemmas.{word_spelled-part}
use Rattle.line_device.proofs.words.word_in.Goals as goal

pub returns : goal.returns
returns c = c.read_u64.ensures ∙ word_spelled-part c.args.bytes.now c.args.w (length c.args.bytes.now - 8 * c.args.w) (omega arith)
