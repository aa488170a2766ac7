use Rattle.std.proofs.Common.{◌≤◌, length, ap, arith}
use Rattle.script_text.specs.Script.{words_of}
use Rattle.script_text.proofs.BoundLemmas.{Parses-bounds, Parses-short}
use Rattle.script_text.proofs.LengthLemmas.{length-strip_last}
use Rattle.script_text.proofs.parsing.parse.Goals as goal

pub returns-clause-long : goal.returns-clause-long
returns-clause-long c =
    (λ e. absurd (Parses-short (words_of c.without_return.result.now) c.parse_words.result c.parse_words.ensures.input e), λ over. absurd (omega (arith, over, c.if-line-gt-MOST.false)))

pub returns-clause-bounds : goal.returns-clause-bounds
returns-clause-bounds c =
    let most : length c.without_return.result.now ≤ 65536 = omega (arith, ap length c.without_return.ensures, length-strip_last 13 c.args.line.now, c.if-line-gt-MOST.false) in
    Parses-bounds c.without_return.result.now c.parse_words.result most c.parse_words.ensures.input
