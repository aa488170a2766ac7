use Rattle.std.proofs.Common.{◌≡◌, ◌++◌, length, option_map}
use Rattle.script_text.specs.Operands.{spans_of}
use Rattle.script_text.specs.Script.{words_of}
use Rattle.script_text.proofs.spans.read_all_spans.Given as goal

abbrev pub invariant-loop-spans : goal.invariant-loop-spans
invariant-loop-spans l = spans_of (words_of l.words) ≡ option_map (λ more. l.spans.items ++ more) (spans_of (words_of l.rest))

abbrev pub decreases-loop-spans : goal.decreases-loop-spans
decreases-loop-spans l = length (words_of l.rest)
