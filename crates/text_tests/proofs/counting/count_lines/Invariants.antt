use Rattle.script_text.specs.Streaming.{ahead}
use Rattle.script_text.proofs.GivenLemmas.{Counted}
use Rattle.text_tests.proofs.counting.count_lines.Given as goal

abbrev pub invariant-loop-count : goal.invariant-loop-count
invariant-loop-count g l = Counted (g.T.Source.left l.fn.source) (g.T.Source.left l.source) l.reader l.count

abbrev pub decreases-loop-count : goal.decreases-loop-count
decreases-loop-count g l = ahead l.reader
