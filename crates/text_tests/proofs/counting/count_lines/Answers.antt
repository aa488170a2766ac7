use Rattle.script_text.proofs.GivenLemmas.{counted-start, counted-next, counted-end}
use Rattle.text_tests.proofs.counting.count_lines.Goals as goal

pub loop-count-init : goal.loop-count-init
loop-count-init g c = counted-start _ _ c.requires

pub loop-count-preserved : goal.loop-count-preserved
loop-count-preserved g c = counted-next _ _ _ _ _ _ _ c.loop-count.invariant c.in_ok-next.ensures.reads c.in_ok-next.ensures.fewer c.in-Line.is

pub returns-in-End : goal.returns-in-End
returns-in-End g c = let reads = c.in_ok-next.ensures.reads in counted-end _ _ _ _ _ _ c.loop-count.invariant (rw c.in-End.is at reads)
