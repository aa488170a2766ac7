use Rattle.pm_volume.proofs.LineLemmas.{fill-strong, stored-strong, written-durable, written-reads}
use Rattle.pm_volume.proofs.WriteLemmas.{may_write-count}
use Rattle.pm_volume.proofs.line_laws.a_line_is_written_whole.Goals as goal

pub returns-clause-written : goal.returns-clause-written
returns-clause-written c = λ place m pages n bytes stand within sound size small.
    let strong = fill-strong place m pages n stand within sound in
    (written-reads pages n bytes size small strong, written-durable pages n bytes (stored-strong pages n bytes strong))

pub returns-clause-first : goal.returns-clause-first
returns-clause-first c = λ place m old new left n bytes stand within sound size small durable may leaves.
    may_write-count n bytes old new left size small (fill-strong place m old n stand within sound) durable may leaves
