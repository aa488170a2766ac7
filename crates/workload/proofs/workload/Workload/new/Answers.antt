use Rattle.std.proofs.Common.{refl}
use Rattle.workload.specs.Lines.{lines}
use Rattle.workload.proofs.workload.Workload.new.Goals as goal

pub returns : goal.returns
unfolding lines
returns c = refl
