use Rattle.std.proofs.Common.{refl}
use Rattle.nvm_base.proofs.ReadingLemmas.{Adds-kept, Adds-passed, Adds-gone}
use Rattle.nvm_base.proofs.reading.Reading.take_run.Goals as goal
use Rattle.nvm_base.proofs.reading.Reading.take_run.Goals.{in_default-via-in-Some+else-count-left, in_default-via-in_default}

pub returns-in_ok-repeat-in-Some : goal.returns-in_ok-repeat-in-Some
returns-in_ok-repeat-in-Some c = Adds-kept _ _ _ _ c.in-Some.left c.in-Some.is refl c.if-count-left.true c.in_ok-repeat-in-Some.ensures.ok

pub returns-in_default : goal.returns-in_default
returns-in_default c = elim c.in_default.branch [
  | in_default-via-in-Some+else-count-left w ↦ Adds-passed _ _ _ _ w.in-Some.left w.in-Some.is refl w.if-count-left.false
  | in_default-via-in_default w ↦ Adds-gone _ _ _ w.in_default.is refl
]
