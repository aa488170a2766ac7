use Rattle.std.proofs.Common.{refl}
use Rattle.word_log.specs.Replay.{listed, first_wrong}
use Rattle.word_log.proofs.lists.small_log_worked_through.Goals as goal

pub returns-clause-closed : goal.returns-clause-closed
unfolding listed
returns-clause-closed c = refl

pub returns-clause-open_ : goal.returns-clause-open_
unfolding listed
returns-clause-open_ c = refl

pub returns-clause-gate : goal.returns-clause-gate
unfolding first_wrong
returns-clause-gate c = refl

pub returns-clause-count : goal.returns-clause-count
unfolding first_wrong
returns-clause-count c = refl

pub returns-clause-outside : goal.returns-clause-outside
unfolding first_wrong
returns-clause-outside c = refl

pub returns-clause-twice : goal.returns-clause-twice
unfolding first_wrong
returns-clause-twice c = refl
