-- What is kept under a handle is the mapping that is listed with it.
use Rattle.std.proofs.Common.{refl}
use Rattle.mappings.proofs.ListedLemmas.{mapping_of-listed}
use Rattle.mappings.proofs.Mappings.get.Goals as goal

pub returns-in_err-get-clause-info : goal.returns-in_err-get-clause-info
returns-in_err-get-clause-info c = rw (← c.self.view_is, mapping_of-listed, ← c.get.ensures.value, c.in_err-get.was, c.from_residual.ensures) refl

pub returns-clause-info : goal.returns-clause-info
returns-clause-info c = rw (← c.self.view_is, mapping_of-listed, ← c.get.ensures.value, c.in_ok-get.was) refl
