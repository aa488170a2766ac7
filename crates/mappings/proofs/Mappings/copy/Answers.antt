-- What is kept under a handle is the mapping that is listed with it.
use Rattle.std.proofs.Common.{refl}
use Rattle.mappings.proofs.ListedLemmas.{mapping_of-listed}
use Rattle.mappings.proofs.Mappings.copy.Goals as goal

pub returns-in_err-mapping : goal.returns-in_err-mapping
returns-in_err-mapping c = rw (← c.self.view_is, mapping_of-listed, ← c.get.ensures.value, c.in_err-mapping.was, c.from_residual.ensures) refl

pub returns-in-Shared : goal.returns-in-Shared
returns-in-Shared c = rw (← c.self.view_is, mapping_of-listed, ← c.get.ensures.value, c.in_ok-mapping.was, c.in-Shared.is) refl

pub returns-in-Private : goal.returns-in-Private
returns-in-Private c = rw (← c.self.view_is, mapping_of-listed, ← c.get.ensures.value, c.in_ok-mapping.was, c.in-Private.is, c.as_slice.ensures) refl
