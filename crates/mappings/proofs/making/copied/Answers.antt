use Rattle.line_device.proofs.WriteBackLemmas.{write_back-refl}
use Rattle.mappings.proofs.making.copied.Goals as goal

pub returns-in-Shared-clause-lines : goal.returns-in-Shared-clause-lines
returns-in-Shared-clause-lines g c = write_back-refl _
