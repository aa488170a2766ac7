use Rattle.line_device.proofs.WriteBackLemmas.{write_back-refl}
use Rattle.test_devices.proofs.faulty.Faulty.fails_call.Goals as goal

pub returns-then-fails-clause-lines : goal.returns-then-fails-clause-lines
returns-then-fails-clause-lines g c = write_back-refl _

pub returns-else-fails-clause-lines : goal.returns-else-fails-clause-lines
returns-else-fails-clause-lines g c = write_back-refl _
