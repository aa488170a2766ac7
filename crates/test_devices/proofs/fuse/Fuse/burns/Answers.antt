use Rattle.line_device.proofs.WriteBackLemmas.{write_back-refl}
use Rattle.test_devices.proofs.fuse.Fuse.burns.Goals as goal

pub returns-in-None-clause-lines : goal.returns-in-None-clause-lines
returns-in-None-clause-lines g c = write_back-refl _

pub returns-in-Some-clause-lines : goal.returns-in-Some-clause-lines
returns-in-Some-clause-lines g c = write_back-refl _
