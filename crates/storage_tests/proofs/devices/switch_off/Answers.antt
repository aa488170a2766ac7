use Rattle.line_device.proofs.WriteBackLemmas.{write_back-refl}
use Rattle.storage_tests.proofs.devices.switch_off.Goals as goal

pub returns-else-power-clause-lines : goal.returns-else-power-clause-lines
returns-else-power-clause-lines g c = write_back-refl _
