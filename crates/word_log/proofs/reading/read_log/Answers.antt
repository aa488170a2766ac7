use Rattle.line_device.proofs.WriteBackLemmas.{write_back-refl}
use Rattle.word_log.proofs.reading.read_log.Goals as goal

pub returns-in-Some-clause-lines : goal.returns-in-Some-clause-lines
returns-in-Some-clause-lines g c = write_back-refl _
