use Rattle.line_device.proofs.WriteBackLemmas.{write_back-refl}
use Rattle.scrub.proofs.clearing.clear_bad.Goals as goal

pub returns-then-not-is_bad-clause-lines : goal.returns-then-not-is_bad-clause-lines
returns-then-not-is_bad-clause-lines g c = write_back-refl _
