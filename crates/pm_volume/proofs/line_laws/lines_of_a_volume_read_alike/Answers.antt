use Rattle.pm_volume.proofs.HoldsLemmas.{holds-read}
use Rattle.pm_volume.proofs.line_laws.lines_of_a_volume_read_alike.Goals as goal

pub returns : goal.returns
returns c = holds-read
