use Rattle.state_images.proofs.laws.the_volume_is_read.Goals as goal
use Rattle.state_images.proofs.VolumeLemmas.{presence-is, volume-is}

pub returns-clause-there : goal.returns-clause-there
returns-clause-there c = presence-is

pub returns-clause-pages : goal.returns-clause-pages
returns-clause-pages c = volume-is
