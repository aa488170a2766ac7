use Rattle.state_images.proofs.laws.what_survives_has_an_image.Goals as goal
use Rattle.state_images.proofs.ShapeLemmas.{files-stored, volume-stored}

pub returns-clause-volume : goal.returns-clause-volume
returns-clause-volume c = volume-stored

pub returns-clause-files : goal.returns-clause-files
returns-clause-files c = files-stored
