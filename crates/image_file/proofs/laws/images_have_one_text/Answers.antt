use Rattle.image_file.proofs.TextLemmas.{snapshots_same, snapshot_right}
use Rattle.image_file.proofs.HeaderLemmas.{spelled}
use Rattle.image_file.proofs.laws.images_have_one_text.Goals as goal

pub returns-clause-one : goal.returns-clause-one
returns-clause-one c = snapshots_same

pub returns-clause-right : goal.returns-clause-right
returns-clause-right c = snapshot_right

pub returns-clause-spelled : goal.returns-clause-spelled
returns-clause-spelled c = spelled
