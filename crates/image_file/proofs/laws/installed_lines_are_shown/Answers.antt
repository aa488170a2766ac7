use Rattle.image_file.proofs.ShownLemmas.{back, depicted, sound}
use Rattle.image_file.proofs.laws.installed_lines_are_shown.Goals as goal

pub returns-clause-depicted : goal.returns-clause-depicted
returns-clause-depicted c = depicted

pub returns-clause-sound : goal.returns-clause-sound
returns-clause-sound c = sound

pub returns-clause-back : goal.returns-clause-back
returns-clause-back c = back
