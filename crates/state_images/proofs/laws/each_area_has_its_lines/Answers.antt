use Rattle.state_images.proofs.laws.each_area_has_its_lines.Goals as goal
use Rattle.state_images.proofs.LaidLemmas.{area-at}

pub returns : goal.returns
returns c = area-at
