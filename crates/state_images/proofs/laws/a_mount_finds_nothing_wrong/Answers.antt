use Rattle.state_images.proofs.laws.a_mount_finds_nothing_wrong.Goals as goal
use Rattle.state_images.proofs.FileRightLemmas.{tables-right}
use Rattle.state_images.proofs.RightLemmas.{map-right, presence-right, superblock-right}

pub returns-clause-superblock : goal.returns-clause-superblock
returns-clause-superblock c = superblock-right

pub returns-clause-blocks : goal.returns-clause-blocks
returns-clause-blocks c = map-right

pub returns-clause-volume : goal.returns-clause-volume
returns-clause-volume c = presence-right

pub returns-clause-files : goal.returns-clause-files
returns-clause-files c = λ geo blocks volume files valid storable. tables-right geo blocks volume files storable valid
