use Rattle.block_sights.proofs.SeenLemmas.{read_seen, seen_bytes, seen_size}
use Rattle.block_sights.proofs.laws.sights_tell_obstacles_and_bytes.Goals as goal

pub returns-clause-bytes : goal.returns-clause-bytes
returns-clause-bytes c = seen_bytes

pub returns-clause-size : goal.returns-clause-size
returns-clause-size c = seen_size

pub returns-clause-read : goal.returns-clause-read
returns-clause-read c = read_seen
