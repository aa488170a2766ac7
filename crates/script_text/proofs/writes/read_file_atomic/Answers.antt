use Rattle.script_text.specs.Action.Action.{FAtomic}
use Rattle.script_text.proofs.writes.read_file_atomic.Goals as goal

pub returns-in-Ok : goal.returns-in-Ok
returns-in-Ok c = c.in-Ok.ensures FAtomic
