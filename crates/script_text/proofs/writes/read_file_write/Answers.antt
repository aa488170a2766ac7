use Rattle.script_text.specs.Action.Action.{FWrite}
use Rattle.script_text.proofs.writes.read_file_write.Goals as goal

pub returns-in-Ok : goal.returns-in-Ok
returns-in-Ok c = c.in-Ok.ensures FWrite
