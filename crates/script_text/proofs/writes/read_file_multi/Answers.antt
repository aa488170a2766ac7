use Rattle.script_text.specs.Action.Action.{FMulti}
use Rattle.script_text.proofs.writes.read_file_multi.Goals as goal

pub returns-in-Ok : goal.returns-in-Ok
returns-in-Ok c = c.in-Ok.ensures FMulti
