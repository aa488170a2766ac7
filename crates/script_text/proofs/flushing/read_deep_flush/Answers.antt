use Rattle.script_text.specs.Action.Action.{DeepFlush}
use Rattle.script_text.proofs.flushing.read_deep_flush.Goals as goal

pub returns-in-Ok : goal.returns-in-Ok
returns-in-Ok c = c.in-Ok.ensures DeepFlush
