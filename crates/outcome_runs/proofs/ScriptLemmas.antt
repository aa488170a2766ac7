-- What a script writes to blocks are bytes, and its names are names.
use Rattle.std.proofs.Common.{ℕ, List, [], ◌∷◌}
use Rattle.script_text.specs.Action.{Action}
use Rattle.script_text.specs.Action.Action.{BWrite, BAtomic, BMulti, Create, Rename}
use Rattle.script_text.specs.Script.{Input, inputs}
use Rattle.script_text.specs.Script.Input.{Skipped, Malformed, Overlong, Asked}
use Rattle.outcome_runs.specs.Brings.{BringRight, BringsRight}
use Rattle.state_images.specs.Storable.{AreBytes}
use Rattle.durable.proofs.DataLemmas.{AllBytes}
use Rattle.durable.proofs.ScriptLemmas.{BringRead, BringsRead, read-script}

low : (bytes : List ℕ) → AllBytes bytes → AreBytes bytes
low [] small = tt
low (b ∷ bytes) small = (small.0, low bytes small.1)

right-action : (action : Action) → BringsRead action → BringsRight action
right-action (BWrite block bytes) small = low bytes small
right-action (BAtomic block bytes) small = low bytes small
right-action (BMulti ranges bytes) small = low bytes small
right-action (Create name pages) is = is
right-action (Rename name to) is = is
right-action other read = tt

right-inputs : (inputs : List Input) → BringRead inputs → BringRight inputs
right-inputs [] read = tt
right-inputs (Asked action ∷ inputs) read = (right-action action read.0, right-inputs inputs read.1)
right-inputs (Skipped ∷ inputs) read = right-inputs inputs read
right-inputs (Malformed ∷ inputs) read = right-inputs inputs read
right-inputs (Overlong ∷ inputs) read = right-inputs inputs read

pub bring-script : (script : List ℕ) → BringRight (inputs script)
bring-script script = right-inputs (inputs script) (read-script script)
