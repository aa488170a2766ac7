-- How calls on words and lines ended, as far as the device goes.
use Rattle.std.specs.Prelude.{Result, Ok, Err}
use Rattle.line_device.specs.Panel.{Outcome}
use Rattle.line_device.specs.Panel.Outcome.{went, failed, lost}
use Rattle.line_words.specs.declared.interruption.Interruption.{Interruption}
use Rattle.line_words.specs.declared.interruption.Interruption.TheVariants.{Failed, PowerLost}

-- what an interruption says of it
abbrev pub stop_outcome : Interruption → Outcome
stop_outcome Failed = failed
stop_outcome PowerLost = lost

abbrev pub ended : {T : Type 0} → Result T Interruption → Outcome
ended (Ok x) = went
ended (Err stop) = stop_outcome stop
