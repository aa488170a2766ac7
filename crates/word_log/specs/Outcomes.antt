-- How a mount ended, as far as the device goes.
use Rattle.std.specs.Prelude.{Result}
use Rattle.line_device.specs.Panel.{Outcome}
use Rattle.line_words.specs.Told.{outcome_by}
use Rattle.word_log.specs.declared.fault.LogFault.{LogFault}
use Rattle.word_log.specs.Mount.{says}

abbrev pub log_outcome : {T : Type 0} → Result T LogFault → Outcome
log_outcome result = outcome_by says result
