-- What the faults of calls tell.
use Rattle.line_words.specs.declared.interruption.Interruption.TheVariants as stop
use Rattle.line_words.specs.Told.{Told}
use Rattle.line_words.specs.Told.Told.{Refuses, Starves, Stops}
use Rattle.marked_lines.specs.Refusals.{ScrubRefusal}
use Rattle.marked_lines.specs.Refusals.ScrubRefusal.{Range, Nothing, NotPoisoned}
use Rattle.scrub.specs.declared.fault.PlaceFault.{PlaceFault}
use Rattle.scrub.specs.declared.fault.PlaceFault.TheVariants as place
use Rattle.scrub.specs.declared.fault.ScrubFault.{ScrubFault}
use Rattle.scrub.specs.declared.fault.ScrubFault.TheVariants as fault
use Rattle.scrub.specs.declared.fault.WeakenFault.{WeakenFault}
use Rattle.scrub.specs.declared.fault.WeakenFault.TheVariants as weaken

-- what faults tell: of a place, of a weakening, of a clear
abbrev pub place_says : PlaceFault → Told ScrubRefusal
place_says place.Range = Refuses Range
place_says place.Nothing = Refuses Nothing

abbrev pub weaken_says : WeakenFault → Told ScrubRefusal
weaken_says weaken.Range = Refuses Range
weaken_says weaken.Nothing = Refuses Nothing
weaken_says weaken.Memory = Starves

abbrev pub scrub_says : ScrubFault → Told ScrubRefusal
scrub_says fault.Range = Refuses Range
scrub_says fault.Nothing = Refuses Nothing
scrub_says fault.NotPoisoned = Refuses NotPoisoned
scrub_says fault.Device = Stops stop.Failed
scrub_says fault.PowerLost = Stops stop.PowerLost
