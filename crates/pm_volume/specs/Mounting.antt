-- What the answers of a mount say.
use Rattle.std.specs.Prelude.{ℕ, List, Result}
use Rattle.line_device.specs.Medium.{Medium}
use Rattle.line_words.specs.declared.interruption.Interruption.TheVariants as stop
use Rattle.line_words.specs.Told.{Told}
use Rattle.line_words.specs.Told.Told.{Refuses, Stops, Starves}
use Rattle.word_tables.specs.declared.geometry.Geometry.{Geometry}
use Rattle.word_log.specs.Mount.{Finding, FindsIn, FindsPlace}
use Rattle.word_log.specs.Mount.Finding.{bad_line, wrong_word}
use Rattle.pm_volume.specs.declared.fault.MountFault.{MountFault}
use Rattle.pm_volume.specs.declared.fault.MountFault.TheVariants.{Poisoned, Bad, Device, PowerLost, Memory}
use Rattle.pm_volume.specs.Area.{volume_area}
use Rattle.pm_volume.specs.Presence.{wrong_page_word, wrong_volume_place}

-- what a fault of a mount tells
abbrev pub volume_mount_says : MountFault → Told Finding
volume_mount_says (Poisoned line) = Refuses (bad_line line.0)
volume_mount_says (Bad place) = Refuses (wrong_word place)
volume_mount_says Device = Stops stop.Failed
volume_mount_says PowerLost = Stops stop.PowerLost
volume_mount_says Memory = Starves

-- A mount ends well only where nothing is wrong with log and presence words, and else tells what is.
abbrev pub FindsVolume : {T : Type 0} → Geometry → Medium → Result T MountFault → Type 0
FindsVolume geo m result = FindsIn volume_mount_says (volume_area geo) (wrong_volume_place geo) m result

-- The same of the words alone.
abbrev pub FindsPresence : {T : Type 0} → Geometry → List ℕ → Result T MountFault → Type 0
FindsPresence geo words result = FindsPlace volume_mount_says (wrong_page_word geo words) result
