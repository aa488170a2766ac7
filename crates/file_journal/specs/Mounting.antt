-- What the answers of a mount say.
use Rattle.std.specs.Prelude.{ℕ, List, Result}
use Rattle.line_device.specs.Medium.{Medium}
use Rattle.line_words.specs.declared.interruption.Interruption.TheVariants as stop
use Rattle.line_words.specs.Told.{Told}
use Rattle.line_words.specs.Told.Told.{Refuses, Stops, Starves}
use Rattle.word_tables.specs.declared.geometry.Geometry.{Geometry}
use Rattle.word_log.specs.Mount.{Finding, FindsIn, FindsPlace}
use Rattle.word_log.specs.Mount.Finding.{bad_line, wrong_word}
use Rattle.file_journal.specs.declared.fault.MountFault.{MountFault}
use Rattle.file_journal.specs.declared.fault.MountFault.TheVariants.{Poisoned, Bad, Device, PowerLost, Memory}
use Rattle.file_journal.specs.Area.{file_area}
use Rattle.file_journal.specs.Reading.{wrong_file_place, wrong_table}

-- what a fault of a mount tells
abbrev pub journal_mount_says : MountFault → Told Finding
journal_mount_says (Poisoned line) = Refuses (bad_line line.0)
journal_mount_says (Bad place) = Refuses (wrong_word place)
journal_mount_says Device = Stops stop.Failed
journal_mount_says PowerLost = Stops stop.PowerLost
journal_mount_says Memory = Starves

-- A mount ends well only where nothing is wrong with log and tables, and else tells what is.
abbrev pub FindsJournal : {T : Type 0} → Geometry → Medium → Result T MountFault → Type 0
FindsJournal geo m result = FindsIn journal_mount_says (file_area geo) (wrong_file_place geo) m result

-- The same of the tables' words alone.
abbrev pub FindsTables : {T : Type 0} → Geometry → List ℕ → Result T MountFault → Type 0
FindsTables geo words result = FindsPlace journal_mount_says (wrong_table geo words) result
