-- What the answers of a mount say.
use Rattle.std.specs.Prelude.{ℕ, List, Option, Result, map, option_map}
use Rattle.line_device.specs.Medium.{Medium}
use Rattle.line_words.specs.declared.interruption.Interruption.TheVariants as stop
use Rattle.line_words.specs.Told.{Told}
use Rattle.line_words.specs.Told.Told.{Refuses, Stops, Starves}
use Rattle.word_tables.specs.declared.geometry.Geometry.{Geometry}
use Rattle.word_tables.specs.Words.{place, of_block}
use Rattle.word_log.specs.Mount.{Finding, FindsIn, FindsPlace, wrong_with}
use Rattle.word_log.specs.Mount.Finding.{bad_line, wrong_word}
use Rattle.block_map.specs.States.{word_of}
use Rattle.block_map.specs.Wrong as table
use Rattle.block_device.specs.declared.fault.MountFault.{MountFault}
use Rattle.block_device.specs.declared.fault.MountFault.TheVariants.{Poisoned, Bad, Device, PowerLost, Memory}
use Rattle.block_device.specs.Area.{block_area}
use Rattle.block_device.specs.Reading.{states_read}

-- what a fault of a mount tells
abbrev pub mount_says : MountFault → Told Finding
mount_says (Poisoned line) = Refuses (bad_line line.0)
mount_says (Bad place) = Refuses (wrong_word place)
mount_says Device = Stops stop.Failed
mount_says PowerLost = Stops stop.PowerLost
mount_says Memory = Starves

-- the place of the first wrong word of a map
abbrev pub wrong_map_word : Geometry → List ℕ → Option ℕ
wrong_map_word geo words = option_map (λ b. place geo (of_block b)) (table.first_wrong_entry words)

-- the first place of the map that is wrong, once its log is replayed
abbrev pub wrong_map : Geometry → (ℕ → ℕ) → Option ℕ
wrong_map geo word = wrong_map_word geo (map word_of (states_read geo word))

-- the first place that is wrong: of the log, or else of the map
abbrev pub wrong_place : Geometry → (ℕ → ℕ) → Option ℕ
wrong_place geo word = wrong_with (block_area geo) (wrong_map geo) word

-- A mount ends well only where nothing is wrong with log and map, and else tells what is.
abbrev pub FindsBlocks : {T : Type 0} → Geometry → Medium → Result T MountFault → Type 0
FindsBlocks geo m result = FindsIn mount_says (block_area geo) (wrong_place geo) m result

-- The same of the words of the map alone.
abbrev pub FindsMap : {T : Type 0} → Geometry → List ℕ → Result T MountFault → Type 0
FindsMap geo words result = FindsPlace mount_says (wrong_map_word geo words) result
