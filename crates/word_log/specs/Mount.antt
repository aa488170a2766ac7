-- What the answers of a mount say of the device as it was.
use Rattle.std.specs.Prelude.{◌≡◌, ℕ, true, Option, Some, None, Result}
use Rattle.std.specs.Option.{option_or}
use Rattle.line_device.specs.Medium.{Medium, WritesBack, last_image}
use Rattle.line_words.specs.declared.interruption.Interruption.TheVariants as stop
use Rattle.line_words.specs.Told.{Told, Explains}
use Rattle.line_words.specs.Told.Told.{Refuses, Stops, Starves}
use Rattle.word_log.specs.declared.area.LogArea.{LogArea}
use Rattle.word_log.specs.declared.fault.LogFault.{LogFault}
use Rattle.word_log.specs.declared.fault.LogFault.TheVariants.{Poisoned, Bad, Failed, PowerLost, Memory}
use Rattle.word_log.specs.Area.{IsLineOf, IsWhole}
use Rattle.word_log.specs.Replay.{first_wrong}

-- what keeps metadata from being used: a bad line, or a word that is not as it has to be
pub data Finding : Type 0 where
  bad_line : ℕ → Finding
  wrong_word : ℕ → Finding

-- what a fault tells
abbrev pub says : LogFault → Told Finding
says (Poisoned line) = Refuses (bad_line line.0)
says (Bad place) = Refuses (wrong_word place)
says Failed = Stops stop.Failed
says PowerLost = Stops stop.PowerLost
says Memory = Starves

-- the finding is that place
abbrev pub IsPlace : Option ℕ → Finding → Type 0
IsPlace wrong (bad_line line) = ⊥
IsPlace wrong (wrong_word place) = wrong ≡ Some place

-- nothing is wrong with words, or it is told which place is the first wrong one
abbrev pub FindsPlace : {T E : Type 0} → (E → Told Finding) → Option ℕ → Result T E → Type 0
FindsPlace tells wrong result = Explains tells (wrong ≡ None) (IsPlace wrong) result

-- the same of a log
abbrev pub TellsPlace : {T : Type 0} → Option ℕ → Result T LogFault → Type 0
TellsPlace wrong result = FindsPlace says wrong result

-- what is wrong with log and home, by a search of the last image: the line is one of theirs and bad; or none is, and this is
-- the first wrong place
abbrev pub IsWrongIn : LogArea → ((ℕ → ℕ) → Option ℕ) → Medium → Finding → Type 0
IsWrongIn a wrong m (bad_line line) = IsLineOf a line × (m.is_bad line ≡ true)
IsWrongIn a wrong m (wrong_word place) = IsWhole a m × (wrong (last_image m) ≡ Some place)

-- the lines are good and no place is wrong, or it is told what is
abbrev pub FindsIn : {T E : Type 0} → (E → Told Finding) → LogArea → ((ℕ → ℕ) → Option ℕ) → Medium → Result T E → Type 0
FindsIn tells a wrong m result = Explains tells (IsWhole a m × (wrong (last_image m) ≡ None)) (IsWrongIn a wrong m) result

-- the same of a log alone
abbrev pub IsFound : LogArea → Medium → Finding → Type 0
IsFound a m why = IsWrongIn a (first_wrong a) m why

abbrev pub LogFinds : {T : Type 0} → LogArea → Medium → Result T LogFault → Type 0
LogFinds a m result = FindsIn says a (first_wrong a) m result

-- Where something is wrong with a log, its mount has only written lines back, however it ended.
abbrev pub LeavesWrong : LogArea → Medium → Medium → Type 0
LeavesWrong a old new = (why : Finding) → IsFound a old why → WritesBack old new

-- the first wrong place of a log, or else of the table that its home words are once it is replayed
abbrev pub wrong_with : LogArea → ((ℕ → ℕ) → Option ℕ) → (ℕ → ℕ) → Option ℕ
wrong_with a table image = option_or (first_wrong a image) (table image)

-- the device did what it was asked, but there is no log to mount, or no memory
abbrev pub IsUnstopped : Told Finding → Type 0
IsUnstopped (Refuses finding) = Unit {0}
IsUnstopped (Stops stop) = ⊥
IsUnstopped Starves = Unit {0}

abbrev pub IsRefusal : LogFault → Type 0
IsRefusal fault = IsUnstopped (says fault)
