-- What the questions of a script ask: of each look reads of the script, with replies that these may have.
use Rattle.std.specs.Prelude.{◌≡◌, ◌⊎◌, true, List, [], ◌∷◌, Some}
use Rattle.script_text.specs.Action.{Action}
use Rattle.outcomes.specs.Seen.{Seen}
use Rattle.outcomes.specs.Seen.Seen.{of_blocks, of_file, of_volume}
use Rattle.asked_reads.specs.declared.read.Read.{Read}
use Rattle.asked_reads.specs.declared.read.Read.TheVariants.{Volume, Blocks, File}
use Rattle.word_tables.specs.declared.geometry.Geometry.{Geometry}
use Rattle.exploration.specs.Exploration.{Asked}
use Rattle.exploration.specs.Fitting.{may_be}
use Rattle.exploration.specs.Reads.{read_of}

-- the read by which this is seen
abbrev pub read_seen : Seen → Read
read_seen (of_volume r) = Volume r.start r.len
read_seen (of_blocks r) = Blocks r.first r.count
read_seen (of_file r) = File r.name r.pages.start r.pages.len

-- it is one of these commands
abbrev pub IsReadBy : Seen → List Action → Type 0
IsReadBy seen [] = ⊥
IsReadBy seen (action ∷ actions) = (read_of action ≡ Some (read_seen seen)) ⊎ IsReadBy seen actions

-- each is seen by one of them, and may be on a device of these sizes
abbrev pub AreSeenBy : Geometry → List Action → List Seen → Type 0
AreSeenBy geo reads [] = Unit {0}
AreSeenBy geo reads (seen ∷ look) = IsReadBy seen reads × (may_be geo seen ≡ true) × AreSeenBy geo reads look

-- So is each question's look.
abbrev pub AllSeenBy : Geometry → List Action → List Asked → Type 0
AllSeenBy geo reads [] = Unit {0}
AllSeenBy geo reads (asked ∷ others) = AreSeenBy geo reads asked.look × AllSeenBy geo reads others
