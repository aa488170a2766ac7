-- A word of the volume or of a file, as it is held.
use Rattle.std.specs.Prelude.{ℕ}
use Rattle.explorer.specs.Outcomes.Pages.{PageReply}
use Rattle.explorer.specs.Outcomes.Seen.{Seen}
use Rattle.explorer.specs.Outcomes.Seen.Seen.{of_file, of_volume}
use Rattle.explorer.specs.AskedReads.declared.read.Read.{Read}
use Rattle.explorer.specs.AskedReads.declared.read.Read.TheVariants.{Volume, File}
use Rattle.outcome_lists.specs.declared.word.Word.{Word}
use Rattle.outcome_lists.specs.declared.word.Word.TheVariants.{OfVolume, OfFile}

abbrev pub part_of_word : Word → Read
part_of_word (OfVolume start len) = Volume start len
part_of_word (OfFile name start len) = File name.now start len

abbrev pub start_of_word : Word → ℕ
start_of_word (OfVolume start len) = start
start_of_word (OfFile name start len) = start

-- its read with a reply
abbrev pub seen_of_word : Word → PageReply → Seen
seen_of_word (OfVolume start len) reply = of_volume (record { start = start; len = len; reply = reply })
seen_of_word (OfFile name start len) reply = of_file (record { name = name.now; pages = record { start = start; len = len; reply = reply } })
