-- What is looked at for a table.
use Rattle.std.specs.Prelude.{◌≡◌, ◌*◌, ◌/◌, ◌++◌, ℕ, true, List, [], ◌∷◌, map, Option, Some, None}
use Rattle.word_tables.specs.declared.geometry.Geometry.{Geometry}
use Rattle.cut_places.specs.Outcomes.Blocks.{all_numbers_read}
use Rattle.cut_places.specs.Outcomes.Files.{FileRead}
use Rattle.reply_text.specs.declared.reply.Why.{Why}
use Rattle.cut_places.specs.Outcomes.Blocks.BlockReply.{Scar}
use Rattle.cut_places.specs.Outcomes.Pages.{PageRead, all_lines_read}
use Rattle.cut_places.specs.Outcomes.Pages.PageReply.{Poison}
use Rattle.cut_places.specs.Outcomes.Seen.{Seen, block_reads, file_reads, volume_reads}
use Rattle.cut_places.specs.Outcomes.Seen.Seen.{of_blocks, of_file, of_volume}
use Rattle.cut_places.specs.AskedReads.Asking.{IsLook, blocks_of, files_asked, may_be_replies, volume_asked}
use Rattle.cut_places.specs.AskedReads.declared.question.Question.{Question}
use Rattle.cut_places.specs.AskedReads.declared.read.Read.{Read}
use Rattle.cut_places.specs.AskedReads.declared.read.Read.TheVariants as reads
use Rattle.witnesses.specs.Files.{places_read}
use Rattle.witnesses.specs.Keeping.{IsAmong}
use Rattle.value_tables.specs.Looking.{blocks_looked_at, file_lines_looked_at, lines_looked_at}
use Rattle.value_tables.specs.Rows.{read_refusal}

-- reads of files without their names
abbrev pub pages_read : List FileRead → List PageRead
pages_read reads = map (λ (r : FileRead). r.pages) reads

-- The reads that are not refused, each as if its first line, or block, could not be read: what is looked at alone counts.
abbrev pub read_looked : Read → Seen
read_looked (reads.Volume start len) = of_volume (record { start = start; len = len; reply = Poison (start / 64 * 64) })
read_looked (reads.Blocks first count) = of_blocks (record { first = first; count = count; reply = Scar first })
read_looked (reads.File name start len) = of_file (record { name = name; pages = record { start = start; len = len; reply = Poison (start / 64 * 64) } })

abbrev pub unless_refused : Option Why → Seen → List Seen
unless_refused None seen = seen ∷ []
unless_refused (Some why) seen = []

abbrev pub looked : Geometry → List Read → List Seen
looked geo [] = []
looked geo (read ∷ look) = unless_refused (read_refusal geo read) (read_looked read) ++ looked geo look

-- a question that looks at just what these reads touch which are not refused, and may be asked
pub record LooksAt (geo : Geometry) (look : List Read) (q : Question) : Type 0 where
  pub lines : all_lines_read (volume_asked q) ≡ lines_looked_at geo look
  pub blocks : all_numbers_read (blocks_of q) ≡ blocks_looked_at geo look
  pub files : all_lines_read (pages_read (files_asked q)) ≡ file_lines_looked_at geo look
  pub replies : may_be_replies geo q ≡ true
  pub asks : IsLook (looked geo look) q

-- a look looks at nothing at which all that is looked at does not
pub record LooksWithin (all look : List Seen) : Type 0 where
  pub lines : (n : ℕ) → IsAmong n (all_lines_read (volume_reads look)) → IsAmong n (all_lines_read (volume_reads all))
  pub blocks : (b : ℕ) → IsAmong b (all_numbers_read (block_reads look)) → IsAmong b (all_numbers_read (block_reads all))
  pub files : (place : List ℕ × ℕ) → IsAmong place (places_read (file_reads look)) → IsAmong place (places_read (file_reads all))
