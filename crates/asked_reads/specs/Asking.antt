-- A question: the reads of a look of which it asks, each with its reply.
use Rattle.std.specs.Prelude.{◌≡◌, ◌*◌, ◌&&◌, ℕ, Bool, true, List, nat_le, nat_lt}
use Rattle.std.specs.List.{list_all}
use Rattle.word_tables.specs.declared.geometry.Geometry.{Geometry}
use Rattle.outcomes.specs.Blocks.{BlockRead, is_block_reply}
use Rattle.outcomes.specs.Files.{FileRead}
use Rattle.outcomes.specs.Pages.{PageRead, PageReply, is_given, is_reply}
use Rattle.outcomes.specs.Pages.PageReply.{Shows, Poison, Refuses}
use Rattle.outcomes.specs.Seen.{Seen, block_reads, file_reads, volume_reads}
use Rattle.asked_reads.specs.declared.question.Question.{Question}
use Rattle.asked_reads.specs.Reads.{blocks_asked, file_reads_asked, pages_asked}

-- what is asked of the volume, of blocks, and of files
abbrev pub volume_asked : Question → List PageRead
volume_asked q = pages_asked q.volume.items

abbrev pub blocks_of : Question → List BlockRead
blocks_of q = blocks_asked q.blocks.items

abbrev pub files_asked : Question → List FileRead
files_asked q = file_reads_asked q.files.items

-- these are the reads of which it asks, and no other
pub record IsLook (look : List Seen) (q : Question) : Type 0 where
  pub volume : volume_reads look ≡ volume_asked q
  pub blocks : block_reads look ≡ blocks_of q
  pub files : file_reads look ≡ files_asked q

-- some file gives a read this reply, or refuses it: at most 65,536 bytes are read
abbrev pub is_given_by_some : ℕ → ℕ → PageReply → Bool
is_given_by_some start len (Shows bytes) = nat_lt 0 len && (nat_le len 65536 && is_given start len (Shows bytes))
is_given_by_some start len (Poison at) = nat_lt 0 len && (nat_le len 65536 && is_given start len (Poison at))
is_given_by_some start len (Refuses why) = true

abbrev pub may_be_file_reply : FileRead → Bool
may_be_file_reply r = is_given_by_some r.pages.start r.pages.len r.pages.reply

-- each read may have its reply on some device of these sizes
abbrev pub may_be_replies : Geometry → Question → Bool
may_be_replies geo q =
    list_all (is_reply (4096 * geo.vpages)) (volume_asked q) && (list_all (is_block_reply geo.blocks) (blocks_of q) && list_all may_be_file_reply (files_asked q))
