-- Whether a read may have its reply on a device of these sizes.
use Rattle.std.specs.Prelude.{◌==◌, ◌*◌, ◌/◌, ◌&&◌, ◌||◌, ℕ, Bool, true, false, not, length, nat_lt, Option, Some, None, Result, Ok, Err, if◌then◌else◌}
use Rattle.nvm_model.specs.Cell.{touches}
use Rattle.nvm_model.specs.Numbered.{is_among}
use Rattle.word_tables.specs.declared.geometry.Geometry.{Geometry}
use Rattle.script_text.specs.Action.{Action}
use Rattle.reply_text.specs.Answer.{Answer}
use Rattle.reply_text.specs.Answer.Answer.{Bytes, PoisonBlock, PoisonFile, PoisonVolume, Refused, Scarred}
use Rattle.reply_text.specs.declared.reply.Why.{Why}
use Rattle.reply_text.specs.declared.reply.Why.TheVariants as why
use Rattle.outcomes.specs.Blocks.{is_block_reply}
use Rattle.outcomes.specs.Pages.{is_reply}
use Rattle.outcomes.specs.Seen.{Seen}
use Rattle.outcomes.specs.Seen.Seen.{of_blocks, of_file, of_volume}
use Rattle.asked_reads.specs.Asking.{may_be_file_reply}
use Rattle.asked_reads.specs.declared.read.Read.{Read}
use Rattle.asked_reads.specs.declared.read.Read.TheVariants.{Volume, Blocks, File}
use Rattle.exploration.specs.Reads.{read_of, seen_by}
use Rattle.exploration.specs.declared.reason.Reason.{Reason}
use Rattle.exploration.specs.declared.reason.Reason.TheVariants.{Kind, Length, Place, Refusal}

-- how many bytes a read has
abbrev pub bytes_read : Read → ℕ
bytes_read (Volume start len) = len
bytes_read (Blocks first count) = 512 * count
bytes_read (File name start len) = len

-- bytes that are asked for are as many
abbrev pub has_length : Read → Answer → Bool
has_length read (Bytes bytes) = length bytes == bytes_read read
has_length read _ = true

-- the line of this first byte is one of a span
abbrev pub is_line_of : ℕ → ℕ → ℕ → Bool
is_line_of start len at = touches start len (at / 64) && (at == 64 * (at / 64))

-- a line or a block that is named is one that the read touches
abbrev pub has_place : Read → Answer → Bool
has_place (Volume start len) (PoisonVolume at) = is_line_of start len at
has_place (Blocks first count) (Scarred block) = is_among first count block
has_place (Blocks first count) (PoisonBlock block line) = is_among first count block && nat_lt line 8
has_place (File name start len) (PoisonFile other at) = is_line_of start len at
has_place read answer = true

-- a read of a file may be refused so: there may be no such file, or one that ends before the read does
abbrev pub refuses_a_file : ℕ → ℕ → Why → Bool
refuses_a_file start len why.Missing = true
refuses_a_file start len why.Range = not (start == 0) || not (len == 0)
refuses_a_file start len why.Length = len == 0
refuses_a_file start len why.Limit = nat_lt 65536 len
refuses_a_file start len _ = false

abbrev pub has_refusal : Read → Answer → Bool
has_refusal (File name start len) (Refused why) = refuses_a_file start len why
has_refusal read answer = true

-- it may be answered so: it is refused where the sizes refuse it, by their word, and nowhere else
abbrev pub may_be : Geometry → Seen → Bool
may_be geo (of_volume r) = is_reply (4096 * geo.vpages) r
may_be geo (of_blocks r) = is_block_reply geo.blocks r
may_be geo (of_file r) = may_be_file_reply r

-- a read with its reply, which has that number, where these tests of it and that one hold, or what is first wrong with it
abbrev pub fits_seen : Geometry → ℕ → Bool → Bool → Bool → Option Seen → Result Seen Reason
fits_seen geo k length place refusal None = Err (Kind k)
fits_seen geo k length place refusal (Some seen) =
    if not length then Err (Length k) else (if not place then Err (Place k) else (if refusal && may_be geo seen then Ok seen else Err (Refusal k)))

abbrev pub fits_read : Geometry → ℕ → Answer → Option Read → Result Seen Reason
fits_read geo k answer None = Err (Kind k)
fits_read geo k answer (Some read) = fits_seen geo k (has_length read answer) (has_place read answer) (has_refusal read answer) (seen_by read answer)

abbrev pub fits : Geometry → ℕ → Action → Answer → Result Seen Reason
fits geo k action answer = fits_read geo k answer (read_of action)
