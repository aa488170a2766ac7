-- What reads of blocks tell of each block.
use Rattle.std.specs.Prelude.{◌-◌, ◌*◌, ◌%◌, ◌==◌, ◌&&◌, ◌||◌, ℕ, Bool, true, false, not, List, [], ◌∷◌, ◌++◌, length, nat_lt, is_none, slice_index, Option, Some, None, if◌then◌else◌}
use Rattle.std.specs.List.{list_all, range_with_len}
use Rattle.std.specs.Str.{bytes_eq}
use Rattle.nvm_model.specs.Blocks.{Obstacle, block_byte, obstacle_in}
use Rattle.nvm_model.specs.Blocks.Obstacle.{bad_line, scar}
use Rattle.nvm_model.specs.Numbered.{is_among}
use Rattle.nvm_model.specs.Storage.{Block}
use Rattle.reply_text.specs.Answer.{why_text}
use Rattle.reply_text.specs.declared.reply.Why.{Why}
use Rattle.machine_model.specs.Meaning.{most_refusal}

-- what a read is answered: these bytes, the lowest block that is scarred or has a bad line, or why it is refused
pub data BlockReply : Type 0 where
  Shows : List ℕ → BlockReply
  Scar : ℕ → BlockReply
  BadLine : ℕ → ℕ → BlockReply
  Refuses : Why → BlockReply

pub record BlockRead : Type 0 where
  pub first : ℕ
  pub count : ℕ
  pub reply : BlockReply

abbrev pub numbers_read : ℕ → ℕ → BlockReply → List ℕ
numbers_read first count (Shows bytes) = range_with_len first count
numbers_read first count (Scar block) = range_with_len first count
numbers_read first count (BadLine block line) = range_with_len first count
numbers_read first count (Refuses why) = []

abbrev pub all_numbers_read : List BlockRead → List ℕ
all_numbers_read [] = []
all_numbers_read (r ∷ reads) = numbers_read r.first r.count r.reply ++ all_numbers_read reads

-- the block has these of the bytes of a read, which begins at that one
abbrev pub has_bytes : ℕ → List ℕ → ℕ → Block → Bool
has_bytes first bytes b block = list_all (λ i. slice_index bytes (i - 512 * first) == block_byte block (i % 512)) (range_with_len (512 * b) 512)

-- what keeps it from being read is a scar, or a bad line of that number
abbrev pub is_scar : Option Obstacle → Bool
is_scar None = false
is_scar (Some (scar b)) = true
is_scar (Some (bad_line b k)) = false

abbrev pub is_bad_line : ℕ → Option Obstacle → Bool
is_bad_line line None = false
is_bad_line line (Some (scar b)) = false
is_bad_line line (Some (bad_line b k)) = k == line

-- block b may be this one where a read of it is answered so
abbrev pub allows : ℕ → Block → ℕ → BlockReply → Bool
allows b block first (Shows bytes) = is_none (obstacle_in b block) && has_bytes first bytes b block
allows b block first (Scar named) =
    if nat_lt b named then is_none (obstacle_in b block) else (not (b == named) || is_scar (obstacle_in b block))
allows b block first (BadLine named line) =
    if nat_lt b named then is_none (obstacle_in b block) else (not (b == named) || is_bad_line line (obstacle_in b block))
allows b block first (Refuses why) = true

abbrev pub block_fits : List BlockRead → ℕ → Block → Bool
block_fits reads b block = list_all (λ (r : BlockRead). not (is_among r.first r.count b) || allows b block r.first r.reply) reads

-- the reply is one that a read of so many blocks has, whatever is stored
abbrev pub is_block_refusal : Why → BlockReply → Bool
is_block_refusal why (Shows bytes) = false
is_block_refusal why (Scar block) = false
is_block_refusal why (BadLine block line) = false
is_block_refusal why (Refuses other) = bytes_eq (why_text other) (why_text why)

abbrev pub is_read_of_blocks : ℕ → ℕ → BlockReply → Bool
is_read_of_blocks first count (Shows bytes) = length bytes == 512 * count
is_read_of_blocks first count (Scar block) = is_among first count block
is_read_of_blocks first count (BadLine block line) = is_among first count block
is_read_of_blocks first count (Refuses why) = false

abbrev pub is_block_reply_by : Option Why → ℕ → ℕ → BlockReply → Bool
is_block_reply_by None first count reply = is_read_of_blocks first count reply
is_block_reply_by (Some why) first count reply = is_block_refusal why reply

abbrev pub is_block_reply : ℕ → BlockRead → Bool
is_block_reply blocks r = is_block_reply_by (most_refusal 128 blocks r.first r.count) r.first r.count r.reply
