-- What reads of pages tell of each line, and whether a line may be such once the power is back.
use Rattle.std.specs.Prelude.{◌+◌, ◌-◌, ◌*◌, ◌/◌, ◌%◌, ◌==◌, ◌&&◌, ◌||◌, ℕ, Bool, true, false, not, List, [], ◌∷◌, ◌++◌, length, nat_lt, replicate, slice_index, slice_index_or, Option, Some, None}
use Rattle.std.specs.Int.{byte_at}
use Rattle.std.specs.List.{list_all, list_any, range_with_len}
use Rattle.std.specs.Str.{bytes_eq}
use Rattle.nvm_base.specs.Units.{units_of}
use Rattle.nvm_model.specs.Cell.{Cell, touches}
use Rattle.nvm_model.specs.Cell.Cell.{Bad, Kept}
use Rattle.nvm_model.specs.Numbered.{is_among}
use Rattle.reply_text.specs.Answer.{why_text}
use Rattle.reply_text.specs.declared.reply.Why.{Why}
use Rattle.machine_model.specs.Meaning.{most_refusal}

-- what a read is answered: these bytes, the offset of the lowest bad line, or why it is refused
pub data PageReply : Type 0 where
  Shows : List ℕ → PageReply
  Poison : ℕ → PageReply
  Refuses : Why → PageReply

pub record PageRead : Type 0 where
  pub start : ℕ
  pub len : ℕ
  pub reply : PageReply

-- the lines that it looks at
abbrev pub lines_read : ℕ → ℕ → PageReply → List ℕ
lines_read start len (Shows bytes) = let lines = units_of 64 (record { start = start; len = len }) in range_with_len lines.start lines.len
lines_read start len (Poison at) = let lines = units_of 64 (record { start = start; len = len }) in range_with_len lines.start lines.len
lines_read start len (Refuses why) = []

abbrev pub all_lines_read : List PageRead → List ℕ
all_lines_read [] = []
all_lines_read (r ∷ reads) = lines_read r.start r.len r.reply ++ all_lines_read reads

-- line n may be bad where a read is answered so, and it may be good
abbrev pub allows_bad : ℕ → ℕ → ℕ → PageReply → Bool
allows_bad n start len (Shows bytes) = not (touches start len n)
allows_bad n start len (Poison at) = not (touches start len n && nat_lt n (at / 64))
allows_bad n start len (Refuses why) = true

abbrev pub allows_good : ℕ → PageReply → Bool
allows_good n (Shows bytes) = true
allows_good n (Poison at) = not (n == at / 64)
allows_good n (Refuses why) = true

-- word p of the storage may have the value v: the bytes that are shown of it are those of v
abbrev pub agrees : ℕ → ℕ → ℕ → ℕ → PageReply → Bool
agrees p v start len (Shows bytes) =
    list_all (λ i. not (is_among start len i) || (slice_index bytes (i - start) == byte_at (i % 8) v)) (range_with_len (8 * p) 8)
agrees p v start len (Poison at) = true
agrees p v start len (Refuses why) = true

-- the same of several reads
abbrev pub all_allow_bad : List PageRead → ℕ → Bool
all_allow_bad reads n = list_all (λ (r : PageRead). allows_bad n r.start r.len r.reply) reads

abbrev pub all_allow_good : List PageRead → ℕ → Bool
all_allow_good reads n = list_all (λ (r : PageRead). allows_good n r.reply) reads

abbrev pub all_agree : List PageRead → ℕ → ℕ → Bool
all_agree reads p v = list_all (λ (r : PageRead). agrees p v r.start r.len r.reply) reads

-- each of the eight words of line n has a value on which all reads agree
abbrev pub words_fit : List PageRead → ℕ → List (List ℕ) → Bool
words_fit reads n words = list_all (λ w. list_any (all_agree reads (8 * n + w)) (slice_index_or words w [])) (range_with_len 0 8)

-- Line n may be read so, where it is absent, bad, or has these histories: a restart keeps one value of each.
abbrev pub line_fits : List PageRead → ℕ → Option Cell → Bool
line_fits reads n None = all_allow_good reads n && words_fit reads n (replicate 8 (0 ∷ []))
line_fits reads n (Some Bad) = all_allow_bad reads n
line_fits reads n (Some (Kept weak words)) = all_allow_good reads n && words_fit reads n words

-- the reply is one that a read of so many bytes of so large a storage has, whatever is stored
abbrev pub is_refused_for : Why → PageReply → Bool
is_refused_for why (Shows bytes) = false
is_refused_for why (Poison at) = false
is_refused_for why (Refuses other) = bytes_eq (why_text other) (why_text why)

abbrev pub is_given : ℕ → ℕ → PageReply → Bool
is_given start len (Shows bytes) = length bytes == len
is_given start len (Poison at) = touches start len (at / 64) && (at == 64 * (at / 64))
is_given start len (Refuses why) = false

abbrev pub is_reply_by : Option Why → ℕ → ℕ → PageReply → Bool
is_reply_by None start len reply = is_given start len reply
is_reply_by (Some why) start len reply = is_refused_for why reply

abbrev pub is_reply : ℕ → PageRead → Bool
is_reply size r = is_reply_by (most_refusal 65536 size r.start r.len) r.start r.len r.reply
