-- The reply that words spell.
use Rattle.std.specs.Prelude.{ℕ, Bool, false, List, [], ◌∷◌, Option, Some, None, option_map, Result, Ok, Err, if◌then◌else◌, codes}
use Rattle.std.specs.Str.{bytes_eq}
use Rattle.nvm_base.specs.Data.{data_within}
use Rattle.nvm_base.specs.Names.{name_of}
use Rattle.nvm_base.specs.Numbers.{number_of}
use Rattle.reply_text.specs.Answer.{Answer}
use Rattle.reply_text.specs.Answer.Answer.{Bytes, PoisonBlock, PoisonVolume, PoisonFile, Scarred, Refused}
use Rattle.reply_text.specs.declared.reply.Why.{Why}
use Rattle.reply_text.specs.declared.reply.Why.TheVariants as why
use Rattle.questions.specs.declared.reply.AskedReply.{AskedReply}
use Rattle.questions.specs.declared.reply.AskedReply.TheVariants as asked

-- what a reply that is asked about tells
abbrev pub answer_asked : AskedReply → Answer
answer_asked (asked.Bytes bytes) = Bytes bytes.items
answer_asked (asked.PoisonBlock block line) = PoisonBlock block line
answer_asked (asked.PoisonVolume offset) = PoisonVolume offset
answer_asked (asked.PoisonFile name offset) = PoisonFile name offset
answer_asked (asked.Scarred block) = Scarred block
answer_asked (asked.Refused why) = Refused why

-- the refusal of a word that is about a place, or about room
abbrev pub place_why_asked : List ℕ → Option Why
place_why_asked word =
    if bytes_eq word (codes "range") then Some why.Range
    else (if bytes_eq word (codes "length") then Some why.Length
    else (if bytes_eq word (codes "limit") then Some why.Limit
    else (if bytes_eq word (codes "overlap") then Some why.Overlap
    else (if bytes_eq word (codes "address") then Some why.Address
    else (if bytes_eq word (codes "slots") then Some why.Slots
    else (if bytes_eq word (codes "full") then Some why.Full
    else (if bytes_eq word (codes "nothing") then Some why.Nothing
    else (if bytes_eq word (codes "notpoisoned") then Some why.NotPoisoned
    else (if bytes_eq word (codes "unknown") then Some why.Unknown else None)))))))))

-- the refusal of a word
abbrev pub why_asked : List ℕ → Option Why
why_asked word =
    if bytes_eq word (codes "syntax") then Some why.Syntax
    else (if bytes_eq word (codes "toolong") then Some why.TooLong
    else (if bytes_eq word (codes "off") then Some why.Off
    else (if bytes_eq word (codes "on") then Some why.On
    else (if bytes_eq word (codes "recover") then Some why.Recover
    else (if bytes_eq word (codes "missing") then Some why.Missing
    else (if bytes_eq word (codes "exists") then Some why.Exists
    else (if bytes_eq word (codes "handle") then Some why.Handle
    else (if bytes_eq word (codes "mapped") then Some why.Mapped else place_why_asked word))))))))

-- a reply on bytes, where they were read
abbrev pub bytes_asked : {E : Type 0} → Result (List ℕ) E → Option Answer
bytes_asked (Ok bytes) = Some (Bytes bytes)
bytes_asked (Err e) = None

-- a reply on two numbers, or a name and a number
abbrev pub both_asked : {A : Type 0} → (A → ℕ → Answer) → Option A → Option ℕ → Option Answer
both_asked make (Some a) (Some b) = Some (make a b)
both_asked make (Some a) None = None
both_asked make None b = None

-- the offset of a line, before its length
abbrev pub line_asked : List (List ℕ) → Option ℕ
line_asked (offset ∷ len ∷ []) = if bytes_eq len (codes "64") then number_of offset else None
line_asked _ = None

-- The words after a reply's first ones: DATA, a block and a line in it, a line of the volume, a file's name and a line of it, a block,
-- and why something is refused.
abbrev pub data_asked : List (List ℕ) → Option Answer
data_asked (text ∷ []) = bytes_asked (data_within 65536 text)
data_asked _ = None

abbrev pub block_asked : List (List ℕ) → Option Answer
block_asked (block ∷ line ∷ []) = both_asked PoisonBlock (number_of block) (number_of line)
block_asked _ = None

abbrev pub volume_asked : List (List ℕ) → Option Answer
volume_asked words = option_map PoisonVolume (line_asked words)

abbrev pub file_asked : List (List ℕ) → Option Answer
file_asked [] = None
file_asked (name ∷ words) = both_asked PoisonFile (name_of name) (line_asked words)

abbrev pub scarred_asked : List (List ℕ) → Option Answer
scarred_asked (block ∷ []) = option_map Scarred (number_of block)
scarred_asked _ = None

abbrev pub refused_asked : List (List ℕ) → Option Answer
refused_asked (word ∷ []) = option_map Refused (why_asked word)
refused_asked _ = None

-- a bad line
abbrev pub poison_asked : List (List ℕ) → Option Answer
poison_asked [] = None
poison_asked (word ∷ words) =
    if bytes_eq word (codes "block") then block_asked words
    else (if bytes_eq word (codes "volume") then volume_asked words
    else (if bytes_eq word (codes "file") then file_asked words else None))

-- the reply that words spell, None where they spell none
abbrev pub reply_asked : List (List ℕ) → Option Answer
reply_asked [] = None
reply_asked (word ∷ words) =
    if bytes_eq word (codes "data") then data_asked words
    else (if bytes_eq word (codes "poison") then poison_asked words
    else (if bytes_eq word (codes "scarred") then scarred_asked words
    else (if bytes_eq word (codes "refused") then refused_asked words else None)))

-- the word is `_` alone, for any reply
abbrev pub is_any : List (List ℕ) → Bool
is_any (word ∷ []) = bytes_eq word (codes "_")
is_any _ = false

-- what words ask of one read: any reply or this one, and nothing where they spell neither
abbrev pub part_asked : List (List ℕ) → Option (Option Answer)
part_asked words = if is_any words then Some None else option_map Some (reply_asked words)
