-- What the machine answers, and its line.
use Rattle.std.specs.Prelude.{ℕ, Bool, true, false, ◌+◌, ◌^◌, ◌<◌, List, [], ◌∷◌, ◌++◌, length, codes, decimal, sum_by}
use Rattle.nvm_base.specs.Data.{data_text}
use Rattle.nvm_base.specs.declared.units.Span.{Span}
use Rattle.nvm_base.specs.declared.files.FileEntry.{FileEntry}
use Rattle.nvm_model.specs.Storage.{Event}
use Rattle.error_events.specs.Events.{event_of}
use Rattle.reply_text.specs.declared.reply.Why.{Why}
use Rattle.reply_text.specs.declared.reply.Why.TheVariants as why
use Rattle.reply_text.specs.declared.reply.Reply.{Reply}
use Rattle.reply_text.specs.declared.reply.Reply.TheVariants as reply

pub data Answer : Type 0 where
  Done : Answer
  DoneBad : ℕ → Answer
  Bytes : List ℕ → Answer
  Ranges : List Span → Answer
  Files : List FileEntry → Answer
  Yes : Answer
  No : Answer
  Handle : ℕ → Answer
  Happened : Event → Answer
  NoEvent : Answer
  BadLines : List ℕ → Answer
  Attribute : ℕ → Answer
  Scarred : ℕ → Answer
  PoisonBlock : ℕ → ℕ → Answer
  PoisonVolume : ℕ → Answer
  PoisonFile : List ℕ → ℕ → Answer
  VerifyFile : List ℕ → ℕ → Answer
  DeviceFailed : Answer
  PowerLost : Answer
  Stopped : ℕ → Answer
  Refused : Why → Answer
  RefusedMeta : ℕ → Answer

-- what a reply tells, which none does of bytes
abbrev pub answer_of : Reply → Answer
answer_of reply.Done = Done
answer_of (reply.DoneBad n) = DoneBad n
answer_of (reply.Ranges ranges) = Ranges ranges.items
answer_of (reply.Files files) = Files files.items
answer_of reply.Yes = Yes
answer_of reply.No = No
answer_of (reply.Handle handle) = Handle handle
answer_of (reply.Happened event) = Happened (event_of event)
answer_of reply.NoEvent = NoEvent
answer_of (reply.BadLines offsets) = BadLines offsets.items
answer_of (reply.Attribute n) = Attribute n
answer_of (reply.Scarred block) = Scarred block
answer_of (reply.PoisonBlock block line) = PoisonBlock block line
answer_of (reply.PoisonVolume offset) = PoisonVolume offset
answer_of (reply.PoisonFile name offset) = PoisonFile name offset
answer_of (reply.VerifyFile name offset) = VerifyFile name offset
answer_of reply.DeviceFailed = DeviceFailed
answer_of reply.PowerLost = PowerLost
answer_of (reply.Stopped line) = Stopped line
answer_of (reply.Refused why) = Refused why
answer_of (reply.RefusedMeta line) = RefusedMeta line

-- a refusal's word
abbrev pub why_text : Why → List ℕ
why_text why.Syntax = codes "syntax"
why_text why.TooLong = codes "toolong"
why_text why.Off = codes "off"
why_text why.On = codes "on"
why_text why.Recover = codes "recover"
why_text why.Missing = codes "missing"
why_text why.Exists = codes "exists"
why_text why.Handle = codes "handle"
why_text why.Mapped = codes "mapped"
why_text why.Range = codes "range"
why_text why.Length = codes "length"
why_text why.Limit = codes "limit"
why_text why.Overlap = codes "overlap"
why_text why.Address = codes "address"
why_text why.Slots = codes "slots"
why_text why.Full = codes "full"
why_text why.Nothing = codes "nothing"
why_text why.NotPoisoned = codes "notpoisoned"
why_text why.Unknown = codes "unknown"

-- a range behind its offset: where it begins, and its length
abbrev pub range_text : ℕ → Span → List ℕ
range_text offset range = 32 ∷ decimal offset ++ 32 ∷ decimal range.start ++ 32 ∷ decimal range.len

-- ranges, the first one at this offset, each other one where the one before it ends
abbrev pub ranges_text : ℕ → List Span → List ℕ
ranges_text offset [] = []
ranges_text offset (range ∷ ranges) = range_text offset range ++ ranges_text (offset + range.len) ranges

-- a file: its name, a colon, and how many pages it has
abbrev pub file_text : FileEntry → List ℕ
file_text file = 32 ∷ file.name ++ 58 ∷ decimal file.pages

-- files one behind the other
abbrev pub files_text : List FileEntry → List ℕ
files_text [] = []
files_text (file ∷ files) = file_text file ++ files_text files

-- a line of a file: the file, where it begins, and its length
abbrev pub file_line_text : List ℕ → ℕ → List ℕ
file_line_text name offset = name ++ (32 ∷ decimal offset ++ codes " 64")

-- whether a shared mapping showed the place
abbrev pub mapped_text : Bool → List ℕ
mapped_text true = codes " mapped"
mapped_text false = codes " unmapped"

-- whether it came since the last restart
abbrev pub live_text : Bool → List ℕ
live_text true = codes " live"
live_text false = codes " restart"

-- an event: its file and its bytes, and these two
abbrev pub event_text : Event → List ℕ
event_text event =
    event.file ++ ((32 ∷ decimal event.offset ++ (32 ∷ decimal event.len)) ++ (mapped_text event.mapped ++ live_text event.live))

-- offsets one behind the other
abbrev pub offsets_text : List ℕ → List ℕ
offsets_text [] = []
offsets_text (offset ∷ offsets) = (32 ∷ decimal offset) ++ offsets_text offsets

-- an answer as printed
abbrev pub answer_text : Answer → List ℕ
answer_text Done = codes "ok"
answer_text (DoneBad n) = codes "ok bad " ++ decimal n
answer_text (Bytes bytes) = codes "data " ++ data_text bytes
answer_text (Ranges ranges) = codes "ranges" ++ ranges_text 0 ranges
answer_text (Files files) = codes "files" ++ files_text files
answer_text Yes = codes "yes"
answer_text No = codes "no"
answer_text (Handle handle) = codes "handle " ++ decimal handle
answer_text (Happened event) = codes "event " ++ event_text event
answer_text NoEvent = codes "none"
answer_text (BadLines offsets) = codes "bad " ++ (decimal (length offsets) ++ offsets_text offsets)
answer_text (Attribute n) = codes "attr " ++ decimal n
answer_text (Scarred block) = codes "scarred " ++ decimal block
answer_text (PoisonBlock block line) = codes "poison block " ++ decimal block ++ 32 ∷ decimal line
answer_text (PoisonVolume offset) = codes "poison volume " ++ decimal offset ++ codes " 64"
answer_text (PoisonFile name offset) = codes "poison file " ++ file_line_text name offset
answer_text (VerifyFile name offset) = codes "verify file " ++ file_line_text name offset
answer_text DeviceFailed = codes "refused device"
answer_text PowerLost = codes "power lost"
answer_text (Stopped line) = codes "stopped meta " ++ decimal line
answer_text (Refused why) = codes "refused " ++ why_text why
answer_text (RefusedMeta line) = codes "refused meta " ++ decimal line

-- its line
unfoldable pub answer_line : Answer → List ℕ
answer_line answer = answer_text answer ++ 10 ∷ []

-- the lines of answers
abbrev pub reply_text : List Answer → List ℕ
reply_text [] = []
reply_text (answer ∷ answers) = answer_line answer ++ reply_text answers

-- the lengths of ranges sum to at most the last value of 64 bits
abbrev pub IsPrintable : Answer → Type 0
IsPrintable Done = Unit {0}
IsPrintable (DoneBad n) = Unit {0}
IsPrintable (Bytes bytes) = Unit {0}
IsPrintable (Ranges ranges) = sum_by (λ (r : Span). r.len) ranges < 2 ^ 64
IsPrintable (Files files) = Unit {0}
IsPrintable Yes = Unit {0}
IsPrintable No = Unit {0}
IsPrintable (Handle handle) = Unit {0}
IsPrintable (Happened event) = Unit {0}
IsPrintable NoEvent = Unit {0}
IsPrintable (BadLines offsets) = Unit {0}
IsPrintable (Attribute n) = Unit {0}
IsPrintable (Scarred block) = Unit {0}
IsPrintable (PoisonBlock block line) = Unit {0}
IsPrintable (PoisonVolume offset) = Unit {0}
IsPrintable (PoisonFile name offset) = Unit {0}
IsPrintable (VerifyFile name offset) = Unit {0}
IsPrintable DeviceFailed = Unit {0}
IsPrintable PowerLost = Unit {0}
IsPrintable (Stopped line) = Unit {0}
IsPrintable (Refused why) = Unit {0}
IsPrintable (RefusedMeta line) = Unit {0}
