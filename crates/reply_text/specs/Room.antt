-- How much room an answer takes.
use Rattle.std.specs.Prelude.{ℕ, ◌+◌, ◌*◌, ◌^◌, ◌<◌, ◌≤◌, length}
use Rattle.nvm_base.specs.declared.units.Span.{Span}
use Rattle.nvm_base.specs.declared.files.FileEntry.{FileEntry}
use Rattle.reply_text.specs.Answer.{Answer}
use Rattle.reply_text.specs.Answer.Answer.{Done, DoneBad, Bytes, Ranges, Files, Yes, No, Handle, Happened, NoEvent, BadLines, Attribute, Scarred, PoisonBlock, PoisonVolume, PoisonFile, VerifyFile, DeviceFailed, PowerLost, Stopped, Refused, RefusedMeta}

-- the most bytes of an answer's line: the most of its DATA, of its ranges, files or offsets, of an event, or of an answer
-- that has none of them, a name and its line among these
abbrev pub most_of : Answer → ℕ
most_of Done = 72
most_of (DoneBad n) = 72
most_of (Bytes bytes) = 6 + 3 * length bytes
most_of (Ranges ranges) = 7 + 63 * length ranges
most_of (Files files) = 64 + 54 * length files
most_of Yes = 72
most_of No = 72
most_of (Handle handle) = 72
most_of (Happened event) = 128
most_of NoEvent = 72
most_of (BadLines offsets) = 28 + 21 * length offsets
most_of (Attribute n) = 72
most_of (Scarred block) = 72
most_of (PoisonBlock block line) = 72
most_of (PoisonVolume offset) = 72
most_of (PoisonFile name offset) = 72
most_of (VerifyFile name offset) = 72
most_of DeviceFailed = 72
most_of PowerLost = 72
most_of (Stopped line) = 72
most_of (Refused why) = 72
most_of (RefusedMeta line) = 72

-- it begins where 64 bits reach
abbrev pub HasStart : Span → Type 0
HasStart range = range.start < 2 ^ 64

-- its name has at most 32 bytes, and its pages are counted in 64 bits
abbrev pub IsShort : FileEntry → Type 0
IsShort file = (length file.name ≤ 32) × (file.pages < 2 ^ 64)
