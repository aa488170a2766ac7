-- Answers that their text tells.
use Rattle.std.specs.Prelude.{◌≡◌, ℕ, ◌^◌, ◌<◌, true, All, length, slice_index, sum_by}
use Rattle.nvm_base.specs.Names.{is_name}
use Rattle.nvm_base.specs.declared.units.Span.{Span}
use Rattle.nvm_base.specs.declared.files.FileEntry.{FileEntry}
use Rattle.nvm_model.specs.Storage.{Event}
use Rattle.reply_text.specs.Answer.{Answer}
use Rattle.reply_text.specs.Answer.Answer.{Done, DoneBad, Bytes, Ranges, Files, Yes, No, Handle, Happened, NoEvent, BadLines, Attribute, Scarred, PoisonBlock, PoisonVolume, PoisonFile, VerifyFile, DeviceFailed, PowerLost, Stopped, Refused, RefusedMeta}
use Rattle.reply_text.specs.Room.{HasStart}

-- a file's name is one, and its pages are counted in 64 bits
abbrev pub IsListed : FileEntry → Type 0
IsListed file = (is_name file.name ≡ true) × (file.pages < 2 ^ 64)

-- an event's file has a name, and where it lies is told in 64 bits
pub record IsEvent (event : Event) : Type 0 where
  pub file : is_name event.file ≡ true
  pub offset : event.offset < 2 ^ 64
  pub len : event.len < 2 ^ 64

-- names are names, bytes are below 256 and fewer than 2 ^ 32, numbers have 64 bits, and so has the sum of the ranges' lengths
abbrev pub IsWellFormed : Answer → Type 0
IsWellFormed Done = Unit {0}
IsWellFormed (DoneBad n) = n < 2 ^ 64
IsWellFormed (Bytes bytes) = (length bytes < 2 ^ 32) × ((k : ℕ) → slice_index bytes k < 256)
IsWellFormed (Ranges ranges) = All HasStart ranges × (sum_by (λ (r : Span). r.len) ranges < 2 ^ 64)
IsWellFormed (Files files) = All IsListed files
IsWellFormed Yes = Unit {0}
IsWellFormed No = Unit {0}
IsWellFormed (Handle handle) = handle < 2 ^ 64
IsWellFormed (Happened event) = IsEvent event
IsWellFormed NoEvent = Unit {0}
IsWellFormed (BadLines offsets) = (length offsets < 2 ^ 64) × ((k : ℕ) → slice_index offsets k < 2 ^ 64)
IsWellFormed (Attribute n) = n < 2 ^ 64
IsWellFormed (Scarred block) = block < 2 ^ 64
IsWellFormed (PoisonBlock block line) = (block < 2 ^ 64) × (line < 2 ^ 64)
IsWellFormed (PoisonVolume offset) = offset < 2 ^ 64
IsWellFormed (PoisonFile name offset) = (is_name name ≡ true) × (offset < 2 ^ 64)
IsWellFormed (VerifyFile name offset) = (is_name name ≡ true) × (offset < 2 ^ 64)
IsWellFormed DeviceFailed = Unit {0}
IsWellFormed PowerLost = Unit {0}
IsWellFormed (Stopped line) = line < 2 ^ 64
IsWellFormed (Refused why) = Unit {0}
IsWellFormed (RefusedMeta line) = line < 2 ^ 64
