-- What may be asked about as it is printed.
use Rattle.std.specs.Prelude.{◌≡◌, ℕ, ◌^◌, ◌<◌, ◌≤◌, true, length, slice_index}
use Rattle.nvm_base.specs.Names.{is_name}
use Rattle.reply_text.specs.Answer.{Answer}
use Rattle.reply_text.specs.Answer.Answer.{Done, DoneBad, Bytes, Ranges, Files, Yes, No, Handle, Happened, NoEvent, BadLines, Attribute, Scarred, PoisonBlock, PoisonVolume, PoisonFile, VerifyFile, DeviceFailed, PowerLost, Stopped, Refused, RefusedMeta}

-- 1 to 65,536 bytes, a name of a file, and numbers below 2 ^ 32; of other answers none
abbrev pub MayBeAsked : Answer → Type 0
MayBeAsked (Bytes bytes) = (0 < length bytes) × (length bytes ≤ 65536) × ((k : ℕ) → slice_index bytes k < 256)
MayBeAsked (PoisonBlock block line) = (block < 2 ^ 32) × (line < 2 ^ 32)
MayBeAsked (PoisonVolume offset) = offset < 2 ^ 32
MayBeAsked (PoisonFile name offset) = (is_name name ≡ true) × (offset < 2 ^ 32)
MayBeAsked (Scarred block) = block < 2 ^ 32
MayBeAsked (Refused why) = Unit {0}
MayBeAsked Done = ⊥
MayBeAsked (DoneBad n) = ⊥
MayBeAsked (Ranges ranges) = ⊥
MayBeAsked (Files files) = ⊥
MayBeAsked Yes = ⊥
MayBeAsked No = ⊥
MayBeAsked (Handle handle) = ⊥
MayBeAsked (Happened event) = ⊥
MayBeAsked NoEvent = ⊥
MayBeAsked (BadLines offsets) = ⊥
MayBeAsked (Attribute n) = ⊥
MayBeAsked (VerifyFile name offset) = ⊥
MayBeAsked DeviceFailed = ⊥
MayBeAsked PowerLost = ⊥
MayBeAsked (Stopped line) = ⊥
MayBeAsked (RefusedMeta line) = ⊥
