-- The answers that a read may have, whatever is stored.
use Rattle.std.specs.Prelude.{ℕ, List, Option, Some, None, if◌then◌else◌}
use Rattle.std.specs.Str.{bytes_eq}
use Rattle.reply_text.specs.Answer.{Answer}
use Rattle.reply_text.specs.Answer.Answer.{Attribute, BadLines, Bytes, DeviceFailed, Done, DoneBad, Files, Handle, Happened, No, NoEvent, PoisonBlock as ToldPoisonBlock, PoisonFile as ToldPoisonFile, PoisonVolume as ToldPoisonVolume, PowerLost, Ranges, Refused, RefusedMeta, Scarred, Stopped, VerifyFile, Yes}
use Rattle.outcomes.specs.Pages.{PageReply}
use Rattle.outcomes.specs.Pages.PageReply.{Shows, Poison, Refuses}
use Rattle.outcomes.specs.Blocks.{BlockReply}
use Rattle.outcomes.specs.Blocks.BlockReply.{Shows as ShowsBlocks, Scar, BadLine, Refuses as RefusesBlocks}

-- how a read of the volume may be answered
abbrev pub volume_reply : Answer → Option PageReply
volume_reply (Bytes bytes) = Some (Shows bytes)
volume_reply (ToldPoisonVolume offset) = Some (Poison offset)
volume_reply (Refused why) = Some (Refuses why)
volume_reply (ToldPoisonBlock block line) = None
volume_reply (ToldPoisonFile name offset) = None
volume_reply (Scarred block) = None
volume_reply Done = None
volume_reply (DoneBad n) = None
volume_reply (Ranges ranges) = None
volume_reply (Files files) = None
volume_reply Yes = None
volume_reply No = None
volume_reply (Handle handle) = None
volume_reply (Happened event) = None
volume_reply NoEvent = None
volume_reply (BadLines offsets) = None
volume_reply (Attribute n) = None
volume_reply (VerifyFile name offset) = None
volume_reply DeviceFailed = None
volume_reply PowerLost = None
volume_reply (Stopped line) = None
volume_reply (RefusedMeta line) = None

-- how a read of blocks may be answered
abbrev pub block_reply : Answer → Option BlockReply
block_reply (Bytes bytes) = Some (ShowsBlocks bytes)
block_reply (Scarred block) = Some (Scar block)
block_reply (ToldPoisonBlock block line) = Some (BadLine block line)
block_reply (Refused why) = Some (RefusesBlocks why)
block_reply (ToldPoisonVolume offset) = None
block_reply (ToldPoisonFile name offset) = None
block_reply Done = None
block_reply (DoneBad n) = None
block_reply (Ranges ranges) = None
block_reply (Files files) = None
block_reply Yes = None
block_reply No = None
block_reply (Handle handle) = None
block_reply (Happened event) = None
block_reply NoEvent = None
block_reply (BadLines offsets) = None
block_reply (Attribute n) = None
block_reply (VerifyFile name offset) = None
block_reply DeviceFailed = None
block_reply PowerLost = None
block_reply (Stopped line) = None
block_reply (RefusedMeta line) = None

-- how a read of the file of that name may be answered: a bad line is one of that file
abbrev pub file_reply : List ℕ → Answer → Option PageReply
file_reply name (Bytes bytes) = Some (Shows bytes)
file_reply name (ToldPoisonFile other offset) = if bytes_eq other name then Some (Poison offset) else None
file_reply name (Refused why) = Some (Refuses why)
file_reply name (ToldPoisonBlock block line) = None
file_reply name (ToldPoisonVolume offset) = None
file_reply name (Scarred block) = None
file_reply name Done = None
file_reply name (DoneBad n) = None
file_reply name (Ranges ranges) = None
file_reply name (Files files) = None
file_reply name Yes = None
file_reply name No = None
file_reply name (Handle handle) = None
file_reply name (Happened event) = None
file_reply name NoEvent = None
file_reply name (BadLines offsets) = None
file_reply name (Attribute n) = None
file_reply name (VerifyFile other offset) = None
file_reply name DeviceFailed = None
file_reply name PowerLost = None
file_reply name (Stopped line) = None
file_reply name (RefusedMeta line) = None
