-- What an answer says of a command.
use Rattle.reply_text.specs.Answer.{Answer}
use Rattle.reply_text.specs.Answer.Answer.{Done as IsDone, DoneBad, Bytes, Ranges, Files, Yes, No, Handle, Happened, NoEvent, BadLines, Attribute, Scarred, PoisonBlock, PoisonVolume, PoisonFile, VerifyFile, DeviceFailed, PowerLost, Stopped as MountStopped, Refused as IsRefused, RefusedMeta}
use Rattle.explorer.specs.declared.came.Came.{Came}
use Rattle.explorer.specs.declared.came.Came.TheVariants.{Done, Refused, Stopped}

-- done, refused, or stopped by the device
abbrev pub came_of : Answer → Came
came_of IsDone = Done
came_of (DoneBad n) = Done
came_of (Bytes bytes) = Done
came_of (Ranges ranges) = Done
came_of (Files files) = Done
came_of Yes = Done
came_of No = Done
came_of (Handle handle) = Done
came_of (Happened event) = Done
came_of NoEvent = Done
came_of (BadLines offsets) = Done
came_of (Attribute n) = Done
came_of (Scarred block) = Refused
came_of (PoisonBlock block line) = Refused
came_of (PoisonVolume offset) = Refused
came_of (PoisonFile name offset) = Refused
came_of (VerifyFile name offset) = Done
came_of DeviceFailed = Stopped
came_of PowerLost = Stopped
came_of (MountStopped line) = Stopped
came_of (IsRefused why) = Refused
came_of (RefusedMeta line) = Refused
