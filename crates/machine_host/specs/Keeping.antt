-- What a command leaves of its host and of the lines of its device, whichever state they stood for.
use Rattle.std.specs.Prelude.{◌≡◌, ℕ, Bool, true, false}
use Rattle.line_device.specs.Medium.{WritesBack}
use Rattle.line_device.specs.Panel.{Start}
use Rattle.line_device.specs.Device.{Device, Restarted}
use Rattle.line_device.specs.declared.line.Choice.{Choice}
use Rattle.line_words.specs.Words.{WritesBackOutside}
use Rattle.recovery.specs.Findings.{geometry_told}
use Rattle.recovery.specs.Mounting.{IsOfLogs}
use Rattle.scrub.specs.Others.{WritesBackBut}
use Rattle.script_text.specs.Action.{Action}
use Rattle.script_text.specs.Action.Action.{BRead, BWrite, BDiscard, BDiscardIf, BExists, BScar, BAtomic, BMulti, VLoad, VStore, VSync, VRanges, VPSync, VDiscard, VDiscardIf, VExists, Create, Delete, Rename, Resize, ListFiles, FRead, FWrite, FAtomic, FMulti, FDiscard, FSync, Map, Unmap, Load, Store, Sync, Flush, FlushVerify, DeepFlush, NextEvent, CheckFile, PoisonBlock, PoisonVolume, PoisonFile, PoisonMeta, WeakenFile, WeakenVolume, ClearFile, ClearVolume, Cut, CutIn, FailIn, Restart, Recover, Attr, Evict}
use Rattle.reply_text.specs.Answer.{Answer}
use Rattle.reply_text.specs.Answer.Answer.{Done, DoneBad, Bytes, Ranges, Files, Yes, No, Handle, Happened, NoEvent, BadLines, Attribute, Scarred, PoisonBlock as BadBlock, PoisonVolume as BadVolume, PoisonFile as BadFile, VerifyFile, DeviceFailed, PowerLost, Stopped, Refused, RefusedMeta}
use Rattle.machine_host.specs.Stands.{HostState}
use Rattle.machine_host.specs.Faults.{IsRoomier}

-- whether an answer refuses its command; `refused device` does not, which tells of a failure
abbrev pub is_refusal : Answer → Bool
is_refusal Done = false
is_refusal (DoneBad n) = false
is_refusal (Bytes bytes) = false
is_refusal (Ranges ranges) = false
is_refusal (Files files) = false
is_refusal Yes = false
is_refusal No = false
is_refusal (Handle handle) = false
is_refusal (Happened event) = false
is_refusal NoEvent = false
is_refusal (BadLines offsets) = false
is_refusal (Attribute n) = false
is_refusal (Scarred block) = true
is_refusal (BadBlock block line) = true
is_refusal (BadVolume offset) = true
is_refusal (BadFile name offset) = true
is_refusal (VerifyFile name offset) = false
is_refusal DeviceFailed = false
is_refusal PowerLost = false
is_refusal (Stopped line) = false
is_refusal (Refused why) = true
is_refusal (RefusedMeta line) = true

-- which lines of a device a command that is not refused may change, more than by a write-back: none, one, those of the logs, first
-- all by what survives a restart, or any
pub data Reach : Type 0 where
  NoLine : Reach
  OneLine : Reach
  LogLines : Reach
  Surviving : Choice → Reach
  AnyLine : Reach

abbrev pub reach : Action → Reach
reach (BRead block count) = NoLine
reach (BWrite block bytes) = AnyLine
reach (BDiscard block count) = AnyLine
reach (BDiscardIf block count) = AnyLine
reach (BExists block) = NoLine
reach (BScar ranges) = AnyLine
reach (BAtomic block bytes) = AnyLine
reach (BMulti ranges bytes) = AnyLine
reach (VLoad offset len) = NoLine
reach (VStore offset bytes) = AnyLine
reach (VSync offset len) = AnyLine
reach VRanges = NoLine
reach (VPSync address len) = AnyLine
reach (VDiscard page count) = AnyLine
reach (VDiscardIf page count) = AnyLine
reach (VExists page) = NoLine
reach (Create name pages) = AnyLine
reach (Delete name) = AnyLine
reach (Rename name to) = AnyLine
reach (Resize name pages) = AnyLine
reach ListFiles = NoLine
reach (FRead name offset len) = NoLine
reach (FWrite name offset bytes) = AnyLine
reach (FAtomic name offset bytes) = AnyLine
reach (FMulti name ranges bytes) = AnyLine
reach (FDiscard name page count) = AnyLine
reach (FSync name) = AnyLine
reach (Map name span kind) = NoLine
reach (Unmap handle) = NoLine
reach (Load handle offset len) = NoLine
reach (Store handle offset bytes) = AnyLine
reach (Sync handle offset len) = AnyLine
reach (Flush handle spans) = AnyLine
reach (FlushVerify handle spans) = AnyLine
reach (DeepFlush handle spans) = AnyLine
reach NextEvent = NoLine
reach (CheckFile name offset len) = NoLine
reach (PoisonBlock block line) = OneLine
reach (PoisonVolume offset) = OneLine
reach (PoisonFile name offset) = OneLine
reach (PoisonMeta line) = OneLine
reach (WeakenFile name offset) = OneLine
reach (WeakenVolume offset) = OneLine
reach (ClearFile name offset) = AnyLine
reach (ClearVolume offset) = AnyLine
reach Cut = NoLine
reach (CutIn calls) = NoLine
reach (FailIn calls) = NoLine
reach (Restart choice) = Surviving choice
reach Recover = LogLines
reach (Attr name) = NoLine
reach (Evict lines) = NoLine

-- The power came back, and from there the mount changed its logs alone.
pub record CameBack (choice : Choice) (old new : Device) : Type 0 where
  pub between : Device
  pub start : Start
  pub restarted : Restarted choice old between start
  pub starts : new.panel.starts ≡ between.panel.starts
  pub lines : WritesBackOutside (IsOfLogs (geometry_told between.medium)) between.medium new.medium

-- no other lines changed
abbrev pub Changes : Reach → Device → Device → Type 0
Changes NoLine old new = WritesBack old.medium new.medium
Changes OneLine old new = (line : ℕ) × WritesBackBut (λ n. n ≡ line) old.medium new.medium
Changes LogLines old new = WritesBackOutside (IsOfLogs (geometry_told old.medium)) old.medium new.medium
Changes (Surviving choice) old new = CameBack choice old new
Changes AnyLine old new = Unit {0}

-- A refusal leaves the host, but for more room for events, and lines that are only written back. Of any other answer the command
-- tells which lines it may have changed.
abbrev pub Keeps : Bool → Action → HostState → HostState → Device → Device → Type 0
Keeps true action before after old new = IsRoomier before after × WritesBack old.medium new.medium
Keeps false action before after old new = Changes (reach action) old new
