-- Which files there are, and how long that stays.
use Rattle.std.specs.Prelude.{◌≡◌, ◌⊎◌, Bool, true, false, List, [], ◌∷◌, map, Option, Some, None}
use Rattle.nvm_base.specs.declared.files.FileEntry.{FileEntry}
use Rattle.nvm_model.specs.Files.{entry_of_file}
use Rattle.reply_text.specs.Answer.{Answer}
use Rattle.reply_text.specs.Answer.Answer.{Done, DeviceFailed, PowerLost}
use Rattle.script_text.specs.Action.{Action}
use Rattle.script_text.specs.Action.Action.{BRead, BWrite, BAtomic, BMulti, BDiscard, BDiscardIf, BExists, BScar, VLoad, VStore, VSync, VRanges, VPSync, VDiscard, VDiscardIf, VExists, Create, Delete, Rename, Resize, ListFiles, FRead, FWrite, FAtomic, FMulti, FDiscard, FSync, Map, Unmap, Load, Store, Sync, Flush, FlushVerify, DeepFlush, NextEvent, CheckFile, PoisonBlock, PoisonVolume, PoisonFile, PoisonMeta, WeakenFile, WeakenVolume, ClearFile, ClearVolume, Cut, CutIn, FailIn, Restart, Recover, Attr, Evict}
use Rattle.script_text.specs.Script.{Input}
use Rattle.script_text.specs.Script.Input.{Asked}
use Rattle.machine_model.specs.declared.mode.Mode.TheVariants.{On}
use Rattle.machine_model.specs.Machine.{Machine}
use Rattle.machine_model.specs.Commands.{meaning}
use Rattle.machine_model.specs.Run.{Transcript, Hears, Run}
use Rattle.durable.specs.Mapped.{Begun, commands_begun}
use Rattle.durable.specs.Durable.{HasNothing, IsComplete, NoneBegun, Passes}

-- a command that changes which files there are, or how many pages one has
abbrev pub changes_files : Action → Bool
changes_files (BRead block count) = false
changes_files (BWrite block bytes) = false
changes_files (BAtomic block bytes) = false
changes_files (BMulti ranges bytes) = false
changes_files (BDiscard block count) = false
changes_files (BDiscardIf block count) = false
changes_files (BExists block) = false
changes_files (BScar ranges) = false
changes_files (VLoad offset len) = false
changes_files (VStore offset bytes) = false
changes_files (VSync offset len) = false
changes_files VRanges = false
changes_files (VPSync address len) = false
changes_files (VDiscard page count) = false
changes_files (VDiscardIf page count) = false
changes_files (VExists page) = false
changes_files (Create name pages) = true
changes_files (Delete name) = true
changes_files (Rename name to) = true
changes_files (Resize name pages) = true
changes_files ListFiles = false
changes_files (FRead name offset len) = false
changes_files (FWrite name offset bytes) = false
changes_files (FAtomic name offset bytes) = false
changes_files (FMulti name ranges bytes) = false
changes_files (FDiscard name page count) = false
changes_files (FSync name) = false
changes_files (Map name span kind) = false
changes_files (Unmap handle) = false
changes_files (Load handle offset len) = false
changes_files (Store handle offset bytes) = false
changes_files (Sync handle offset len) = false
changes_files (Flush handle spans) = false
changes_files (FlushVerify handle spans) = false
changes_files (DeepFlush handle spans) = false
changes_files NextEvent = false
changes_files (CheckFile name offset len) = false
changes_files (PoisonBlock block line) = false
changes_files (PoisonVolume offset) = false
changes_files (PoisonFile name offset) = false
changes_files (PoisonMeta line) = false
changes_files (WeakenFile name offset) = false
changes_files (WeakenVolume offset) = false
changes_files (ClearFile name offset) = false
changes_files (ClearVolume offset) = false
changes_files Cut = false
changes_files (CutIn calls) = false
changes_files (FailIn calls) = false
changes_files (Restart choice) = false
changes_files Recover = false
changes_files (Attr name) = false
changes_files (Evict lines) = false

-- name and page count of each file, as they are listed, and as they are once a command is done
abbrev pub files_listed : Machine → List FileEntry
files_listed h = map entry_of_file h.files

abbrev pub files_after : Machine → Action → List FileEntry
files_after h action = map entry_of_file ((meaning action).files h.mappings h.files)

-- no change of files is interrupted
abbrev pub LeavesFiles : Option Action → Type 0
LeavesFiles None = Unit {0}
LeavesFiles (Some action) = changes_files action ≡ false

-- In every later state they are listed so, or nothing is there, whatever is cut, fails, and is restarted or recovered, where no
-- change of them was begun.
abbrev pub FilesLast : Machine → List FileEntry → Type 0
FilesLast h listed = (inputs : List Input) (said : Transcript) (later : Machine) → Run h inputs said later → NoneBegun (λ (command : Begun). changes_files command.action) (commands_begun h.mappings inputs said.answers)
    → (files_listed later ≡ listed) ⊎ HasNothing later

-- They are listed in one of two ways, or nothing is there. In mode On the list that is there lasts.
pub record AreEither (h : Machine) (old new : List FileEntry) : Type 0 where
  pub listed : ((files_listed h ≡ old) ⊎ (files_listed h ≡ new)) ⊎ HasNothing h
  pub lasts : h.mode ≡ On → FilesLast h (files_listed h)

-- so it is in every later state, where no other change of them was begun
abbrev pub FilesSettle : Machine → List FileEntry → List FileEntry → Type 0
FilesSettle h old new = (inputs : List Input) (said : Transcript) (later : Machine) → Run h inputs said later → NoneBegun (λ (command : Begun). changes_files command.action) (commands_begun h.mappings inputs said.answers)
    → AreEither later old new

-- a command was stopped on the way, by a failure or a loss of power
abbrev pub IsStopped : List Answer → Type 0
IsStopped answers = (answers ≡ DeviceFailed ∷ []) ⊎ (answers ≡ PowerLost ∷ [])

-- it was stopped in h, which led to this state
pub record BreaksOff (h : Machine) (action : Action) (next : Machine) : Type 0 where
  pub whole : IsComplete h
  pub said : Transcript
  pub came : Hears h (Asked action) said next
  pub stopped : IsStopped said.answers

-- Where the command was done, the files last as it made them; where it was stopped, they come to be as before or as it would
-- have made them.
pub record FilesThrough (h : Machine) (before : List Input) (action : Action) (after : List Input) (said : Transcript) (end : Machine) : Type 0 where
  pub passes : Passes h before action after said end
  pub done : passes.middle.answers ≡ Done ∷ [] → FilesLast passes.next (files_after passes.here action)
  pub stopped : IsStopped passes.middle.answers → FilesSettle passes.next (files_listed passes.here) (files_after passes.here action)
