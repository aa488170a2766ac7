-- What the commands of a program bring.
use Rattle.std.specs.Prelude.{◌≡◌, true, List, [], ◌∷◌}
use Rattle.nvm_base.specs.Names.{is_name}
use Rattle.script_text.specs.Action.{Action}
use Rattle.script_text.specs.Action.Action.{BRead, BWrite, BAtomic, BMulti, BDiscard, BDiscardIf, BExists, BScar, VLoad, VStore, VSync, VRanges, VPSync, VDiscard, VDiscardIf, VExists, Create, Delete, Rename, Resize, ListFiles, FRead, FWrite, FAtomic, FMulti, FDiscard, FSync, Map, Unmap, Load, Store, Sync, Flush, FlushVerify, DeepFlush, NextEvent, CheckFile, PoisonBlock, PoisonVolume, PoisonFile, PoisonMeta, WeakenFile, WeakenVolume, ClearFile, ClearVolume, Cut, CutIn, FailIn, Restart, Recover, Attr, Evict}
use Rattle.script_text.specs.Script.{Input}
use Rattle.script_text.specs.Script.Input.{Skipped, Malformed, Overlong, Asked}
use Rattle.state_images.specs.Storable.{AreBytes}

-- what a write to blocks brings are bytes, and a new name is one; nothing is asked of other data
abbrev pub BringsRight : Action → Type 0
BringsRight (BRead block count) = Unit {0}
BringsRight (BWrite block bytes) = AreBytes bytes
BringsRight (BAtomic block bytes) = AreBytes bytes
BringsRight (BMulti ranges bytes) = AreBytes bytes
BringsRight (BDiscard block count) = Unit {0}
BringsRight (BDiscardIf block count) = Unit {0}
BringsRight (BExists block) = Unit {0}
BringsRight (BScar ranges) = Unit {0}
BringsRight (VLoad offset len) = Unit {0}
BringsRight (VStore offset bytes) = Unit {0}
BringsRight (VSync offset len) = Unit {0}
BringsRight VRanges = Unit {0}
BringsRight (VPSync address len) = Unit {0}
BringsRight (VDiscard page count) = Unit {0}
BringsRight (VDiscardIf page count) = Unit {0}
BringsRight (VExists page) = Unit {0}
BringsRight (Create name pages) = is_name name ≡ true
BringsRight (Delete name) = Unit {0}
BringsRight (Rename name to) = is_name to ≡ true
BringsRight (Resize name pages) = Unit {0}
BringsRight ListFiles = Unit {0}
BringsRight (FRead name offset len) = Unit {0}
BringsRight (FWrite name offset bytes) = Unit {0}
BringsRight (FAtomic name offset bytes) = Unit {0}
BringsRight (FMulti name ranges bytes) = Unit {0}
BringsRight (FDiscard name page count) = Unit {0}
BringsRight (FSync name) = Unit {0}
BringsRight (Map name span kind) = Unit {0}
BringsRight (Unmap handle) = Unit {0}
BringsRight (Load handle offset len) = Unit {0}
BringsRight (Store handle offset bytes) = Unit {0}
BringsRight (Sync handle offset len) = Unit {0}
BringsRight (Flush handle spans) = Unit {0}
BringsRight (FlushVerify handle spans) = Unit {0}
BringsRight (DeepFlush handle spans) = Unit {0}
BringsRight NextEvent = Unit {0}
BringsRight (CheckFile name offset len) = Unit {0}
BringsRight (PoisonBlock block line) = Unit {0}
BringsRight (PoisonVolume offset) = Unit {0}
BringsRight (PoisonFile name offset) = Unit {0}
BringsRight (PoisonMeta line) = Unit {0}
BringsRight (WeakenFile name offset) = Unit {0}
BringsRight (WeakenVolume offset) = Unit {0}
BringsRight (ClearFile name offset) = Unit {0}
BringsRight (ClearVolume offset) = Unit {0}
BringsRight Cut = Unit {0}
BringsRight (CutIn calls) = Unit {0}
BringsRight (FailIn calls) = Unit {0}
BringsRight (Restart choice) = Unit {0}
BringsRight Recover = Unit {0}
BringsRight (Attr name) = Unit {0}
BringsRight (Evict lines) = Unit {0}

-- the same of all commands that are asked for
abbrev pub BringRight : List Input → Type 0
BringRight [] = Unit {0}
BringRight (Skipped ∷ inputs) = BringRight inputs
BringRight (Malformed ∷ inputs) = BringRight inputs
BringRight (Overlong ∷ inputs) = BringRight inputs
BringRight (Asked action ∷ inputs) = BringsRight action × BringRight inputs
