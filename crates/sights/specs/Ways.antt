-- How a cut inside a command mixes what was with what would be.
use Rattle.std.specs.Prelude.{◌==◌, ◌||◌, ℕ, Bool, not, List, Option, Some, None}
use Rattle.std.specs.List.{list_all}
use Rattle.script_text.specs.Action.{Action}
use Rattle.script_text.specs.Action.Action.{BRead, BWrite, BAtomic, BMulti, BDiscard, BDiscardIf, BExists, BScar, VLoad, VStore, VSync, VRanges, VPSync, VDiscard, VDiscardIf, VExists, Create, Delete, Rename, Resize, ListFiles, FRead, FWrite, FAtomic, FMulti, FDiscard, FSync, Map, Unmap, Load, Store, Sync, Flush, FlushVerify, DeepFlush, NextEvent, CheckFile, PoisonBlock, PoisonVolume, PoisonFile, PoisonMeta, WeakenFile, WeakenVolume, ClearFile, ClearVolume, Cut, CutIn, FailIn, Restart, Recover, Attr, Evict}
use Rattle.sights.specs.declared.way.Way.{Way}
use Rattle.sights.specs.declared.way.Way.TheVariants.{Each, Together, ByPage}

-- Units pass, each as it is now or as it would be, as the way has it.
abbrev pub passes_by : {A : Type 0} → Way → (A → Bool) → (A → Bool) → (A → ℕ) → List A → Bool
passes_by Each now then page units = list_all (λ u. now u || then u) units
passes_by Together now then page units = list_all now units || list_all then units
passes_by ByPage now then page units =
    list_all (λ u. list_all (λ v. not (page v == page u) || now v) units || list_all (λ v. not (page v == page u) || then v) units) units

-- or as they are now, where there is no other
abbrev pub passes_inside : {A : Type 0} → Option Way → (A → Bool) → (A → Bool) → (A → ℕ) → List A → Bool
passes_inside None now then page units = list_all now units
passes_inside (Some way) now then page units = passes_by way now then page units

-- how a cut inside a command leaves the lines of the volume, where some are old or new
abbrev pub lines_way : Action → Option Way
lines_way (BRead block count) = None
lines_way (BWrite block bytes) = None
lines_way (BAtomic block bytes) = None
lines_way (BMulti ranges bytes) = None
lines_way (BDiscard block count) = None
lines_way (BDiscardIf block count) = None
lines_way (BExists block) = None
lines_way (BScar ranges) = None
lines_way (VLoad offset len) = None
lines_way (VStore offset bytes) = Some Each
lines_way (VSync offset len) = Some Each
lines_way VRanges = None
lines_way (VPSync address len) = Some Each
lines_way (VDiscard page count) = Some Together
lines_way (VDiscardIf page count) = Some ByPage
lines_way (VExists page) = None
lines_way (Create name pages) = None
lines_way (Delete name) = None
lines_way (Rename name to) = None
lines_way (Resize name pages) = None
lines_way ListFiles = None
lines_way (FRead name offset len) = None
lines_way (FWrite name offset bytes) = None
lines_way (FAtomic name offset bytes) = None
lines_way (FMulti name ranges bytes) = None
lines_way (FDiscard name page count) = None
lines_way (FSync name) = None
lines_way (Map name span kind) = None
lines_way (Unmap handle) = None
lines_way (Load handle offset len) = None
lines_way (Store handle offset bytes) = None
lines_way (Sync handle offset len) = None
lines_way (Flush handle spans) = None
lines_way (FlushVerify handle spans) = None
lines_way (DeepFlush handle spans) = None
lines_way NextEvent = None
lines_way (CheckFile name offset len) = None
lines_way (PoisonBlock block line) = None
lines_way (PoisonVolume offset) = None
lines_way (PoisonFile name offset) = None
lines_way (PoisonMeta line) = None
lines_way (WeakenFile name offset) = None
lines_way (WeakenVolume offset) = None
lines_way (ClearFile name offset) = None
lines_way (ClearVolume offset) = Some Together
lines_way Cut = None
lines_way (CutIn calls) = None
lines_way (FailIn calls) = None
lines_way (Restart choice) = None
lines_way Recover = None
lines_way (Attr name) = None
lines_way (Evict lines) = None

-- and the blocks
abbrev pub blocks_way : Action → Option Way
blocks_way (BRead block count) = None
blocks_way (BWrite block bytes) = Some Each
blocks_way (BAtomic block bytes) = Some Together
blocks_way (BMulti ranges bytes) = Some Together
blocks_way (BDiscard block count) = Some Together
blocks_way (BDiscardIf block count) = Some Each
blocks_way (BExists block) = None
blocks_way (BScar ranges) = Some Together
blocks_way (VLoad offset len) = None
blocks_way (VStore offset bytes) = None
blocks_way (VSync offset len) = None
blocks_way VRanges = None
blocks_way (VPSync address len) = None
blocks_way (VDiscard page count) = None
blocks_way (VDiscardIf page count) = None
blocks_way (VExists page) = None
blocks_way (Create name pages) = None
blocks_way (Delete name) = None
blocks_way (Rename name to) = None
blocks_way (Resize name pages) = None
blocks_way ListFiles = None
blocks_way (FRead name offset len) = None
blocks_way (FWrite name offset bytes) = None
blocks_way (FAtomic name offset bytes) = None
blocks_way (FMulti name ranges bytes) = None
blocks_way (FDiscard name page count) = None
blocks_way (FSync name) = None
blocks_way (Map name span kind) = None
blocks_way (Unmap handle) = None
blocks_way (Load handle offset len) = None
blocks_way (Store handle offset bytes) = None
blocks_way (Sync handle offset len) = None
blocks_way (Flush handle spans) = None
blocks_way (FlushVerify handle spans) = None
blocks_way (DeepFlush handle spans) = None
blocks_way NextEvent = None
blocks_way (CheckFile name offset len) = None
blocks_way (PoisonBlock block line) = None
blocks_way (PoisonVolume offset) = None
blocks_way (PoisonFile name offset) = None
blocks_way (PoisonMeta line) = None
blocks_way (WeakenFile name offset) = None
blocks_way (WeakenVolume offset) = None
blocks_way (ClearFile name offset) = None
blocks_way (ClearVolume offset) = None
blocks_way Cut = None
blocks_way (CutIn calls) = None
blocks_way (FailIn calls) = None
blocks_way (Restart choice) = None
blocks_way Recover = None
blocks_way (Attr name) = None
blocks_way (Evict lines) = None
