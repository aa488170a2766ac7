-- What a command of a program makes of a block, as reads see it.
use Rattle.std.specs.Prelude.{ℕ}
use Rattle.block_sights.specs.Sights.{Sight, sight_lost, sight_made, sight_written, sight_written_ranges, zeros}
use Rattle.block_sights.specs.Sights.Sight.{Scar}
use Rattle.script_text.specs.Action.{Action}
use Rattle.script_text.specs.Action.Action.{BRead, BWrite, BAtomic, BMulti, BDiscard, BDiscardIf, BExists, BScar, VLoad, VStore, VSync, VRanges, VPSync, VDiscard, VDiscardIf, VExists, Create, Delete, Rename, Resize, ListFiles, FRead, FWrite, FAtomic, FMulti, FDiscard, FSync, Map, Unmap, Load, Store, Sync, Flush, FlushVerify, DeepFlush, NextEvent, CheckFile, PoisonBlock, PoisonVolume, PoisonFile, PoisonMeta, WeakenFile, WeakenVolume, ClearFile, ClearVolume, Cut, CutIn, FailIn, Restart, Recover, Attr, Evict}
use Rattle.asked_reads.specs.MachineModel.OnBlocks.{blocks_from}

-- block b once the command is done
abbrev pub block_changed : Action → ℕ → Sight → Sight
block_changed (BRead block count) b old = old
block_changed (BWrite block bytes) b old = sight_written block bytes b old
block_changed (BAtomic block bytes) b old = sight_written block bytes b old
block_changed (BMulti ranges bytes) b old = sight_written_ranges ranges bytes b old
block_changed (BDiscard block count) b old = sight_made (blocks_from block count) zeros b old
block_changed (BDiscardIf block count) b old = sight_made (blocks_from block count) zeros b old
block_changed (BExists block) b old = old
block_changed (BScar ranges) b old = sight_made ranges Scar b old
block_changed (VLoad offset len) b old = old
block_changed (VStore offset bytes) b old = old
block_changed (VSync offset len) b old = old
block_changed VRanges b old = old
block_changed (VPSync address len) b old = old
block_changed (VDiscard page count) b old = old
block_changed (VDiscardIf page count) b old = old
block_changed (VExists page) b old = old
block_changed (Create name pages) b old = old
block_changed (Delete name) b old = old
block_changed (Rename name to) b old = old
block_changed (Resize name pages) b old = old
block_changed ListFiles b old = old
block_changed (FRead name offset len) b old = old
block_changed (FWrite name offset bytes) b old = old
block_changed (FAtomic name offset bytes) b old = old
block_changed (FMulti name ranges bytes) b old = old
block_changed (FDiscard name page count) b old = old
block_changed (FSync name) b old = old
block_changed (Map name span kind) b old = old
block_changed (Unmap handle) b old = old
block_changed (Load handle offset len) b old = old
block_changed (Store handle offset bytes) b old = old
block_changed (Sync handle offset len) b old = old
block_changed (Flush handle spans) b old = old
block_changed (FlushVerify handle spans) b old = old
block_changed (DeepFlush handle spans) b old = old
block_changed NextEvent b old = old
block_changed (CheckFile name offset len) b old = old
block_changed (PoisonBlock block line) b old = sight_lost block line b old
block_changed (PoisonVolume offset) b old = old
block_changed (PoisonFile name offset) b old = old
block_changed (PoisonMeta line) b old = old
block_changed (WeakenFile name offset) b old = old
block_changed (WeakenVolume offset) b old = old
block_changed (ClearFile name offset) b old = old
block_changed (ClearVolume offset) b old = old
block_changed Cut b old = old
block_changed (CutIn calls) b old = old
block_changed (FailIn calls) b old = old
block_changed (Restart choice) b old = old
block_changed Recover b old = old
block_changed (Attr name) b old = old
block_changed (Evict lines) b old = old
