-- What a command of a program makes of the lines of the volume, and how a cut inside it mixes them.
use Rattle.std.specs.Prelude.{◌*◌, ◌/◌, ℕ, List, Option, Some, None, if◌then◌else◌}
use Rattle.word_tables.specs.declared.geometry.Geometry.{Geometry}
use Rattle.nvm_model.specs.Cell.{Cell, clear_cell, lose_cell, persist_cell, put_cell, weaken_cell, zero_cell}
use Rattle.nvm_model.specs.Numbered.{is_among}
use Rattle.nvm_model.specs.Page.{at_line}
use Rattle.pm_volume.specs.Refusals.{physical_offset}
use Rattle.script_text.specs.Action.{Action}
use Rattle.script_text.specs.Action.Action.{BRead, BWrite, BAtomic, BMulti, BDiscard, BDiscardIf, BExists, BScar, VLoad, VStore, VSync, VRanges, VPSync, VDiscard, VDiscardIf, VExists, Create, Delete, Rename, Resize, ListFiles, FRead, FWrite, FAtomic, FMulti, FDiscard, FSync, Map, Unmap, Load, Store, Sync, Flush, FlushVerify, DeepFlush, NextEvent, CheckFile, PoisonBlock, PoisonVolume, PoisonFile, PoisonMeta, WeakenFile, WeakenVolume, ClearFile, ClearVolume, Cut, CutIn, FailIn, Restart, Recover, Attr, Evict}

-- nothing; bytes put at an offset; a span made durable; lines made zeros, so many from one on; or one line marked or cleared
pub data LinesChange : Type 0 where
  Nothing : LinesChange
  Puts : ℕ → List ℕ → LinesChange
  Persists : ℕ → ℕ → LinesChange
  Zeroes : ℕ → ℕ → LinesChange
  Loses : ℕ → LinesChange
  Weakens : ℕ → LinesChange
  Clears : ℕ → LinesChange

-- line n after it
abbrev pub line_changed : LinesChange → ℕ → Cell → Cell
line_changed Nothing n cell = cell
line_changed (Puts at bytes) n cell = put_cell at bytes n cell
line_changed (Persists start len) n cell = persist_cell start len n cell
line_changed (Zeroes first count) n cell = if is_among first count n then zero_cell else cell
line_changed (Loses line) n cell = at_line lose_cell line n cell
line_changed (Weakens line) n cell = at_line weaken_cell line n cell
line_changed (Clears line) n cell = at_line clear_cell line n cell

-- a span made durable, where there is one
abbrev pub persisted_at : Option ℕ → ℕ → LinesChange
persisted_at None len = Nothing
persisted_at (Some offset) len = Persists offset len

-- what a command that is done makes of the volume
abbrev pub volume_change : Geometry → Action → LinesChange
volume_change geo (BRead block count) = Nothing
volume_change geo (BWrite block bytes) = Nothing
volume_change geo (BAtomic block bytes) = Nothing
volume_change geo (BMulti ranges bytes) = Nothing
volume_change geo (BDiscard block count) = Nothing
volume_change geo (BDiscardIf block count) = Nothing
volume_change geo (BExists block) = Nothing
volume_change geo (BScar ranges) = Nothing
volume_change geo (VLoad offset len) = Nothing
volume_change geo (VStore offset bytes) = Puts offset bytes
volume_change geo (VSync offset len) = Persists offset len
volume_change geo VRanges = Nothing
volume_change geo (VPSync address len) = persisted_at (physical_offset geo address len) len
volume_change geo (VDiscard page count) = Zeroes (64 * page) (64 * count)
volume_change geo (VDiscardIf page count) = Zeroes (64 * page) (64 * count)
volume_change geo (VExists page) = Nothing
volume_change geo (Create name pages) = Nothing
volume_change geo (Delete name) = Nothing
volume_change geo (Rename name to) = Nothing
volume_change geo (Resize name pages) = Nothing
volume_change geo ListFiles = Nothing
volume_change geo (FRead name offset len) = Nothing
volume_change geo (FWrite name offset bytes) = Nothing
volume_change geo (FAtomic name offset bytes) = Nothing
volume_change geo (FMulti name ranges bytes) = Nothing
volume_change geo (FDiscard name page count) = Nothing
volume_change geo (FSync name) = Nothing
volume_change geo (Map name span kind) = Nothing
volume_change geo (Unmap handle) = Nothing
volume_change geo (Load handle offset len) = Nothing
volume_change geo (Store handle offset bytes) = Nothing
volume_change geo (Sync handle offset len) = Nothing
volume_change geo (Flush handle spans) = Nothing
volume_change geo (FlushVerify handle spans) = Nothing
volume_change geo (DeepFlush handle spans) = Nothing
volume_change geo NextEvent = Nothing
volume_change geo (CheckFile name offset len) = Nothing
volume_change geo (PoisonBlock block line) = Nothing
volume_change geo (PoisonVolume offset) = Loses (offset / 64)
volume_change geo (PoisonFile name offset) = Nothing
volume_change geo (PoisonMeta line) = Nothing
volume_change geo (WeakenFile name offset) = Nothing
volume_change geo (WeakenVolume offset) = Weakens (offset / 64)
volume_change geo (ClearFile name offset) = Nothing
volume_change geo (ClearVolume offset) = Clears (offset / 64)
volume_change geo Cut = Nothing
volume_change geo (CutIn calls) = Nothing
volume_change geo (FailIn calls) = Nothing
volume_change geo (Restart choice) = Nothing
volume_change geo Recover = Nothing
volume_change geo (Attr name) = Nothing
volume_change geo (Evict lines) = Nothing
