-- Which change of files and mappings a command makes.
use Rattle.std.specs.Prelude.{◌+◌, ◌/◌, ℕ, List, [], ◌∷◌, length, Option, Some, None}
use Rattle.nvm_base.specs.declared.units.Span.{Span}
use Rattle.nvm_model.specs.Storage.{Mapping}
use Rattle.mappings.specs.declared.info.MapInfo.{MapInfo}
use Rattle.file_actions.specs.Refusals.{all_bytes}
use Rattle.script_text.specs.Action.{Action}
use Rattle.script_text.specs.Action.Action.{BRead, BWrite, BAtomic, BMulti, BDiscard, BDiscardIf, BExists, BScar, VLoad, VStore, VSync, VRanges, VPSync, VDiscard, VDiscardIf, VExists, Create, Delete, Rename, Resize, ListFiles, FRead, FWrite, FAtomic, FMulti, FDiscard, FSync, Map, Unmap, Load, Store, Sync, Flush, FlushVerify, DeepFlush, NextEvent, CheckFile, PoisonBlock, PoisonVolume, PoisonFile, PoisonMeta, WeakenFile, WeakenVolume, ClearFile, ClearVolume, Cut, CutIn, FailIn, Restart, Recover, Attr, Evict}
use Rattle.sights.specs.MachineModel.OnFlushes.{all_moved}
use Rattle.cut_places.specs.FileChanges.{FilesChange, LinesChange}
use Rattle.cut_places.specs.FileChanges.FilesChange.{Nothing, Makes, Removes, Renames, Resizes, Changes, Maps, Unmaps}
use Rattle.cut_places.specs.FileChanges.LinesChange.{Puts, Persists, Rewrites, Zeroes, Loses, Weakens, Clears}
use Rattle.cut_places.specs.Maps.{shown}

-- bytes stored, or spans made durable, in the stretch that a mapping shows
abbrev pub stored_at : ℕ → List ℕ → MapInfo → LinesChange
stored_at offset bytes info = Puts (info.span.start + offset) bytes

abbrev pub persisted_at : List Span → MapInfo → LinesChange
persisted_at spans info = Persists (all_moved info.span.start spans)

-- a command by handle changes lines of the file that is shown, if one is
abbrev pub through : Option MapInfo → (MapInfo → LinesChange) → FilesChange
through None of = Nothing
through (Some info) of = Changes info.name (of info)

abbrev pub files_change : List Mapping → Action → FilesChange
files_change mappings (BRead block count) = Nothing
files_change mappings (BWrite block bytes) = Nothing
files_change mappings (BAtomic block bytes) = Nothing
files_change mappings (BMulti ranges bytes) = Nothing
files_change mappings (BDiscard block count) = Nothing
files_change mappings (BDiscardIf block count) = Nothing
files_change mappings (BExists block) = Nothing
files_change mappings (BScar ranges) = Nothing
files_change mappings (VLoad offset len) = Nothing
files_change mappings (VStore offset bytes) = Nothing
files_change mappings (VSync offset len) = Nothing
files_change mappings VRanges = Nothing
files_change mappings (VPSync address len) = Nothing
files_change mappings (VDiscard page count) = Nothing
files_change mappings (VDiscardIf page count) = Nothing
files_change mappings (VExists page) = Nothing
files_change mappings (Create name pages) = Makes name pages
files_change mappings (Delete name) = Removes name
files_change mappings (Rename name to) = Renames name to
files_change mappings (Resize name pages) = Resizes name pages
files_change mappings ListFiles = Nothing
files_change mappings (FRead name offset len) = Nothing
files_change mappings (FWrite name offset bytes) = Changes name (Puts offset bytes)
files_change mappings (FAtomic name offset bytes) = Changes name (Rewrites (record { start = offset; len = length bytes } ∷ []) bytes)
files_change mappings (FMulti name ranges bytes) = Changes name (Rewrites ranges bytes)
files_change mappings (FDiscard name page count) = Changes name (Zeroes page count)
files_change mappings (FSync name) = Changes name (Persists all_bytes)
files_change mappings (Map name span kind) = Maps name span kind
files_change mappings (Unmap handle) = Unmaps handle
files_change mappings (Load handle offset len) = Nothing
files_change mappings (Store handle offset bytes) = through (shown handle mappings) (stored_at offset bytes)
files_change mappings (Sync handle offset len) = through (shown handle mappings) (persisted_at (record { start = offset; len = len } ∷ []))
files_change mappings (Flush handle spans) = through (shown handle mappings) (persisted_at spans)
files_change mappings (FlushVerify handle spans) = through (shown handle mappings) (persisted_at spans)
files_change mappings (DeepFlush handle spans) = through (shown handle mappings) (persisted_at spans)
files_change mappings NextEvent = Nothing
files_change mappings (CheckFile name offset len) = Nothing
files_change mappings (PoisonBlock block line) = Nothing
files_change mappings (PoisonVolume offset) = Nothing
files_change mappings (PoisonFile name offset) = Changes name (Loses (offset / 64))
files_change mappings (PoisonMeta line) = Nothing
files_change mappings (WeakenFile name offset) = Changes name (Weakens (offset / 64))
files_change mappings (WeakenVolume offset) = Nothing
files_change mappings (ClearFile name offset) = Changes name (Clears (offset / 64))
files_change mappings (ClearVolume offset) = Nothing
files_change mappings Cut = Nothing
files_change mappings (CutIn calls) = Nothing
files_change mappings (FailIn calls) = Nothing
files_change mappings (Restart choice) = Nothing
files_change mappings Recover = Nothing
files_change mappings (Attr name) = Nothing
files_change mappings (Evict lines) = Nothing
