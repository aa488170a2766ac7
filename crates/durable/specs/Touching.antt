-- Which bytes a command makes durable, which it changes, of which it makes the line bad or weak, and which it keeps from mounts.
use Rattle.std.specs.Prelude.{◌+◌, ◌*◌, ◌/◌, ◌&&◌, Bool, true, false, List, [], ◌∷◌, length}
use Rattle.nvm_model.specs.Storage.{Mapping}
use Rattle.block_device.specs.Refusals.{block_spans}
use Rattle.file_actions.specs.Refusals.{all_bytes}
use Rattle.pm_volume.specs.Refusals.{physical_offset}
use Rattle.reply_text.specs.Answer.{Answer}
use Rattle.reply_text.specs.Answer.Answer.{Done, DoneBad, Bytes, Ranges, Files, Handle, Happened, NoEvent, BadLines, Attribute, VerifyFile, Yes, No, Scarred, PoisonBlock as PoisonedBlock, PoisonVolume as PoisonedVolume, PoisonFile as PoisonedFile, DeviceFailed, PowerLost, Stopped, Refused, RefusedMeta}
use Rattle.script_text.specs.Action.{Action}
use Rattle.script_text.specs.Action.Action.{BRead, BWrite, BAtomic, BMulti, BDiscard, BDiscardIf, BExists, BScar, VLoad, VStore, VSync, VRanges, VPSync, VDiscard, VDiscardIf, VExists, Create, Delete, Rename, Resize, ListFiles, FRead, FWrite, FAtomic, FMulti, FDiscard, FSync, Map, Unmap, Load, Store, Sync, Flush, FlushVerify, DeepFlush, NextEvent, CheckFile, PoisonBlock, PoisonVolume, PoisonFile, PoisonMeta, WeakenFile, WeakenVolume, ClearFile, ClearVolume, Cut, CutIn, FailIn, Restart, Recover, Attr, Evict}
use Rattle.machine_model.specs.OnBlocks.{blocks_from}
use Rattle.machine_model.specs.Machine.{Machine}
use Rattle.word_tables.specs.declared.geometry.Geometry.{Geometry}
use Rattle.durable.specs.Place.{Place}
use Rattle.durable.specs.Region.{Region, discarded_pages, everything, file_bytes, flushed_lines, flushed_through, holds, line_of_blocks, line_of_file, line_of_volume, nothing, pages_bytes, ranges_bytes, rewritten_bytes, spanned, stored_bytes, stored_through, touched_lines, touched_lines_at, two_files, whole_file}

-- The bytes that a command makes durable: in place, where a weak line is lost by that, or anew, in lines that are not weak.
pub record Covered : Type 0 where
  pub region : Region
  pub worn : Bool

abbrev pub uncovered : Covered
uncovered = record { region = nothing; worn = false }

abbrev pub in_place : Region → Covered
in_place region = record { region = region; worn = true }

abbrev pub anew : Region → Covered
anew region = record { region = region; worn = false }

-- the place is of the region, and a weak line there is lost
abbrev pub wears_out : Covered → Place → Bool
wears_out covered x = covered.worn && holds covered.region x

-- What is durable once a command is done on storage of these sizes, where the mappings are these: the blocks that it writes, the lines
-- that it syncs, one that it clears, those that it flushes through a handle, and the pages that it writes as a whole.
abbrev pub made_durable : Geometry → List Mapping → Action → Covered
made_durable geo mappings (BRead block count) = uncovered
made_durable geo mappings (BWrite block bytes) = in_place (spanned (blocks_from block (length bytes / 512)))
made_durable geo mappings (BAtomic block bytes) = in_place (spanned (blocks_from block (length bytes / 512)))
made_durable geo mappings (BMulti ranges bytes) = in_place (spanned (block_spans ranges))
made_durable geo mappings (BDiscard block count) = uncovered
made_durable geo mappings (BDiscardIf block count) = uncovered
made_durable geo mappings (BExists block) = uncovered
made_durable geo mappings (BScar ranges) = uncovered
made_durable geo mappings (VLoad offset len) = uncovered
made_durable geo mappings (VStore offset bytes) = uncovered
made_durable geo mappings (VSync offset len) = in_place (touched_lines offset len)
made_durable geo mappings VRanges = uncovered
made_durable geo mappings (VPSync address len) = in_place (touched_lines_at (physical_offset geo address len) len)
made_durable geo mappings (VDiscard page count) = uncovered
made_durable geo mappings (VDiscardIf page count) = uncovered
made_durable geo mappings (VExists page) = uncovered
made_durable geo mappings (Create name pages) = uncovered
made_durable geo mappings (Delete name) = uncovered
made_durable geo mappings (Rename name to) = uncovered
made_durable geo mappings (Resize name pages) = uncovered
made_durable geo mappings ListFiles = uncovered
made_durable geo mappings (FRead name offset len) = uncovered
made_durable geo mappings (FWrite name offset bytes) = uncovered
made_durable geo mappings (FAtomic name offset bytes) = anew (rewritten_bytes name (record { start = offset; len = length bytes } ∷ []))
made_durable geo mappings (FMulti name ranges bytes) = anew (rewritten_bytes name ranges)
made_durable geo mappings (FDiscard name page count) = uncovered
made_durable geo mappings (FSync name) = in_place (flushed_lines name all_bytes)
made_durable geo mappings (Map name span kind) = uncovered
made_durable geo mappings (Unmap handle) = uncovered
made_durable geo mappings (Load handle offset len) = uncovered
made_durable geo mappings (Store handle offset bytes) = uncovered
made_durable geo mappings (Sync handle offset len) = in_place (flushed_through mappings handle (record { start = offset; len = len } ∷ []))
made_durable geo mappings (Flush handle spans) = in_place (flushed_through mappings handle spans)
made_durable geo mappings (FlushVerify handle spans) = in_place (flushed_through mappings handle spans)
made_durable geo mappings (DeepFlush handle spans) = in_place (flushed_through mappings handle spans)
made_durable geo mappings NextEvent = uncovered
made_durable geo mappings (CheckFile name offset len) = uncovered
made_durable geo mappings (PoisonBlock block line) = uncovered
made_durable geo mappings (PoisonVolume offset) = uncovered
made_durable geo mappings (PoisonFile name offset) = uncovered
made_durable geo mappings (PoisonMeta line) = uncovered
made_durable geo mappings (WeakenFile name offset) = uncovered
made_durable geo mappings (WeakenVolume offset) = uncovered
made_durable geo mappings (ClearFile name offset) = in_place (line_of_file name (offset / 64))
made_durable geo mappings (ClearVolume offset) = in_place (line_of_volume (offset / 64))
made_durable geo mappings Cut = uncovered
made_durable geo mappings (CutIn calls) = uncovered
made_durable geo mappings (FailIn calls) = uncovered
made_durable geo mappings (Restart choice) = uncovered
made_durable geo mappings Recover = uncovered
made_durable geo mappings (Attr name) = uncovered
made_durable geo mappings (Evict lines) = uncovered

-- What a command writes, discards, scars, stores or clears, where the mappings are these; and all of a file that it makes, renames,
-- resizes or deletes.
abbrev pub region_changed : List Mapping → Action → Region
region_changed mappings (BRead block count) = nothing
region_changed mappings (BWrite block bytes) = spanned (blocks_from block (length bytes / 512))
region_changed mappings (BAtomic block bytes) = spanned (blocks_from block (length bytes / 512))
region_changed mappings (BMulti ranges bytes) = spanned (block_spans ranges)
region_changed mappings (BDiscard block count) = spanned (blocks_from block count)
region_changed mappings (BDiscardIf block count) = spanned (blocks_from block count)
region_changed mappings (BExists block) = nothing
region_changed mappings (BScar ranges) = spanned ranges
region_changed mappings (VLoad offset len) = nothing
region_changed mappings (VStore offset bytes) = stored_bytes offset (length bytes)
region_changed mappings (VSync offset len) = nothing
region_changed mappings VRanges = nothing
region_changed mappings (VPSync address len) = nothing
region_changed mappings (VDiscard page count) = discarded_pages page count
region_changed mappings (VDiscardIf page count) = discarded_pages page count
region_changed mappings (VExists page) = nothing
region_changed mappings (Create name pages) = whole_file name
region_changed mappings (Delete name) = whole_file name
region_changed mappings (Rename name to) = two_files name to
region_changed mappings (Resize name pages) = whole_file name
region_changed mappings ListFiles = nothing
region_changed mappings (FRead name offset len) = nothing
region_changed mappings (FWrite name offset bytes) = file_bytes name offset (length bytes)
region_changed mappings (FAtomic name offset bytes) = file_bytes name offset (length bytes)
region_changed mappings (FMulti name ranges bytes) = ranges_bytes name ranges
region_changed mappings (FDiscard name page count) = pages_bytes name page count
region_changed mappings (FSync name) = nothing
region_changed mappings (Map name span kind) = nothing
region_changed mappings (Unmap handle) = nothing
region_changed mappings (Load handle offset len) = nothing
region_changed mappings (Store handle offset bytes) = stored_through mappings handle offset (length bytes)
region_changed mappings (Sync handle offset len) = nothing
region_changed mappings (Flush handle spans) = nothing
region_changed mappings (FlushVerify handle spans) = nothing
region_changed mappings (DeepFlush handle spans) = nothing
region_changed mappings NextEvent = nothing
region_changed mappings (CheckFile name offset len) = nothing
region_changed mappings (PoisonBlock block line) = nothing
region_changed mappings (PoisonVolume offset) = nothing
region_changed mappings (PoisonFile name offset) = nothing
region_changed mappings (PoisonMeta line) = nothing
region_changed mappings (WeakenFile name offset) = nothing
region_changed mappings (WeakenVolume offset) = nothing
region_changed mappings (ClearFile name offset) = line_of_file name (offset / 64)
region_changed mappings (ClearVolume offset) = line_of_volume (offset / 64)
region_changed mappings Cut = nothing
region_changed mappings (CutIn calls) = nothing
region_changed mappings (FailIn calls) = nothing
region_changed mappings (Restart choice) = nothing
region_changed mappings Recover = nothing
region_changed mappings (Attr name) = nothing
region_changed mappings (Evict lines) = nothing

-- the line that a command makes bad at once, and the one that it makes weak, which a sync makes bad; and what no mount finds any
-- more, as a line of metadata is bad
pub record Harm : Type 0 where
  pub poisoned : Region
  pub weakened : Region
  pub unmounted : Region

abbrev pub no_harm : Harm
no_harm = record { poisoned = nothing; weakened = nothing; unmounted = nothing }

-- what a command does to lines beside changing them
abbrev pub harm_done : Action → Harm
harm_done (BRead block count) = no_harm
harm_done (BWrite block bytes) = no_harm
harm_done (BAtomic block bytes) = no_harm
harm_done (BMulti ranges bytes) = no_harm
harm_done (BDiscard block count) = no_harm
harm_done (BDiscardIf block count) = no_harm
harm_done (BExists block) = no_harm
harm_done (BScar ranges) = no_harm
harm_done (VLoad offset len) = no_harm
harm_done (VStore offset bytes) = no_harm
harm_done (VSync offset len) = no_harm
harm_done VRanges = no_harm
harm_done (VPSync address len) = no_harm
harm_done (VDiscard page count) = no_harm
harm_done (VDiscardIf page count) = no_harm
harm_done (VExists page) = no_harm
harm_done (Create name pages) = no_harm
harm_done (Delete name) = no_harm
harm_done (Rename name to) = no_harm
harm_done (Resize name pages) = no_harm
harm_done ListFiles = no_harm
harm_done (FRead name offset len) = no_harm
harm_done (FWrite name offset bytes) = no_harm
harm_done (FAtomic name offset bytes) = no_harm
harm_done (FMulti name ranges bytes) = no_harm
harm_done (FDiscard name page count) = no_harm
harm_done (FSync name) = no_harm
harm_done (Map name span kind) = no_harm
harm_done (Unmap handle) = no_harm
harm_done (Load handle offset len) = no_harm
harm_done (Store handle offset bytes) = no_harm
harm_done (Sync handle offset len) = no_harm
harm_done (Flush handle spans) = no_harm
harm_done (FlushVerify handle spans) = no_harm
harm_done (DeepFlush handle spans) = no_harm
harm_done NextEvent = no_harm
harm_done (CheckFile name offset len) = no_harm
harm_done (PoisonBlock block line) = record no_harm { poisoned = line_of_blocks (8 * block + line) }
harm_done (PoisonVolume offset) = record no_harm { poisoned = line_of_volume (offset / 64) }
harm_done (PoisonFile name offset) = record no_harm { poisoned = line_of_file name (offset / 64) }
harm_done (PoisonMeta line) = record no_harm { unmounted = everything }
harm_done (WeakenFile name offset) = record no_harm { weakened = line_of_file name (offset / 64) }
harm_done (WeakenVolume offset) = record no_harm { weakened = line_of_volume (offset / 64) }
harm_done (ClearFile name offset) = no_harm
harm_done (ClearVolume offset) = no_harm
harm_done Cut = no_harm
harm_done (CutIn calls) = no_harm
harm_done (FailIn calls) = no_harm
harm_done (Restart choice) = no_harm
harm_done Recover = no_harm
harm_done (Attr name) = no_harm
harm_done (Evict lines) = no_harm

abbrev pub is_made_durable : Machine → Action → Place → Bool
is_made_durable h action x = holds (made_durable h.geometry h.mappings action).region x

-- and of which a weak line would be lost by that
abbrev pub wears_with : Geometry → List Mapping → Action → Place → Bool
wears_with geo mappings action x = wears_out (made_durable geo mappings action) x

abbrev pub wears : Machine → Action → Place → Bool
wears h action x = wears_with h.geometry h.mappings action x

abbrev pub changes : List Mapping → Action → Place → Bool
changes mappings action x = holds (region_changed mappings action) x

abbrev pub poisons : Action → Place → Bool
poisons action x = holds (harm_done action).poisoned x

abbrev pub weakens : Action → Place → Bool
weakens action x = holds (harm_done action).weakened x

abbrev pub unmounts : Action → Place → Bool
unmounts action x = holds (harm_done action).unmounted x

-- a command that was answered so was begun: it was done, a flush also where it lost a line, or stopped on the way
abbrev pub is_begun : Answer → Bool
is_begun Done = true
is_begun (DoneBad n) = false
is_begun (Bytes bytes) = false
is_begun (Ranges ranges) = false
is_begun (Files files) = false
is_begun (Handle n) = false
is_begun (Happened event) = false
is_begun NoEvent = false
is_begun (BadLines lines) = false
is_begun (Attribute value) = false
is_begun Yes = false
is_begun No = false
is_begun (Scarred block) = false
is_begun (PoisonedBlock block line) = false
is_begun (PoisonedVolume offset) = false
is_begun (PoisonedFile name offset) = false
is_begun (VerifyFile name offset) = true
is_begun DeviceFailed = true
is_begun PowerLost = true
is_begun (Stopped line) = false
is_begun (Refused why) = false
is_begun (RefusedMeta line) = false
