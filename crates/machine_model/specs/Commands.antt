-- The table of commands: a row each, and what follows from the rows.
use Rattle.std.specs.Prelude.{◌≡◌, ◌⊎◌, ℕ, Bool, List, Option, Some, None, option_map}
use Rattle.nvm_model.specs.Blocks.{first_there, IsMixed}
use Rattle.nvm_model.specs.Files.{OneFileLeft}
use Rattle.nvm_model.specs.Interrupted.{MayStore, MaySync, MaySyncAll}
use Rattle.nvm_model.specs.Numbered.{AreMixed}
use Rattle.nvm_model.specs.Page.{Page}
use Rattle.nvm_model.specs.Storage.{Block, File, Mapping}
use Rattle.block_device.specs.Images.{IsEither}
use Rattle.word_tables.specs.declared.geometry.Geometry.{Geometry}
use Rattle.script_text.specs.Action.{Action}
use Rattle.script_text.specs.Action.Action.{BRead, BWrite, BAtomic, BMulti, BDiscard, BDiscardIf, BExists, BScar, VLoad, VStore, VSync, VRanges, VPSync, VDiscard, VDiscardIf, VExists, Create, Delete, Rename, Resize, ListFiles, FRead, FWrite, FAtomic, FMulti, FDiscard, FSync, Map, Unmap, Load, Store, Sync, Flush, FlushVerify, DeepFlush, NextEvent, CheckFile, PoisonBlock, PoisonVolume, PoisonFile, PoisonMeta, WeakenFile, WeakenVolume, ClearFile, ClearVolume, Cut, CutIn, FailIn, Restart, Recover, Attr, Evict}
use Rattle.reply_text.specs.Answer.{Answer}
use Rattle.reply_text.specs.Answer.Answer.{Refused}
use Rattle.machine_model.specs.declared.mode.Mode.{Mode}
use Rattle.machine_model.specs.Costs.{Spending}
use Rattle.machine_model.specs.Machine.{Machine, Fate}
use Rattle.machine_model.specs.Machine.Fate.{Gives}
use Rattle.machine_model.specs.Meaning.{BlocksLeft, FilesLeft, Meaning, VolumeLeft, first_reason, mode_refusal}
use Rattle.machine_model.specs.Meaning.BlocksLeft.{Same, Either, Mixed}
use Rattle.machine_model.specs.Meaning.FilesLeft.{Unchanged, OldOrNew, StoredInPart, SyncedInPart}
use Rattle.machine_model.specs.Meaning.VolumeLeft.{Kept, PartStored, PartSynced, AllOrNone, PageByPage}
use Rattle.machine_model.specs.OnBlocks as on_blocks
use Rattle.machine_model.specs.OnVolume as on_volume
use Rattle.machine_model.specs.OnFiles as on_files
use Rattle.machine_model.specs.OnPages as on_file_pages
use Rattle.machine_model.specs.OnFileActions as on_file_actions
use Rattle.machine_model.specs.OnMappings as on_mappings
use Rattle.machine_model.specs.OnFlushes as on_flushes
use Rattle.machine_model.specs.OnMedia as on_media
use Rattle.machine_model.specs.OnEvents as on_events
use Rattle.machine_model.specs.OnFileErrors as on_file_errors
use Rattle.machine_model.specs.OnPower as on_power
use Rattle.machine_model.specs.OnAttributes as on_attributes

abbrev pub meaning : Action → Meaning
meaning (BRead block count) = on_blocks.bread block count
meaning (BWrite block bytes) = on_blocks.bwrite block bytes
meaning (BAtomic block bytes) = on_blocks.batomic block bytes
meaning (BMulti ranges bytes) = on_blocks.bmulti ranges bytes
meaning (BDiscard block count) = on_blocks.bdiscard block count
meaning (BDiscardIf block count) = on_blocks.bdiscardif block count
meaning (BExists block) = on_blocks.bexists block
meaning (BScar ranges) = on_blocks.bscar ranges
meaning (VLoad offset len) = on_volume.vload offset len
meaning (VStore offset bytes) = on_volume.vstore offset bytes
meaning (VSync offset len) = on_volume.vsync offset len
meaning VRanges = on_volume.vranges
meaning (VPSync address len) = on_volume.vpsync address len
meaning (VDiscard page count) = on_volume.vdiscard page count
meaning (VDiscardIf page count) = on_volume.vdiscardif page count
meaning (VExists page) = on_volume.vexists page
meaning (Create name pages) = on_files.create name pages
meaning (Delete name) = on_files.delete name
meaning (Rename name to) = on_files.rename name to
meaning (Resize name pages) = on_files.resize name pages
meaning ListFiles = on_files.list_files
meaning (FRead name offset len) = on_file_pages.fread name offset len
meaning (FWrite name offset bytes) = on_file_pages.fwrite name offset bytes
meaning (FAtomic name offset bytes) = on_file_actions.fatomic name offset bytes
meaning (FMulti name ranges bytes) = on_file_actions.fmulti name ranges bytes
meaning (FDiscard name page count) = on_file_actions.fdiscard name page count
meaning (FSync name) = on_file_actions.fsync name
meaning (Map name span kind) = on_mappings.map_file name span kind
meaning (Unmap handle) = on_mappings.unmap handle
meaning (Load handle offset len) = on_mappings.load handle offset len
meaning (Store handle offset bytes) = on_mappings.store handle offset bytes
meaning (Sync handle offset len) = on_flushes.sync handle offset len
meaning (Flush handle spans) = on_flushes.flush handle spans
meaning (FlushVerify handle spans) = on_flushes.flush_verify handle spans
meaning (DeepFlush handle spans) = on_flushes.deep_flush handle spans
meaning NextEvent = on_events.next_event
meaning (CheckFile name offset len) = on_file_errors.check_file name offset len
meaning (PoisonBlock block line) = on_media.poison_block block line
meaning (PoisonVolume offset) = on_media.poison_volume offset
meaning (PoisonFile name offset) = on_file_errors.poison_file name offset
meaning (PoisonMeta line) = on_media.poison_meta line
meaning (WeakenFile name offset) = on_file_errors.weaken_file name offset
meaning (WeakenVolume offset) = on_media.weaken_volume offset
meaning (ClearFile name offset) = on_file_errors.clear_file name offset
meaning (ClearVolume offset) = on_media.clear_volume offset
meaning Cut = on_power.cut
meaning (CutIn calls) = on_power.cut_in calls
meaning (FailIn calls) = on_power.fail_in calls
meaning (Restart choice) = on_power.restart choice
meaning Recover = on_power.recover
meaning (Attr name) = on_attributes.attr name
meaning (Evict lines) = on_power.evict lines

-- what a command is answered where it is refused, None where it is done
unfoldable pub refusal : Machine → Action → Option Answer
refusal h action = first_reason (mode_refusal h.mode h.bad_meta (meaning action).needs) h.bad_meta ((meaning action).reasons h)

-- what the host finds itself, by its mode, the bad lines of metadata and its sizes, before it asks a part of storage
unfoldable pub early_refusal : Mode → List ℕ → Geometry → Action → Option Answer
early_refusal mode bad_meta geo action = first_there (mode_refusal mode bad_meta (meaning action).needs) (option_map Refused ((meaning action).checked geo))

-- what comes of a command; a refusal changes nothing
abbrev pub unless_refused : Machine → Option Answer → Fate → Fate
unless_refused h None fate = fate
unless_refused h (Some answer) fate = Gives answer h

abbrev pub fate : Machine → Action → Fate
fate h action = unless_refused h (refusal h action) ((meaning action).comes h)

-- the state while it is not done
abbrev pub while_interrupted : Machine → Action → Machine
while_interrupted h action = record h { interrupted = Some action }

-- what it may spend
abbrev pub spending : Machine → Action → Spending
spending h action = (meaning action).spends h

-- room for its reply's line, before the data is known
abbrev pub longest : Action → ℕ
longest action = (meaning action).room

-- whether it may want memory, where there is that room: for a list of files, of ranges or of bad lines, for a mapping, for the
-- event of a line that it makes bad or weak, or to mount
abbrev pub may_want_memory : Action → Bool
may_want_memory action = (meaning action).wants_memory

-- what an interruption leaves of blocks that would become others, of pages, and of files
abbrev pub LeavesBlocks : BlocksLeft → List Block → List Block → List Block → Type 0
LeavesBlocks Same old to new = new ≡ old
LeavesBlocks Either old to new = IsEither old to new
LeavesBlocks Mixed old to new = IsMixed old to new

abbrev pub LeavesVolume : VolumeLeft → List Page → List Page → List Page → Type 0
LeavesVolume Kept old to new = new ≡ old
LeavesVolume (PartStored offset bytes) old to new = MayStore offset bytes old new
LeavesVolume (PartSynced offset len) old to new = MaySync offset len old new
LeavesVolume AllOrNone old to new = (new ≡ old) ⊎ (new ≡ to)
LeavesVolume PageByPage old to new = AreMixed Page old to new

abbrev pub LeavesFiles : FilesLeft → List File → List File → List File → Type 0
LeavesFiles Unchanged old to new = new ≡ old
LeavesFiles OldOrNew old to new = (new ≡ old) ⊎ (new ≡ to)
LeavesFiles (StoredInPart name offset bytes) old to new = OneFileLeft name (MayStore offset bytes) old new
LeavesFiles (SyncedInPart name spans) old to new = OneFileLeft name (MaySyncAll spans) old new

-- what the interrupted action may have left, if there is one
abbrev pub MayLeaveBlocks : Option Action → List Block → List Block → Type 0
MayLeaveBlocks None old new = new ≡ old
MayLeaveBlocks (Some action) old new = LeavesBlocks (meaning action).blocks_left old ((meaning action).blocks old) new

abbrev pub MayLeaveVolume : Geometry → Option Action → List Page → List Page → Type 0
MayLeaveVolume geo None old new = new ≡ old
MayLeaveVolume geo (Some action) old new = LeavesVolume ((meaning action).volume_left geo) old ((meaning action).volume geo old) new

abbrev pub MayLeaveFiles : List Mapping → Option Action → List File → List File → Type 0
MayLeaveFiles mappings None old new = new ≡ old
MayLeaveFiles mappings (Some action) old new = LeavesFiles ((meaning action).files_left mappings) old ((meaning action).files mappings old) new
