-- The reads of a look, and what may be seen by them.
use Rattle.std.specs.Prelude.{Option, Some, None, option_map, option_and_then}
use Rattle.script_text.specs.Action.{Action}
use Rattle.script_text.specs.Action.Action.{BRead, BWrite, BAtomic, BMulti, BDiscard, BDiscardIf, BExists, BScar, VLoad, VStore, VSync, VRanges, VPSync, VDiscard, VDiscardIf, VExists, Create, Delete, Rename, Resize, ListFiles, FRead, FWrite, FAtomic, FMulti, FDiscard, FSync, Map, Unmap, Load, Store, Sync, Flush, FlushVerify, DeepFlush, NextEvent, CheckFile, PoisonBlock, PoisonVolume, PoisonFile, PoisonMeta, WeakenFile, WeakenVolume, ClearFile, ClearVolume, Cut, CutIn, FailIn, Restart, Recover, Attr, Evict}
use Rattle.reply_text.specs.Answer.{Answer}
use Rattle.outcomes.specs.Seen.{Seen}
use Rattle.outcomes.specs.Seen.Seen.{of_blocks, of_file, of_volume}
use Rattle.asked_reads.specs.declared.read.Read.{Read}
use Rattle.asked_reads.specs.declared.read.Read.TheVariants.{Volume, Blocks, File}
use Rattle.exploration.specs.Replies.{block_reply, file_reply, volume_reply}

-- the read that a command is, if it is one of the volume, of blocks or of a file
abbrev pub read_of : Action → Option Read
read_of (BRead block count) = Some (Blocks block count)
read_of (BWrite block bytes) = None
read_of (BAtomic block bytes) = None
read_of (BMulti ranges bytes) = None
read_of (BDiscard block count) = None
read_of (BDiscardIf block count) = None
read_of (BExists block) = None
read_of (BScar ranges) = None
read_of (VLoad offset len) = Some (Volume offset len)
read_of (VStore offset bytes) = None
read_of (VSync offset len) = None
read_of VRanges = None
read_of (VPSync address len) = None
read_of (VDiscard page count) = None
read_of (VDiscardIf page count) = None
read_of (VExists page) = None
read_of (Create name pages) = None
read_of (Delete name) = None
read_of (Rename name to) = None
read_of (Resize name pages) = None
read_of ListFiles = None
read_of (FRead name offset len) = Some (File name offset len)
read_of (FWrite name offset bytes) = None
read_of (FAtomic name offset bytes) = None
read_of (FMulti name ranges bytes) = None
read_of (FDiscard name page count) = None
read_of (FSync name) = None
read_of (Map name span kind) = None
read_of (Unmap handle) = None
read_of (Load handle offset len) = None
read_of (Store handle offset bytes) = None
read_of (Sync handle offset len) = None
read_of (Flush handle spans) = None
read_of (FlushVerify handle spans) = None
read_of (DeepFlush handle spans) = None
read_of NextEvent = None
read_of (CheckFile name offset len) = None
read_of (PoisonBlock block line) = None
read_of (PoisonVolume offset) = None
read_of (PoisonFile name offset) = None
read_of (PoisonMeta line) = None
read_of (WeakenFile name offset) = None
read_of (WeakenVolume offset) = None
read_of (ClearFile name offset) = None
read_of (ClearVolume offset) = None
read_of Cut = None
read_of (CutIn calls) = None
read_of (FailIn calls) = None
read_of (Restart choice) = None
read_of Recover = None
read_of (Attr name) = None
read_of (Evict lines) = None

-- a read with its answer, None where it never has such an answer
abbrev pub seen_by : Read → Answer → Option Seen
seen_by (Volume start len) answer = option_map (λ reply. of_volume (record { start = start; len = len; reply = reply })) (volume_reply answer)
seen_by (Blocks first count) answer = option_map (λ reply. of_blocks (record { first = first; count = count; reply = reply })) (block_reply answer)
seen_by (File name start len) answer =
    option_map (λ reply. of_file (record { name = name; pages = record { start = start; len = len; reply = reply } })) (file_reply name answer)

-- a command with its answer, None where it is no read of the volume, of blocks or of a file, or never has such an answer
abbrev pub seen_of : Action → Answer → Option Seen
seen_of action answer = option_and_then (λ read. seen_by read answer) (read_of action)
