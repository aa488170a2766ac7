-- The mappings of files that there are, as commands and their answers tell them; and the commands that were begun.
use Rattle.std.specs.Prelude.{◌+◌, ◌*◌, ◌≤◌, ◌&&◌, ◌||◌, ◌++◌, ℕ, Bool, true, false, List, [], ◌∷◌, length, map, Option, Some, None, is_none, if◌then◌else◌}
use Rattle.nvm_base.specs.declared.files.Kind.{Kind}
use Rattle.nvm_base.specs.declared.units.Span.{Span}
use Rattle.nvm_model.specs.Mappings.{without_mapping}
use Rattle.nvm_model.specs.Storage.{File, Mapping}
use Rattle.reply_text.specs.Answer.{Answer}
use Rattle.reply_text.specs.Answer.Answer.{Done, DoneBad, Bytes, Ranges, Files, Handle, Happened, NoEvent, BadLines, Attribute, VerifyFile, Yes, No, Scarred, PoisonBlock as PoisonedBlock, PoisonVolume as PoisonedVolume, PoisonFile as PoisonedFile, DeviceFailed, PowerLost, Stopped, Refused, RefusedMeta}
use Rattle.script_text.specs.Action.{Action}
use Rattle.script_text.specs.Action.Action.{BRead, BWrite, BAtomic, BMulti, BDiscard, BDiscardIf, BExists, BScar, VLoad, VStore, VSync, VRanges, VPSync, VDiscard, VDiscardIf, VExists, Create, Delete, Rename, Resize, ListFiles, FRead, FWrite, FAtomic, FMulti, FDiscard, FSync, Map, Unmap, Load, Store, Sync, Flush, FlushVerify, DeepFlush, NextEvent, CheckFile, PoisonBlock, PoisonVolume, PoisonFile, PoisonMeta, WeakenFile, WeakenVolume, ClearFile, ClearVolume, Cut, CutIn, FailIn, Restart, Recover, Attr, Evict}
use Rattle.script_text.specs.Script.{Input}
use Rattle.script_text.specs.Script.Input.{Skipped, Malformed, Overlong, Asked}
use Rattle.machine_model.specs.Interrupted.{stop_in}
use Rattle.machine_model.specs.OnPages.{pages_named}
use Rattle.durable.specs.Touching.{is_begun}

-- a mapping that was made and has this handle, but for the bytes of a copy
abbrev pub mapping_told : ℕ → List ℕ → Span → Kind → Mapping
mapping_told handle name span kind = record { handle = handle; name = name; start = span.start; len = span.len; kind = kind; copy = [] }

-- mappings, but for the bytes of copies
abbrev pub but_for_copies : List Mapping → List Mapping
but_for_copies mappings = map (λ (m : Mapping). record m { copy = [] }) mappings

-- each mapping lies within its file
abbrev pub AreWithin : List Mapping → List File → Type 0
AreWithin [] files = Unit {0}
AreWithin (m ∷ mappings) files = (m.start + m.len ≤ 4096 * length (pages_named m.name files)) × AreWithin mappings files

-- the answer tells that a command was done
abbrev pub is_done : Answer → Bool
is_done answer = is_begun answer && is_none (stop_in answer)

-- that the storage was mounted, or a line of metadata was bad as it was to be
abbrev pub is_mounted : Answer → Bool
is_mounted Done = false
is_mounted (DoneBad n) = true
is_mounted (Bytes bytes) = false
is_mounted (Ranges ranges) = false
is_mounted (Files files) = false
is_mounted (Handle n) = false
is_mounted (Happened event) = false
is_mounted NoEvent = false
is_mounted (BadLines lines) = false
is_mounted (Attribute value) = false
is_mounted Yes = false
is_mounted No = false
is_mounted (Scarred block) = false
is_mounted (PoisonedBlock block line) = false
is_mounted (PoisonedVolume offset) = false
is_mounted (PoisonedFile name offset) = false
is_mounted (VerifyFile name offset) = false
is_mounted DeviceFailed = false
is_mounted PowerLost = false
is_mounted (Stopped line) = true
is_mounted (Refused why) = false
is_mounted (RefusedMeta line) = false

-- the handle that it gives
abbrev pub handle_in : Answer → Option ℕ
handle_in Done = None
handle_in (DoneBad n) = None
handle_in (Bytes bytes) = None
handle_in (Ranges ranges) = None
handle_in (Files files) = None
handle_in (Handle n) = Some n
handle_in (Happened event) = None
handle_in NoEvent = None
handle_in (BadLines lines) = None
handle_in (Attribute value) = None
handle_in Yes = None
handle_in No = None
handle_in (Scarred block) = None
handle_in (PoisonedBlock block line) = None
handle_in (PoisonedVolume offset) = None
handle_in (PoisonedFile name offset) = None
handle_in (VerifyFile name offset) = None
handle_in DeviceFailed = None
handle_in PowerLost = None
handle_in (Stopped line) = None
handle_in (Refused why) = None
handle_in (RefusedMeta line) = None

-- mappings with one that was made, where one was
abbrev pub with_told : List Mapping → List ℕ → Span → Kind → Option ℕ → List Mapping
with_told mappings name span kind None = mappings
with_told mappings name span kind (Some handle) = mappings ++ mapping_told handle name span kind ∷ []

-- The mappings once a command was answered so: a map makes one, an unmap takes one, and a mount takes all, also that of a restart
-- which was stopped on the way; a recovery that was stopped takes none.
abbrev pub mappings_then : List Mapping → Action → Answer → List Mapping
mappings_then mappings (BRead block count) answer = mappings
mappings_then mappings (BWrite block bytes) answer = mappings
mappings_then mappings (BAtomic block bytes) answer = mappings
mappings_then mappings (BMulti ranges bytes) answer = mappings
mappings_then mappings (BDiscard block count) answer = mappings
mappings_then mappings (BDiscardIf block count) answer = mappings
mappings_then mappings (BExists block) answer = mappings
mappings_then mappings (BScar ranges) answer = mappings
mappings_then mappings (VLoad offset len) answer = mappings
mappings_then mappings (VStore offset bytes) answer = mappings
mappings_then mappings (VSync offset len) answer = mappings
mappings_then mappings VRanges answer = mappings
mappings_then mappings (VPSync address len) answer = mappings
mappings_then mappings (VDiscard page count) answer = mappings
mappings_then mappings (VDiscardIf page count) answer = mappings
mappings_then mappings (VExists page) answer = mappings
mappings_then mappings (Create name pages) answer = mappings
mappings_then mappings (Delete name) answer = mappings
mappings_then mappings (Rename name to) answer = mappings
mappings_then mappings (Resize name pages) answer = mappings
mappings_then mappings ListFiles answer = mappings
mappings_then mappings (FRead name offset len) answer = mappings
mappings_then mappings (FWrite name offset bytes) answer = mappings
mappings_then mappings (FAtomic name offset bytes) answer = mappings
mappings_then mappings (FMulti name ranges bytes) answer = mappings
mappings_then mappings (FDiscard name page count) answer = mappings
mappings_then mappings (FSync name) answer = mappings
mappings_then mappings (Map name span kind) answer = with_told mappings name span kind (handle_in answer)
mappings_then mappings (Unmap handle) answer = if is_done answer then without_mapping handle mappings else mappings
mappings_then mappings (Load handle offset len) answer = mappings
mappings_then mappings (Store handle offset bytes) answer = mappings
mappings_then mappings (Sync handle offset len) answer = mappings
mappings_then mappings (Flush handle spans) answer = mappings
mappings_then mappings (FlushVerify handle spans) answer = mappings
mappings_then mappings (DeepFlush handle spans) answer = mappings
mappings_then mappings NextEvent answer = mappings
mappings_then mappings (CheckFile name offset len) answer = mappings
mappings_then mappings (PoisonBlock block line) answer = mappings
mappings_then mappings (PoisonVolume offset) answer = mappings
mappings_then mappings (PoisonFile name offset) answer = mappings
mappings_then mappings (PoisonMeta line) answer = mappings
mappings_then mappings (WeakenFile name offset) answer = mappings
mappings_then mappings (WeakenVolume offset) answer = mappings
mappings_then mappings (ClearFile name offset) answer = mappings
mappings_then mappings (ClearVolume offset) answer = mappings
mappings_then mappings Cut answer = mappings
mappings_then mappings (CutIn calls) answer = mappings
mappings_then mappings (FailIn calls) answer = mappings
mappings_then mappings (Restart choice) answer = if is_mounted answer || is_begun answer then [] else mappings
mappings_then mappings Recover answer = if is_mounted answer then [] else mappings
mappings_then mappings (Attr name) answer = mappings
mappings_then mappings (Evict lines) answer = mappings

-- a command and what it was answered
pub record Exchange : Type 0 where
  pub action : Action
  pub answer : Answer

-- those of a script
abbrev pub exchanges : List Input → List Answer → List Exchange
exchanges [] answers = []
exchanges (Skipped ∷ inputs) answers = exchanges inputs answers
exchanges (Malformed ∷ inputs) [] = []
exchanges (Malformed ∷ inputs) (answer ∷ answers) = exchanges inputs answers
exchanges (Overlong ∷ inputs) [] = []
exchanges (Overlong ∷ inputs) (answer ∷ answers) = exchanges inputs answers
exchanges (Asked action ∷ inputs) [] = []
exchanges (Asked action ∷ inputs) (answer ∷ answers) = record { action = action; answer = answer } ∷ exchanges inputs answers

-- the mappings after them
abbrev pub mappings_after : List Mapping → List Exchange → List Mapping
mappings_after mappings [] = mappings
mappings_after mappings (one ∷ rest) = mappings_after (mappings_then mappings one.action one.answer) rest

-- a command that was begun, and the mappings that there were
pub record Begun : Type 0 where
  pub action : Action
  pub mappings : List Mapping

-- those of a script that were begun, by what they were answered, where the mappings were these at first
abbrev pub all_begun : List Mapping → List Exchange → List Begun
all_begun mappings [] = []
all_begun mappings (one ∷ rest) =
    (if is_begun one.answer then record { action = one.action; mappings = mappings } ∷ [] else [])
    ++ all_begun (mappings_then mappings one.action one.answer) rest

-- the same of mappings but for the bytes of copies
abbrev pub commands_begun : List Mapping → List Input → List Answer → List Begun
commands_begun mappings inputs answers = all_begun (but_for_copies mappings) (exchanges inputs answers)
