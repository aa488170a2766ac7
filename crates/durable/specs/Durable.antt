-- What was made durable stays.
use Rattle.std.specs.Prelude.{◌≡◌, ◌≢◌, ◌⊎◌, ◌&&◌, ◌||◌, ◌+◌, ◌*◌, ◌-◌, ◌/◌, ◌<◌, ℕ, Bool, true, false, List, [], ◌∷◌, ◌++◌, length, slice_index, Option, None, Some, IfSome}
use Rattle.std.specs.List.{list_any}
use Rattle.nvm_model.specs.Blocks.{nth}
use Rattle.nvm_model.specs.Cell.{Cell}
use Rattle.nvm_model.specs.Cell.Cell.{Bad, Kept}
use Rattle.nvm_model.specs.Mappings.{is_shared, mapping_of}
use Rattle.nvm_model.specs.Numbered.{is_among}
use Rattle.nvm_model.specs.Page.{Page, cell_of}
use Rattle.nvm_model.specs.Storage.{Block, File, Mapping}
use Rattle.nvm_model.specs.Storage.Block.{Absent, Scarred, Data}
use Rattle.reply_text.specs.Answer.{Answer}
use Rattle.reply_text.specs.Answer.Answer.{Done, Bytes, PowerLost, VerifyFile}
use Rattle.script_text.specs.Action.{Action}
use Rattle.script_text.specs.Action.Action.{BRead, BWrite, BAtomic, BMulti, BDiscard, BDiscardIf, BExists, BScar, VLoad, VStore, VSync, VRanges, VPSync, VDiscard, VDiscardIf, VExists, Create, Delete, Rename, Resize, ListFiles, FRead, FWrite, FAtomic, FMulti, FDiscard, FSync, Map, Unmap, Load, Store, Sync, Flush, FlushVerify, DeepFlush, NextEvent, CheckFile, PoisonBlock, PoisonVolume, PoisonFile, PoisonMeta, WeakenFile, WeakenVolume, ClearFile, ClearVolume, Cut, CutIn, FailIn, Restart, Recover, Attr, Evict}
use Rattle.script_text.specs.Script.{Input}
use Rattle.script_text.specs.Script.Input.{Skipped, Malformed, Overlong, Asked}
use Rattle.machine_model.specs.declared.mode.Mode.TheVariants.{On, Stopped}
use Rattle.machine_model.specs.Machine.{Machine}
use Rattle.machine_model.specs.Run.{Transcript, Hears, Run, followed_by}
use Rattle.word_tables.specs.declared.geometry.Geometry.{Geometry}
use Rattle.durable.specs.Place.{Place, byte_at_place, is_line_present, is_weak_at}
use Rattle.durable.specs.Place.Place.{of_volume, of_blocks, of_file}
use Rattle.durable.specs.Touching.{changes, is_made_durable, poisons, weakens, wears, wears_with}
use Rattle.durable.specs.Mapped.{Begun, commands_begun}

-- a line of the volume is there: it is bad, or has its eight words
abbrev pub IsLineThere : Option Cell → Type 0
IsLineThere None = ⊥
IsLineThere (Some Bad) = Unit {0}
IsLineThere (Some (Kept weak words)) = length words ≡ 8

-- pages that are there have all their lines
abbrev pub HaveLines : List Page → Type 0
HaveLines pages = (n : ℕ) → is_line_present pages n ≡ true → IsLineThere (cell_of pages n)

-- so have those of all files
abbrev pub AllHaveLines : List File → Type 0
AllHaveLines [] = Unit {0}
AllHaveLines (file ∷ files) = HaveLines file.pages × AllHaveLines files

-- a block that has lines has eight, and so have all blocks
abbrev pub HasEightLines : Block → Type 0
HasEightLines Absent = Unit {0}
HasEightLines Scarred = Unit {0}
HasEightLines (Data lines) = length lines ≡ 8

abbrev pub HaveEightLines : List Block → Type 0
HaveEightLines blocks = (n : ℕ) → HasEightLines (nth blocks n)

-- all blocks and pages are there
pub record IsCounted (h : Machine) : Type 0 where
  pub blocks : length h.blocks ≡ h.geometry.blocks
  pub pages : length h.volume ≡ h.geometry.vpages

-- A line of metadata was bad as the storage was to be mounted: nothing of it is there.
pub record HasNothing (h : Machine) : Type 0 where
  pub metadata : h.bad_meta ≢ []
  pub mode : h.mode ≢ On
  pub blocks : h.blocks ≡ []
  pub volume : h.volume ≡ []
  pub files : h.files ≡ []

-- A state that a run may come to: all blocks and pages are there, unless metadata was bad as they were to be mounted, and they
-- have their lines. Nothing is interrupted in mode On, and nothing is there in mode Stopped.
pub record IsComplete (h : Machine) : Type 0 where
  pub counted : IsCounted h ⊎ HasNothing h
  pub eight : HaveEightLines h.blocks
  pub lines : HaveLines h.volume
  pub file_lines : AllHaveLines h.files
  pub settled : h.mode ≡ On → h.interrupted ≡ None
  pub stopped : h.mode ≡ Stopped → HasNothing h

-- what a store to the volume, to a file or to a mapping brings are bytes; nothing is asked of other data
abbrev pub BringsBytes : Action → Type 0
BringsBytes (BRead block count) = Unit {0}
BringsBytes (BWrite block bytes) = Unit {0}
BringsBytes (BAtomic block bytes) = Unit {0}
BringsBytes (BMulti ranges bytes) = Unit {0}
BringsBytes (BDiscard block count) = Unit {0}
BringsBytes (BDiscardIf block count) = Unit {0}
BringsBytes (BExists block) = Unit {0}
BringsBytes (BScar ranges) = Unit {0}
BringsBytes (VLoad offset len) = Unit {0}
BringsBytes (VStore offset bytes) = (k : ℕ) → slice_index bytes k < 256
BringsBytes (VSync offset len) = Unit {0}
BringsBytes VRanges = Unit {0}
BringsBytes (VPSync address len) = Unit {0}
BringsBytes (VDiscard page count) = Unit {0}
BringsBytes (VDiscardIf page count) = Unit {0}
BringsBytes (VExists page) = Unit {0}
BringsBytes (Create name pages) = Unit {0}
BringsBytes (Delete name) = Unit {0}
BringsBytes (Rename name to) = Unit {0}
BringsBytes (Resize name pages) = Unit {0}
BringsBytes ListFiles = Unit {0}
BringsBytes (FRead name offset len) = Unit {0}
BringsBytes (FWrite name offset bytes) = (k : ℕ) → slice_index bytes k < 256
BringsBytes (FAtomic name offset bytes) = (k : ℕ) → slice_index bytes k < 256
BringsBytes (FMulti name ranges bytes) = (k : ℕ) → slice_index bytes k < 256
BringsBytes (FDiscard name page count) = Unit {0}
BringsBytes (FSync name) = Unit {0}
BringsBytes (Map name span kind) = Unit {0}
BringsBytes (Unmap handle) = Unit {0}
BringsBytes (Load handle offset len) = Unit {0}
BringsBytes (Store handle offset bytes) = (k : ℕ) → slice_index bytes k < 256
BringsBytes (Sync handle offset len) = Unit {0}
BringsBytes (Flush handle spans) = Unit {0}
BringsBytes (FlushVerify handle spans) = Unit {0}
BringsBytes (DeepFlush handle spans) = Unit {0}
BringsBytes NextEvent = Unit {0}
BringsBytes (CheckFile name offset len) = Unit {0}
BringsBytes (PoisonBlock block line) = Unit {0}
BringsBytes (PoisonVolume offset) = Unit {0}
BringsBytes (PoisonFile name offset) = Unit {0}
BringsBytes (PoisonMeta line) = Unit {0}
BringsBytes (WeakenFile name offset) = Unit {0}
BringsBytes (WeakenVolume offset) = Unit {0}
BringsBytes (ClearFile name offset) = Unit {0}
BringsBytes (ClearVolume offset) = Unit {0}
BringsBytes Cut = Unit {0}
BringsBytes (CutIn calls) = Unit {0}
BringsBytes (FailIn calls) = Unit {0}
BringsBytes (Restart choice) = Unit {0}
BringsBytes Recover = Unit {0}
BringsBytes (Attr name) = Unit {0}
BringsBytes (Evict lines) = Unit {0}

-- the same of all commands that are asked for
abbrev pub BringBytes : List Input → Type 0
BringBytes [] = Unit {0}
BringBytes (Skipped ∷ inputs) = BringBytes inputs
BringBytes (Malformed ∷ inputs) = BringBytes inputs
BringBytes (Overlong ∷ inputs) = BringBytes inputs
BringBytes (Asked action ∷ inputs) = BringsBytes action × BringBytes inputs

-- no command of these does so
abbrev pub NoneBegun : (Begun → Bool) → List Begun → Type 0
NoneBegun does commands = list_any does commands ≡ false

-- none does so to the place, with the mappings that there were
abbrev pub Spares : (List Mapping → Action → Place → Bool) → Place → List Begun → Type 0
Spares does x commands = NoneBegun (λ (command : Begun). does command.mappings command.action x) commands

-- the mapping has this handle, and shows its file
pub record IsShown (h : Machine) (handle : ℕ) (m : Mapping) : Type 0 where
  pub is : mapping_of handle h.mappings ≡ Some m
  pub shared : is_shared m.kind ≡ true

-- a read of a file by its name, and one through a mapping that shows it, that is answered with bytes has this one there
abbrev pub ReadsNamed : Machine → List ℕ → ℕ → ℕ → Type 0
ReadsNamed h name i byte = (offset len : ℕ) (bytes : List ℕ) (said : Transcript) (next : Machine)
    → Hears h (Asked (FRead name offset len)) said next → said.answers ≡ Bytes bytes ∷ [] → is_among offset len i ≡ true
    → slice_index bytes (i - offset) ≡ byte

abbrev pub ReadsMapped : Machine → List ℕ → ℕ → ℕ → Type 0
ReadsMapped h name i byte = (handle offset len : ℕ) (m : Mapping) (bytes : List ℕ) (said : Transcript) (next : Machine) → IsShown h handle m → m.name ≡ name
    → Hears h (Asked (Load handle offset len)) said next → said.answers ≡ Bytes bytes ∷ [] → is_among (m.start + offset) len i ≡ true
    → slice_index bytes (i - (m.start + offset)) ≡ byte

-- so has a read at the place
abbrev pub Reads : Machine → Place → ℕ → Type 0
Reads h (of_volume i) byte = (offset len : ℕ) (bytes : List ℕ) (said : Transcript) (next : Machine)
    → Hears h (Asked (VLoad offset len)) said next → said.answers ≡ Bytes bytes ∷ [] → is_among offset len i ≡ true
    → slice_index bytes (i - offset) ≡ byte
Reads h (of_blocks i) byte = (block count : ℕ) (bytes : List ℕ) (said : Transcript) (next : Machine)
    → Hears h (Asked (BRead block count)) said next → said.answers ≡ Bytes bytes ∷ [] → is_among block count (i / 512) ≡ true
    → slice_index bytes (i - 512 * block) ≡ byte
Reads h (of_file name i) byte = ReadsNamed h name i byte × ReadsMapped h name i byte

-- The place has this byte, or can't be read any more, or nothing is there; None is a byte that couldn't be read. What a read
-- shows there is the byte.
pub record Has (h : Machine) (x : Place) (byte : Option ℕ) : Type 0 where
  pub kept : ((byte_at_place h x ≡ byte) ⊎ (byte_at_place h x ≡ None)) ⊎ HasNothing h
  pub shown : IfSome byte (Reads h x)

-- one of these commands makes the place durable in place while its line is weak: before them it is so or not, and then from a
-- command on that makes it weak
abbrev pub is_worn : Geometry → Place → Bool → List Begun → Bool
is_worn geo x weak [] = false
is_worn geo x weak (one ∷ rest) = (weak && wears_with geo one.mappings one.action x) || is_worn geo x (weak || weakens one.action x) rest

-- What these commands left of a byte that none of them changed, of a line that was not weak: the place has it still, or was lost, or
-- nothing is there. It was lost only where one of them poisoned its line, or made it durable in place once another had made it weak.
pub record Remains (commands : List Begun) (later : Machine) (x : Place) (byte : Option ℕ) : Type 0 where
  pub has : Spares changes x commands → Has later x byte
  pub unharmed : Spares changes x commands → Spares (λ mappings. poisons) x commands → is_worn later.geometry x false commands ≡ false
      → (byte_at_place later x ≡ byte) ⊎ HasNothing later

-- so it is in every later state of every run, whatever is cut, fails, and is restarted or recovered
abbrev pub Lasts : Machine → Place → Option ℕ → Type 0
Lasts h x byte = (inputs : List Input) (said : Transcript) (later : Machine) → BringBytes inputs → Run h inputs said later
    → Remains (commands_begun h.mappings inputs said.answers) later x byte

-- a command that makes the place durable keeps its byte: its line is not weak, where that is done in place, and else it is not changed
abbrev pub KeepsByte : Machine → Action → Place → Type 0
KeepsByte h action x = (wears h action x ≡ true → is_weak_at h x ≡ false) × (wears h action x ≡ false → changes h.mappings action x ≡ false)

-- no command was stopped by a loss of power
abbrev pub LostNone : List Answer → Type 0
LostNone [] = Unit {0}
LostNone (answer ∷ answers) = (answer ≢ PowerLost) × LostNone answers

-- the power stayed on: it was not cut, and no command was stopped by its loss
pub record StaysPowered (said : Transcript) : Type 0 where
  pub uncut : said.cuts ≡ 0
  pub kept : LostNone said.answers

-- so it is in every run in which the power stays on, whatever fails and is recovered
abbrev pub LastsPowered : Machine → Place → Option ℕ → Type 0
LastsPowered h x byte = (inputs : List Input) (said : Transcript) (later : Machine) → BringBytes inputs → Run h inputs said later → StaysPowered said
    → Remains (commands_begun h.mappings inputs said.answers) later x byte

-- it has the byte that it has now
abbrev pub IsDurable : Machine → Place → Type 0
IsDurable h x = Lasts h x (byte_at_place h x)

-- a command was answered `ok` in h and led to this state
pub record Does (h : Machine) (action : Action) (next : Machine) : Type 0 where
  pub whole : IsComplete h
  pub said : Transcript
  pub came : Hears h (Asked action) said next
  pub done : said.answers ≡ Done ∷ []

-- The answer tells that a command was done; a flush that looks again may tell in place of `ok` which line it lost.
abbrev pub IsDone : Answer → Type 0
IsDone answer = (answer ≡ Done) ⊎ ((name : List ℕ) × (offset : ℕ) × (answer ≡ VerifyFile name offset))

-- that is all that was answered
abbrev pub AreDone : List Answer → Type 0
AreDone answers = (answer : Answer) × (answers ≡ answer ∷ []) × IsDone answer

-- a command was done in h and led to this state
pub record Finishes (h : Machine) (action : Action) (next : Machine) : Type 0 where
  pub whole : IsComplete h
  pub said : Transcript
  pub came : Hears h (Asked action) said next
  pub done : AreDone said.answers

-- A run over some inputs and others, as it comes to the others.
pub record Comes (h : Machine) (before after : List Input) (said : Transcript) (end : Machine) : Type 0 where
  pub early : Transcript
  pub here : Machine
  pub run : Run h before early here
  pub late : Transcript
  pub rest : Run here after late end
  pub whole : said ≡ followed_by early late

-- A run over some inputs, a command and others, as it comes to the command.
pub record Passes (h : Machine) (before : List Input) (action : Action) (after : List Input) (said : Transcript) (end : Machine) : Type 0 where
  pub early : Transcript
  pub here : Machine
  pub run : Run h before early here
  pub middle : Transcript
  pub next : Machine
  pub came : Hears here (Asked action) middle next
  pub late : Transcript
  pub rest : Run next after late end
  pub whole : said ≡ followed_by early (followed_by middle late)

-- Where the command made the place durable and was done, what came then left of its byte, in each later state of the run, what it
-- leaves of a durable one.
pub record KeepsThrough (h : Machine) (before : List Input) (action : Action) (after : List Input) (said : Transcript) (end : Machine) (x : Place) : Type 0 where
  pub passes : Passes h before action after said end
  pub keeps : is_made_durable passes.here action x ≡ true → AreDone passes.middle.answers → (between rest : List Input) → after ≡ between ++ rest
      → (later : Comes passes.next between rest passes.late end)
      × Remains (commands_begun passes.next.mappings between later.early.answers) later.here x (byte_at_place passes.next x)
