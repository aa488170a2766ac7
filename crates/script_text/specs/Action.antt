-- What a script may ask for, apart from how a command is kept.
use Rattle.std.specs.Prelude.{ℕ, List}
use Rattle.nvm_base.specs.declared.units.Span.{Span}
use Rattle.nvm_base.specs.declared.files.Kind.{Kind}
use Rattle.line_device.specs.declared.line.Choice.{Choice}
use Rattle.script_text.specs.declared.command.Command.{Command}
use Rattle.script_text.specs.declared.command.Command.TheVariants as command

pub data Action : Type 0 where
  BRead : ℕ → ℕ → Action
  BWrite : ℕ → List ℕ → Action
  BDiscard : ℕ → ℕ → Action
  BDiscardIf : ℕ → ℕ → Action
  BExists : ℕ → Action
  BScar : List Span → Action
  BAtomic : ℕ → List ℕ → Action
  BMulti : List Span → List ℕ → Action
  VLoad : ℕ → ℕ → Action
  VStore : ℕ → List ℕ → Action
  VSync : ℕ → ℕ → Action
  VRanges : Action
  VPSync : ℕ → ℕ → Action
  VDiscard : ℕ → ℕ → Action
  VDiscardIf : ℕ → ℕ → Action
  VExists : ℕ → Action
  Create : List ℕ → ℕ → Action
  Delete : List ℕ → Action
  Rename : List ℕ → List ℕ → Action
  Resize : List ℕ → ℕ → Action
  ListFiles : Action
  FRead : List ℕ → ℕ → ℕ → Action
  FWrite : List ℕ → ℕ → List ℕ → Action
  FAtomic : List ℕ → ℕ → List ℕ → Action
  FMulti : List ℕ → List Span → List ℕ → Action
  FDiscard : List ℕ → ℕ → ℕ → Action
  FSync : List ℕ → Action
  Map : List ℕ → Span → Kind → Action
  Unmap : ℕ → Action
  Load : ℕ → ℕ → ℕ → Action
  Store : ℕ → ℕ → List ℕ → Action
  Sync : ℕ → ℕ → ℕ → Action
  Flush : ℕ → List Span → Action
  FlushVerify : ℕ → List Span → Action
  DeepFlush : ℕ → List Span → Action
  NextEvent : Action
  CheckFile : List ℕ → ℕ → ℕ → Action
  PoisonBlock : ℕ → ℕ → Action
  PoisonVolume : ℕ → Action
  PoisonFile : List ℕ → ℕ → Action
  PoisonMeta : ℕ → Action
  WeakenFile : List ℕ → ℕ → Action
  WeakenVolume : ℕ → Action
  ClearFile : List ℕ → ℕ → Action
  ClearVolume : ℕ → Action
  Cut : Action
  CutIn : ℕ → Action
  FailIn : ℕ → Action
  Restart : Choice → Action
  Recover : Action
  Attr : List ℕ → Action
  Evict : ℕ → Action

-- what a command asks for
abbrev pub action_of : Command → Action
action_of (command.BRead block count) = BRead block count
action_of (command.BWrite block bytes) = BWrite block bytes.items
action_of (command.BDiscard block count) = BDiscard block count
action_of (command.BDiscardIf block count) = BDiscardIf block count
action_of (command.BExists block) = BExists block
action_of (command.BScar ranges) = BScar ranges.items
action_of (command.BAtomic block bytes) = BAtomic block bytes.items
action_of (command.BMulti ranges bytes) = BMulti ranges.items bytes.items
action_of (command.VLoad offset len) = VLoad offset len
action_of (command.VStore offset bytes) = VStore offset bytes.items
action_of (command.VSync offset len) = VSync offset len
action_of command.VRanges = VRanges
action_of (command.VPSync address len) = VPSync address len
action_of (command.VDiscard page count) = VDiscard page count
action_of (command.VDiscardIf page count) = VDiscardIf page count
action_of (command.VExists page) = VExists page
action_of (command.Create name pages) = Create name pages
action_of (command.Delete name) = Delete name
action_of (command.Rename name to) = Rename name to
action_of (command.Resize name pages) = Resize name pages
action_of command.List = ListFiles
action_of (command.FRead name offset len) = FRead name offset len
action_of (command.FWrite name offset bytes) = FWrite name offset bytes.items
action_of (command.FAtomic name offset bytes) = FAtomic name offset bytes.items
action_of (command.FMulti name ranges bytes) = FMulti name ranges.items bytes.items
action_of (command.FDiscard name page count) = FDiscard name page count
action_of (command.FSync name) = FSync name
action_of (command.Map name span kind) = Map name span kind
action_of (command.Unmap handle) = Unmap handle
action_of (command.Load handle offset len) = Load handle offset len
action_of (command.Store handle offset bytes) = Store handle offset bytes.items
action_of (command.Sync handle offset len) = Sync handle offset len
action_of (command.Flush handle spans) = Flush handle spans.items
action_of (command.FlushVerify handle spans) = FlushVerify handle spans.items
action_of (command.DeepFlush handle spans) = DeepFlush handle spans.items
action_of command.NextEvent = NextEvent
action_of (command.CheckFile name offset len) = CheckFile name offset len
action_of (command.PoisonBlock block line) = PoisonBlock block line
action_of (command.PoisonVolume offset) = PoisonVolume offset
action_of (command.PoisonFile name offset) = PoisonFile name offset
action_of (command.PoisonMeta line) = PoisonMeta line
action_of (command.WeakenFile name offset) = WeakenFile name offset
action_of (command.WeakenVolume offset) = WeakenVolume offset
action_of (command.ClearFile name offset) = ClearFile name offset
action_of (command.ClearVolume offset) = ClearVolume offset
action_of command.Cut = Cut
action_of (command.CutIn calls) = CutIn calls
action_of (command.FailIn calls) = FailIn calls
action_of (command.Restart choice) = Restart choice
action_of command.Recover = Recover
action_of (command.Attr name) = Attr name.items
action_of (command.Evict lines) = Evict lines
