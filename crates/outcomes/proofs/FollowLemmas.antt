-- What a command of a program leaves of mode, metadata and what is armed, whatever it does to the storage.
use Rattle.std.proofs.Common.{◌≡◌, ◌⊎◌, inl, inr, ℕ, ◌+◌, Bool, true, false, Option, Some, None, List, [], ◌∷◌, IsTrue, refl, ap, if◌then◌else◌}
use Rattle.machine_model.specs.declared.mode.Mode.{Mode}
use Rattle.nvm_base.specs.declared.units.Span.{Span}
use Rattle.nvm_model.specs.Mappings.{is_shared, mapping_of}
use Rattle.nvm_model.specs.Storage.{Mapping}
use Rattle.reply_text.specs.Answer.Answer.{Done, Handle}
use Rattle.script_text.specs.Action.{Action}
use Rattle.script_text.specs.Action.Action.{Map, Load, Store, Sync, Flush, FlushVerify, DeepFlush, PoisonMeta, Cut, CutIn, FailIn, Restart, Recover, Attr}
use Rattle.machine_model.specs.declared.look.Look.{Look}
use Rattle.machine_model.specs.declared.look.Look.TheVariants.{Once, Again}
use Rattle.machine_model.specs.declared.needs.Needs.TheVariants.{Usable}
use Rattle.machine_model.specs.Machine.{Machine, Fate}
use Rattle.machine_model.specs.Machine.Fate.{Gives, Works, Orders, Cuts, Restarts, Recovers}
use Rattle.machine_model.specs.Commands.{meaning}
use Rattle.machine_model.specs.OnFlushes.{all_moved, flush_file, flush_through, flush_with, nothing_done}
use Rattle.machine_model.specs.OnMappings.{load_through, read_copy, store_through, with_mapping, write_copy}
use Rattle.machine_model.specs.OnPages.{fread, fwrite}
use Rattle.outcomes.specs.Stops.{is_of_program}

-- it is on still, nothing is interrupted, no metadata is bad, no failure is armed, and a cut is, where it was so before
pub record Keeps (h to : Machine) : Type 0 where
  pub unit : to.unit ≡ h.unit
  pub mode : to.mode ≡ h.mode
  pub interrupted : to.interrupted ≡ h.interrupted
  pub metadata : to.bad_meta ≡ h.bad_meta
  pub failures : to.fail_armed ≡ h.fail_armed
  pub armed : h.cut_armed ≡ true → to.cut_armed ≡ true

-- all of storage is as it was
pub record Rests (h to : Machine) : Type 0 where
  pub geometry : to.geometry ≡ h.geometry
  pub blocks : to.blocks ≡ h.blocks
  pub volume : to.volume ≡ h.volume
  pub files : to.files ≡ h.files
  pub mappings : to.mappings ≡ h.mappings
  pub interrupted : to.interrupted ≡ h.interrupted
  pub metadata : to.bad_meta ≡ h.bad_meta
  pub mode : to.mode ≡ h.mode

abbrev pub Follows : Machine → Fate → Type 0
Follows h (Gives answer to) = Keeps h to
Follows h (Works answer to) = Keeps h to
Follows h (Orders order to) = Keeps h to
Follows h (Cuts to) = ⊥
Follows h (Restarts choice) = ⊥
Follows h Recovers = ⊥

-- it makes no call, and leaves the storage
abbrev pub Idles : Machine → Fate → Type 0
Idles h (Gives answer to) = Rests h to
Idles h (Works answer to) = ⊥
Idles h (Orders order to) = Rests h to
Idles h (Cuts to) = ⊥
Idles h (Restarts choice) = ⊥
Idles h Recovers = ⊥

abbrev pub OfProgram : Machine → Action → Type 0
OfProgram h action = Follows h ((meaning action).comes h) × (((meaning action).needs ≡ Usable) ⊎ Idles h ((meaning action).comes h))

-- the mode of a state, and the unit of its device
abbrev mode_of : Machine → Mode × ℕ
mode_of h = (h.mode, h.unit)

keeps : (h to : Machine) → mode_of to ≡ mode_of h → to.interrupted ≡ h.interrupted → to.bad_meta ≡ h.bad_meta → to.fail_armed ≡ h.fail_armed
    → (h.cut_armed ≡ true → to.cut_armed ≡ true) → Keeps h to
keeps h to mode interrupted metadata failures armed =
    record { unit = ap (λ (m : Mode × ℕ). m.1) mode; mode = ap (λ (m : Mode × ℕ). m.0) mode; interrupted = interrupted; metadata = metadata; failures = failures; armed = armed }

pub rests : (h : Machine) → Rests h h
rests h = record { geometry = refl; blocks = refl; volume = refl; files = refl; mappings = refl; interrupted = refl; metadata = refl; mode = refl }

-- a flush, which each of four commands is
flush_follows : (h : Machine) (look : Look) (handle : ℕ) (spans : List Span) → Follows h ((flush_with look handle spans).comes h)
flush_follows h look handle spans = by_mapping (mapping_of handle h.mappings)
  where
    by_kind : (m : Mapping) (shared : Bool) → Follows h ((if shared then flush_file look m.name (all_moved m.start spans) else nothing_done).comes h)
    by_kind m true = keeps h _ refl refl refl refl (λ on. on)
    by_kind m false = keeps h h refl refl refl refl (λ on. on)

    by_mapping : (o : Option Mapping) → Follows h (elim o [ None ↦ Gives Done h | Some m ↦ (flush_through look spans m).comes h ])
    by_mapping None = keeps h h refl refl refl refl (λ on. on)
    by_mapping (Some m) = by_kind m (is_shared m.kind)

pub of_program : (h : Machine) (action : Action) → IsTrue (is_of_program action) → OfProgram h action
of_program h (Map name span kind) is = (by_kind (is_shared kind), inl refl)
  where
    to : Machine
    to = with_mapping name span kind h

    by_kind : (shared : Bool) → Follows h (if shared then Gives (Handle h.next_handle) to else Works (Handle h.next_handle) to)
    by_kind true = keeps h to refl refl refl refl (λ on. on)
    by_kind false = keeps h to refl refl refl refl (λ on. on)
of_program h (Load handle offset len) is = (by_mapping (mapping_of handle h.mappings), inl refl)
  where
    by_kind : (m : Mapping) (shared : Bool) → Follows h ((if shared then fread m.name (m.start + offset) len else read_copy m offset len).comes h)
    by_kind m true = keeps h h refl refl refl refl (λ on. on)
    by_kind m false = keeps h h refl refl refl refl (λ on. on)

    by_mapping : (o : Option Mapping) → Follows h (elim o [ None ↦ Gives Done h | Some m ↦ (load_through offset len m).comes h ])
    by_mapping None = keeps h h refl refl refl refl (λ on. on)
    by_mapping (Some m) = by_kind m (is_shared m.kind)
of_program h (Store handle offset bytes) is = (by_mapping (mapping_of handle h.mappings), inl refl)
  where
    by_kind : (m : Mapping) (shared : Bool) → Follows h ((if shared then fwrite m.name (m.start + offset) bytes else write_copy handle offset bytes).comes h)
    by_kind m true = keeps h _ refl refl refl refl (λ on. on)
    by_kind m false = keeps h _ refl refl refl refl (λ on. on)

    by_mapping : (o : Option Mapping) → Follows h (elim o [ None ↦ Gives Done h | Some m ↦ (store_through handle offset bytes m).comes h ])
    by_mapping None = keeps h h refl refl refl refl (λ on. on)
    by_mapping (Some m) = by_kind m (is_shared m.kind)
of_program h (Sync handle offset len) is = (flush_follows h Once handle (record { start = offset; len = len } ∷ []), inl refl)
of_program h (Flush handle spans) is = (flush_follows h Once handle spans, inl refl)
of_program h (FlushVerify handle spans) is = (flush_follows h Again handle spans, inl refl)
of_program h (DeepFlush handle spans) is = (flush_follows h Once handle spans, inl refl)
of_program h (PoisonMeta line) is = cc is
of_program h Cut is = cc is
of_program h (CutIn calls) is = (
  keeps h _ refl refl refl refl (λ on. refl),
  inr (record { geometry = refl; blocks = refl; volume = refl; files = refl; mappings = refl; interrupted = refl; metadata = refl; mode = refl }),
)
of_program h (FailIn calls) is = cc is
of_program h (Restart choice) is = cc is
of_program h Recover is = cc is
of_program h (Attr name) is = (keeps h h refl refl refl refl (λ on. on), inr (rests h))
of_program h action is = (keeps h _ refl refl refl refl (λ on. on), inl refl)
