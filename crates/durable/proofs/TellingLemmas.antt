-- What each command tells, and which events come by it.
use Rattle.std.proofs.Common.{◌≡◌, ℕ, ◌*◌, ◌/◌, Bool, true, false, Option, Some, None, option_map, List, [], ◌∷◌, ◌++◌, drop, length, refl, ap, if◌then◌else◌}
use Rattle.std.proofs.lemmas.Bool.{false≢true}
use Rattle.std.proofs.lemmas.List.{append-nil}
use Rattle.nvm_base.specs.declared.units.Span.{Span}
use Rattle.nvm_model.specs.Blocks.{is_there, nth}
use Rattle.nvm_model.specs.Mappings.{is_shared, mapping_of}
use Rattle.nvm_model.specs.Page.{cell_of}
use Rattle.nvm_model.specs.Storage.{Event, Mapping}
use Rattle.nvm_model.specs.Touched.{next_bad_touched}
use Rattle.file_actions.specs.Refusals.{all_bytes}
use Rattle.marked_lines.specs.Refusals.{cell_refusal}
use Rattle.reply_text.specs.Answer.Answer.{Done, No, PoisonFile as PoisonedFile, Refused, Yes}
use Rattle.reply_text.specs.declared.reply.Why.TheVariants as because
use Rattle.machine_model.specs.Meaning.{Reasons, no_reasons}
use Rattle.script_text.specs.Action.{Action}
use Rattle.script_text.specs.Action.Action.{BExists, VExists, Create, Delete, Rename, Resize, FWrite, FAtomic, FMulti, FDiscard, FSync, Map, Load, Store, Sync, Flush, FlushVerify, DeepFlush, NextEvent, PoisonFile, WeakenFile, ClearFile, Restart, Recover, Attr}
use Rattle.machine_model.specs.declared.look.Look.{Look}
use Rattle.machine_model.specs.declared.look.Look.TheVariants.{Once, Again}
use Rattle.machine_model.specs.Commands.{meaning, refusal}
use Rattle.machine_model.specs.Machine.{Fate, Machine}
use Rattle.machine_model.specs.Machine.Fate.{Gives, Works, Orders, Cuts, Restarts, Recovers}
use Rattle.machine_model.specs.OnEvents.{told_event}
use Rattle.machine_model.specs.OnAttributes.{told_value}
use Rattle.attributes.specs.Attributes.{attribute}
use Rattle.machine_model.specs.OnFlushes.{all_moved, flush_file, flush_through, flush_with, nothing_done}
use Rattle.machine_model.specs.OnPages.{pages_named}
use Rattle.durable.specs.Events.{TellsLines, all_told, told_by}
use Rattle.durable.specs.Files.{changes_files}
use Rattle.durable.proofs.BadLineLemmas.{cleared_no_worse, stored_no_worse, weakened_no_worse}
use Rattle.durable.proofs.RewrittenLemmas.{discarded_no_worse, rewritten_no_worse}
use Rattle.durable.proofs.EventLemmas.{flush_tells, none_went, poison_tells, quiet, unchanged}
use Rattle.durable.proofs.HandleLemmas.{of_load, of_map, of_store}
use Rattle.durable.proofs.RefusalLemmas.{line_none, places_none, unreadable_none, within_none}

-- what comes of a command that is not refused
abbrev pub TellsAt : Machine → Action → Fate → Type 0
TellsAt h action (Gives good to) = TellsLines h (good ∷ []) to
TellsAt h action (Works good to) = TellsLines h (good ∷ []) to
TellsAt h action (Orders order to) = TellsLines h (Done ∷ []) to
TellsAt h action (Cuts to) = TellsLines h (Done ∷ []) to
TellsAt h action (Restarts choice) = action ≡ Restart choice
TellsAt h action Recovers = action ≡ Recover

-- whether something is there
yes_silent : (there : Bool) → told_by (if there then Yes else No) ≡ []
yes_silent true = refl
yes_silent false = refl

-- what an attribute tells
value_silent : (o : Option ℕ) → told_by (told_value o) ≡ []
value_silent None = refl
value_silent (Some value) = refl

-- the oldest event is told, or none
next_order : (events : List Event) → events ++ [] ≡ all_told (told_event events ∷ []) ++ drop 1 events
next_order [] = refl
next_order (event ∷ events) = ap (λ es. event ∷ es) (append-nil events)

next_tells : (h : Machine) → TellsAt h NextEvent ((meaning NextEvent).comes h)
next_tells h = none_went h _ (told_event h.events) (next_order h.events) (λ name n bad. bad)

poison_none : (name : List ℕ) (o : Option ℕ) → option_map (λ n. PoisonedFile name (64 * n)) o ≡ None → o ≡ None
poison_none name None is = refl
poison_none name (Some n) is = cc is

-- nothing is unreadable
abbrev AllReadable : Reasons → Type 0
AllReadable r = r.unreadable ≡ None

-- a flush, which each of four commands is
through_tells : (h : Machine) (action : Action) (look : Look) (handle : ℕ) (spans : List Span) → AllReadable ((flush_with look handle spans).reasons h)
    → TellsAt h action ((flush_with look handle spans).comes h)
through_tells h action look handle spans = by_mapping (mapping_of handle h.mappings)
  where
    by_kind : (m : Mapping) (shared : Bool) → AllReadable ((if shared then flush_file look m.name (all_moved m.start spans) else nothing_done).reasons h)
        → TellsAt h action ((if shared then flush_file look m.name (all_moved m.start spans) else nothing_done).comes h)
    by_kind m true none =
        let fine = poison_none m.name (next_bad_touched (all_moved m.start spans) (pages_named m.name h.files) 0) none in flush_tells h m.name (all_moved m.start spans) fine look
    by_kind m false none = unchanged h h Done refl refl refl

    by_mapping : (o : Option Mapping) → AllReadable (elim o [ None ↦ record no_reasons { named = Some (Refused because.Handle) } | Some m ↦ (flush_through look spans m).reasons h ])
        → TellsAt h action (elim o [ None ↦ Gives Done h | Some m ↦ (flush_through look spans m).comes h ])
    by_mapping None none = unchanged h h Done refl refl refl
    by_mapping (Some m) none = by_kind m (is_shared m.kind) none

-- a command that changes no list of files
pub tells : (h : Machine) (action : Action) → refusal h action ≡ None → changes_files action ≡ false → TellsAt h action ((meaning action).comes h)
tells h (BExists block) none stay = unchanged h h _ (yes_silent (is_there (nth h.blocks block))) refl refl
tells h (VExists page) none stay = unchanged h h _ (yes_silent _) refl refl
tells h (Create name pages) none stay = cc stay
tells h (Delete name) none stay = cc stay
tells h (Rename name to) none stay = cc stay
tells h (Resize name pages) none stay = cc stay
tells h (FWrite name offset bytes) none stay = quiet h _ Done refl refl (stored_no_worse name offset bytes h.files)
tells h (FAtomic name offset bytes) none stay = quiet h _ Done refl refl (rewritten_no_worse name (record { start = offset; len = length bytes } ∷ []) bytes h.files)
tells h (FMulti name ranges bytes) none stay = quiet h _ Done refl refl (rewritten_no_worse name ranges bytes h.files)
tells h (FDiscard name page count) none stay = quiet h _ Done refl refl (discarded_no_worse name page count h.files)
tells h (FSync name) none stay =
    flush_tells h name all_bytes (poison_none name (next_bad_touched all_bytes (pages_named name h.files) 0) (unreadable_none h (FSync name) none)) Once
tells h (Map name span kind) none stay = of_map (TellsAt h (Map name span kind)) h name span kind (unchanged h _ _ refl refl refl) (unchanged h _ _ refl refl refl)
tells h (Load handle offset len) none stay =
    of_load (TellsAt h (Load handle offset len)) h handle offset len (unchanged h h Done refl refl refl) (λ name place. unchanged h h _ refl refl refl)
    (λ m. unchanged h h _ refl refl refl)
tells h (Store handle offset bytes) none stay =
    of_store (TellsAt h (Store handle offset bytes)) h handle offset bytes (unchanged h h Done refl refl refl)
    (λ name place. quiet h _ Done refl refl (stored_no_worse name place bytes h.files)) (unchanged h _ Done refl refl refl)
tells h (Sync handle offset len) none stay =
    through_tells h (Sync handle offset len) Once handle (record { start = offset; len = len } ∷ []) (unreadable_none h (Sync handle offset len) none)
tells h (Flush handle spans) none stay = through_tells h (Flush handle spans) Once handle spans (unreadable_none h (Flush handle spans) none)
tells h (FlushVerify handle spans) none stay = through_tells h (FlushVerify handle spans) Again handle spans (unreadable_none h (FlushVerify handle spans) none)
tells h (DeepFlush handle spans) none stay = through_tells h (DeepFlush handle spans) Once handle spans (unreadable_none h (DeepFlush handle spans) none)
tells h NextEvent none stay = next_tells h
tells h (PoisonFile name offset) none stay =
    poison_tells h name offset (within_none _ (cell_refusal (cell_of (pages_named name h.files) (offset / 64))) (line_none _ (places_none h (PoisonFile name offset) none))).1
tells h (WeakenFile name offset) none stay = quiet h _ Done refl refl (weakened_no_worse name offset h.files)
tells h (ClearFile name offset) none stay = quiet h _ Done refl refl (cleared_no_worse name offset h.files)
tells h (Restart choice) none stay = refl
tells h Recover none stay = refl
tells h (Attr name) none stay = unchanged h h _ (value_silent (attribute name h.geometry h.unit)) refl refl
tells h action none stay = unchanged h _ _ refl refl refl

-- one that changes it tells nothing, and no event comes by it
abbrev pub KeepsAt : Machine → Fate → Type 0
KeepsAt h (Gives good to) = (told_by good ≡ []) × (to.events ≡ h.events)
KeepsAt h (Works good to) = (told_by good ≡ []) × (to.events ≡ h.events)
KeepsAt h (Orders order to) = to.events ≡ h.events
KeepsAt h (Cuts to) = to.events ≡ h.events
KeepsAt h (Restarts choice) = ⊥
KeepsAt h Recovers = ⊥

pub keeps : (h : Machine) (action : Action) → changes_files action ≡ true → KeepsAt h ((meaning action).comes h)
keeps h (Create name pages) change = (refl, refl)
keeps h (Delete name) change = (refl, refl)
keeps h (Rename name to) change = (refl, refl)
keeps h (Resize name pages) change = (refl, refl)
keeps h action change = absurd (false≢true change)
