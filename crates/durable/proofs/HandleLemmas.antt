-- What holds of each thing that a command on a mapping may come to holds of what it comes to.
use Rattle.std.proofs.Common.{inl, inr, ℕ, ◌+◌, ◌*◌, Bool, true, false, Option, Some, None, List, refl, if◌then◌else◌}
use Rattle.nvm_base.specs.declared.files.Kind.{Kind}
use Rattle.nvm_base.specs.declared.units.Span.{Span}
use Rattle.nvm_model.specs.Mappings.{is_shared, mapping_of}
use Rattle.nvm_model.specs.Storage.{Mapping}
use Rattle.machine_model.specs.declared.look.Look.{Look}
use Rattle.machine_model.specs.declared.look.Look.TheVariants.{Once, Again}
use Rattle.reply_text.specs.Answer.Answer.{Done, Handle}
use Rattle.script_text.specs.Action.Action.{Load, Map, Store}
use Rattle.machine_model.specs.Commands.{meaning}
use Rattle.machine_model.specs.Machine.{Fate, Machine}
use Rattle.machine_model.specs.Machine.Fate.{Gives, Works}
use Rattle.machine_model.specs.OnFlushes.{all_moved, flush_file, flush_through, flush_with, nothing_done, second_look}
use Rattle.machine_model.specs.OnMappings.{load_through, read_copy, store_through, with_mapping, write_copy}
use Rattle.machine_model.specs.OnPages.{fread, fwrite}
use Rattle.durable.specs.Durable.{IsDone}

module _ (P : Fate → Type 0) (h : Machine) where
  pub of_map : (name : List ℕ) (span : Span) (kind : Kind) → P (Gives (Handle h.next_handle) (with_mapping name span kind h)) → P (Works (Handle h.next_handle) (with_mapping name span kind h))
      → P ((meaning (Map name span kind)).comes h)
  of_map name span kind gives works = by_kind (is_shared kind)
    where
      by_kind : (shared : Bool) → P (if shared then Gives (Handle h.next_handle) (with_mapping name span kind h) else Works (Handle h.next_handle) (with_mapping name span kind h))
      by_kind true = gives
      by_kind false = works

  pub of_load : (handle offset len : ℕ) → P (Gives Done h) → ((name : List ℕ) (place : ℕ) → P ((fread name place len).comes h)) → ((m : Mapping) → P ((read_copy m offset len).comes h))
      → P ((meaning (Load handle offset len)).comes h)
  of_load handle offset len none shared private = by_mapping (mapping_of handle h.mappings)
    where
      by_kind : (m : Mapping) (b : Bool) → P ((if b then fread m.name (m.start + offset) len else read_copy m offset len).comes h)
      by_kind m true = shared m.name (m.start + offset)
      by_kind m false = private m

      by_mapping : (o : Option Mapping) → P (elim o [ None ↦ Gives Done h | Some m ↦ (load_through offset len m).comes h ])
      by_mapping None = none
      by_mapping (Some m) = by_kind m (is_shared m.kind)

  pub of_store : (handle offset : ℕ) (bytes : List ℕ) → P (Gives Done h) → ((name : List ℕ) (place : ℕ) → P ((fwrite name place bytes).comes h)) → P ((write_copy handle offset bytes).comes h)
      → P ((meaning (Store handle offset bytes)).comes h)
  of_store handle offset bytes none shared private = by_mapping (mapping_of handle h.mappings)
    where
      by_kind : (m : Mapping) (b : Bool) → P ((if b then fwrite m.name (m.start + offset) bytes else write_copy handle offset bytes).comes h)
      by_kind m true = shared m.name (m.start + offset)
      by_kind m false = private

      by_mapping : (o : Option Mapping) → P (elim o [ None ↦ Gives Done h | Some m ↦ (store_through handle offset bytes m).comes h ])
      by_mapping None = none
      by_mapping (Some m) = by_kind m (is_shared m.kind)

  -- of a flush, which each of the four is
  pub of_flush : (look : Look) (handle : ℕ) (spans : List Span) → P (Gives Done h) → ((name : List ℕ) (moved : List Span) → P ((flush_file look name moved).comes h))
      → P ((flush_with look handle spans).comes h)
  of_flush look handle spans none shared = by_mapping (mapping_of handle h.mappings)
    where
      by_kind : (m : Mapping) (b : Bool) → P ((if b then flush_file look m.name (all_moved m.start spans) else nothing_done).comes h)
      by_kind m true = shared m.name (all_moved m.start spans)
      by_kind m false = none

      by_mapping : (o : Option Mapping) → P (elim o [ None ↦ Gives Done h | Some m ↦ (flush_through look spans m).comes h ])
      by_mapping None = none
      by_mapping (Some m) = by_kind m (is_shared m.kind)

-- what a flush is answered tells that it was done
pub flush_done : (look : Look) (name : List ℕ) (lost : Option ℕ) → IsDone (second_look look name lost)
flush_done Once name lost = inl refl
flush_done Again name None = inl refl
flush_done Again name (Some n) = inr (name, 64 * n, refl)
