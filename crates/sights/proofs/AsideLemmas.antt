-- What a command that is done leaves of the parts of storage that it does not change.
use Rattle.std.proofs.Common.{◌≡◌, if◌then◌else◌, ℕ, ◌+◌, Bool, true, false, Option, Some, None, List, refl}
use Rattle.nvm_base.specs.declared.files.Kind.{Kind}
use Rattle.nvm_base.specs.declared.units.Span.{Span}
use Rattle.nvm_model.specs.Mappings.{is_shared, mapping_of}
use Rattle.nvm_model.specs.Storage.{Mapping}
use Rattle.reply_text.specs.Answer.Answer.{Done, Handle}
use Rattle.asked_reads.specs.MachineModel.declared.look.Look.{Look}
use Rattle.asked_reads.specs.MachineModel.Machine.{Machine}
use Rattle.asked_reads.specs.MachineModel.Machine.Fate.{Gives, Works}
use Rattle.asked_reads.specs.MachineModel.Meaning.{Meaning}
use Rattle.asked_reads.specs.MachineModel.OnFlushes.{all_moved, flush_file, flush_through, nothing_done}
use Rattle.asked_reads.specs.MachineModel.OnMappings.{load_through, read_copy, store_through, with_mapping, write_copy}
use Rattle.asked_reads.specs.MachineModel.OnPages.{fread, fwrite}
use Rattle.asked_reads.specs.Outcomes.Stops.{led_to}

-- blocks and volume are as they were
pub record IsAside (h to : Machine) : Type 0 where
  pub blocks : to.blocks ≡ h.blocks
  pub volume : to.volume ≡ h.volume
  pub geometry : to.geometry ≡ h.geometry

pub aside : (h to : Machine) → to.blocks ≡ h.blocks → to.volume ≡ h.volume → to.geometry ≡ h.geometry → IsAside h to
aside h to blocks volume geometry = record { blocks = blocks; volume = volume; geometry = geometry }

module _ (h : Machine) where
  pub by_mapping : (handle : ℕ) (of : Mapping → Meaning) → ((m : Mapping) → IsAside h (led_to h ((of m).comes h)))
      → IsAside h (led_to h (elim (mapping_of handle h.mappings) [ None ↦ Gives Done h | Some m ↦ (of m).comes h ]))
  by_mapping handle of same = by_found (mapping_of handle h.mappings)
    where
      by_found : (o : Option Mapping) → IsAside h (led_to h (elim o [ None ↦ Gives Done h | Some m ↦ (of m).comes h ]))
      by_found None = aside h h refl refl refl
      by_found (Some m) = same m

  pub load_aside : (offset len : ℕ) (m : Mapping) → IsAside h (led_to h ((load_through offset len m).comes h))
  load_aside offset len m = by_kind (is_shared m.kind)
    where
      by_kind : (shared : Bool) → IsAside h (led_to h ((if shared then fread m.name (m.start + offset) len else read_copy m offset len).comes h))
      by_kind true = aside h _ refl refl refl
      by_kind false = aside h _ refl refl refl

  pub store_aside : (handle offset : ℕ) (bytes : List ℕ) (m : Mapping) → IsAside h (led_to h ((store_through handle offset bytes m).comes h))
  store_aside handle offset bytes m = by_kind (is_shared m.kind)
    where
      by_kind : (shared : Bool) → IsAside h (led_to h ((if shared then fwrite m.name (m.start + offset) bytes else write_copy handle offset bytes).comes h))
      by_kind true = aside h _ refl refl refl
      by_kind false = aside h _ refl refl refl

  pub flush_aside : (look : Look) (spans : List Span) (m : Mapping) → IsAside h (led_to h ((flush_through look spans m).comes h))
  flush_aside look spans m = by_kind (is_shared m.kind)
    where
      by_kind : (shared : Bool) → IsAside h (led_to h ((if shared then flush_file look m.name (all_moved m.start spans) else nothing_done).comes h))
      by_kind true = aside h _ refl refl refl
      by_kind false = aside h _ refl refl refl

  pub map_aside : (name : List ℕ) (span : Span) (kind : Kind)
      → IsAside h (led_to h (if is_shared kind then Gives (Handle h.next_handle) (with_mapping name span kind h) else Works (Handle h.next_handle) (with_mapping name span kind h)))
  map_aside name span kind = by_kind (is_shared kind)
    where
      by_kind : (shared : Bool)
          → IsAside h (led_to h (if shared then Gives (Handle h.next_handle) (with_mapping name span kind h) else Works (Handle h.next_handle) (with_mapping name span kind h)))
      by_kind true = aside h _ refl refl refl
      by_kind false = aside h _ refl refl refl
