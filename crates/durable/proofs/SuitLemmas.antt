-- What a command may come to, and what that leaves.
use Rattle.std.proofs.Common.{◌≡◌, ◌⊎◌, inl, inr, ℕ, ◌+◌, ◌==◌, Bool, true, false, cond, nat_lt, Option, Some, None, List, [], ◌∷◌, refl, sym, ap, ◌∙◌, if◌then◌else◌}
use Rattle.word_tables.specs.declared.geometry.Geometry.{Geometry}
use Rattle.reply_text.specs.Answer.Answer.{Done, Handle}
use Rattle.script_text.specs.Action.{Action}
use Rattle.script_text.specs.Action.Action.{BRead, BWrite, BAtomic, BMulti, BDiscard, BDiscardIf, BExists, BScar, VLoad, VStore, VSync, VRanges, VPSync, VDiscard, VDiscardIf, VExists, Create, Delete, Rename, Resize, ListFiles, FRead, FWrite, FAtomic, FMulti, FDiscard, FSync, Map, Unmap, Load, Store, Sync, Flush, FlushVerify, DeepFlush, NextEvent, CheckFile, PoisonBlock, PoisonVolume, PoisonFile, PoisonMeta, WeakenFile, WeakenVolume, ClearFile, ClearVolume, Cut, CutIn, FailIn, Restart, Recover, Attr, Evict}
use Rattle.machine_model.specs.declared.needs.Needs.TheVariants.{Usable, Unpowered}
use Rattle.machine_model.specs.Machine.{Machine, Fate}
use Rattle.machine_model.specs.OnMappings.{load_through, read_copy, store_through, with_mapping, write_copy}
use Rattle.machine_model.specs.OnPages.{fread, fwrite}
use Rattle.nvm_model.specs.Mappings.{is_shared, mapping_of}
use Rattle.nvm_model.specs.Storage.{Mapping}
use Rattle.machine_model.specs.Machine.Fate.{Gives, Works, Orders, Cuts, Restarts, Recovers}
use Rattle.machine_model.specs.Commands.{meaning}
use Rattle.machine_model.specs.OnMedia.{with_line}
use Rattle.machine_model.specs.declared.look.Look.{Look}
use Rattle.machine_model.specs.declared.look.Look.TheVariants.{Once, Again}
use Rattle.machine_model.specs.OnFlushes.{all_moved, flush_file, flush_through, flush_with, nothing_done}
use Rattle.nvm_base.specs.declared.units.Span.{Span}
use Rattle.durable.specs.Place.{Place}
use Rattle.durable.specs.Place.Place.{of_volume, of_blocks, of_file}
use Rattle.durable.specs.Durable.{IsDone}
use Rattle.durable.specs.Files.{changes_files}
use Rattle.durable.specs.Region.{flushed_by, flushed_lines, holds, nothing}
use Rattle.durable.specs.Touching.{made_durable}
use Rattle.durable.proofs.HandleLemmas.{flush_done}
use Rattle.durable.proofs.StepKinds.{Alters, CoversNothing, Idles, TouchesNothing, blocks_after, files_made, volume_after}

-- what comes of a command that is not refused
abbrev pub Suits : Machine → Action → Fate → Type 0
Suits h action (Gives good to) = (CoversNothing h action × Idles h to) ⊎ ((IsDone good ⊎ TouchesNothing action) × Alters h action to)
Suits h action (Works good to) = (IsDone good ⊎ TouchesNothing action) × Alters h action to
Suits h action (Orders order to) = CoversNothing h action × Idles h to
Suits h action (Cuts to) = CoversNothing h action × Idles h to
Suits h action (Restarts choice) = CoversNothing h action × ((meaning action).needs ≡ Unpowered) × (action ≡ Restart choice)
Suits h action Recovers = CoversNothing h action × (action ≡ Recover)

pub nowhere : (x : Place) → holds nothing x ≡ false
nowhere (of_volume i) = refl
nowhere (of_blocks i) = refl
nowhere (of_file name i) = refl

pub same : (h : Machine) → Idles h h
same h = record {
  geometry = refl;
  unit = refl;
  blocks = refl;
  volume = refl;
  files = refl;
  mappings = refl;
  interrupted = refl;
  metadata = λ bad. bad;
  mode = λ on. on;
  stopped = λ is. is;
}

-- the sizes of a state's medium, and its unit
abbrev sizes_of : Machine → Geometry × ℕ
sizes_of h = (h.geometry, h.unit)

works : (h to : Machine) (action : Action) → sizes_of to ≡ sizes_of h → to.blocks ≡ blocks_after action h.blocks → to.volume ≡ volume_after h.geometry action h.volume
    → to.files ≡ files_made h.mappings action h.files → to.interrupted ≡ h.interrupted → to.mode ≡ h.mode → (meaning action).needs ≡ Usable → Alters h action to
works h to action sizes blocks volume files interrupted mode needs =
    record { geometry = ap (λ (s : Geometry × ℕ). s.0) sizes; unit = ap (λ (s : Geometry × ℕ). s.1) sizes; blocks = blocks; volume = volume; files = files; interrupted = interrupted; mode = mode; needs = needs }

armed : (h to : Machine) → sizes_of to ≡ sizes_of h → to.blocks ≡ h.blocks → to.volume ≡ h.volume → to.files ≡ h.files → to.mappings ≡ h.mappings
    → to.interrupted ≡ h.interrupted → to.bad_meta ≡ h.bad_meta → to.mode ≡ h.mode → Idles h to
armed h to sizes blocks volume files mappings interrupted metadata mode = record {
  geometry = ap (λ (s : Geometry × ℕ). s.0) sizes;
  unit = ap (λ (s : Geometry × ℕ). s.1) sizes;
  blocks = blocks;
  volume = volume;
  files = files;
  mappings = mappings;
  interrupted = interrupted;
  metadata = λ bad none. bad (sym metadata ∙ none);
  mode = λ on. sym mode ∙ on;
  stopped = λ is. sym mode ∙ is;
}

-- a line more is bad
pub with_line-some : (line : ℕ) (lines : List ℕ) → with_line line lines ≡ [] → ⊥
with_line-some line [] is = cc is
with_line-some line (next ∷ lines) is = by_order (nat_lt line next) (line == next) is
  where
    by_order : (less same : Bool) → cond less (line ∷ next ∷ lines) (cond same (next ∷ lines) (next ∷ with_line line lines)) ≡ [] → ⊥
    by_order true same is = cc is
    by_order false true is = cc is
    by_order false false is = cc is

-- a flush, which each of four commands is
flush_suits : (h : Machine) (action : Action) (look : Look) (handle : ℕ) (spans : List Span) → (made_durable h.geometry h.mappings action).region ≡ flushed_by spans (mapping_of handle h.mappings)
    → changes_files action ≡ false → h.blocks ≡ blocks_after action h.blocks → h.volume ≡ volume_after h.geometry action h.volume
    → (flush_with look handle spans).files h.mappings h.files ≡ files_made h.mappings action h.files → (meaning action).needs ≡ Usable
    → Suits h action ((flush_with look handle spans).comes h)
flush_suits h action look handle spans region stay blocks volume files needs = by_mapping (mapping_of handle h.mappings) refl
  where
    covers : (o : Option Mapping) → mapping_of handle h.mappings ≡ o → flushed_by spans o ≡ nothing → CoversNothing h action
    covers o is none = record { bytes = λ x. ap (λ r. holds r x) (region ∙ ap (flushed_by spans) is ∙ none) ∙ nowhere x; files = stay }

    by_kind : (m : Mapping) → mapping_of handle h.mappings ≡ Some m → (shared : Bool) → is_shared m.kind ≡ shared
        → Suits h action ((if shared then flush_file look m.name (all_moved m.start spans) else nothing_done).comes h)
    by_kind m is true at =
        let made = sym (ap (λ (o : Option Mapping). elim o [ None ↦ h.files | Some n ↦ (flush_through look spans n).files h.mappings h.files ]) is
        ∙ ap (λ b. (if b then flush_file look m.name (all_moved m.start spans) else nothing_done).files h.mappings h.files) at) in
        (inl (flush_done look m.name _), works h _ action refl blocks volume (made ∙ files) refl refl needs)
    by_kind m is false at = inl (covers (Some m) is (ap (λ b. if b then flushed_lines m.name (all_moved m.start spans) else nothing) at), same h)

    by_mapping : (o : Option Mapping) → mapping_of handle h.mappings ≡ o → Suits h action (elim o [ None ↦ Gives Done h | Some m ↦ (flush_through look spans m).comes h ])
    by_mapping None is = inl (covers None is refl, same h)
    by_mapping (Some m) is = by_kind m is (is_shared m.kind) refl

pub suits : (h : Machine) (action : Action) → Suits h action ((meaning action).comes h)
suits h (BRead block count) = (inr (record { change = λ mappings. nowhere; poison = nowhere; weaken = nowhere; cover = λ geo mappings x. refl; files = refl }), works h h (BRead block count) refl refl refl refl refl refl refl)
suits h (BWrite block bytes) = (inl (inl refl), works h _ (BWrite block bytes) refl refl refl refl refl refl refl)
suits h (BAtomic block bytes) = (inl (inl refl), works h _ (BAtomic block bytes) refl refl refl refl refl refl refl)
suits h (BMulti ranges bytes) = (inl (inl refl), works h _ (BMulti ranges bytes) refl refl refl refl refl refl refl)
suits h (BDiscard block count) = (inl (inl refl), works h _ (BDiscard block count) refl refl refl refl refl refl refl)
suits h (BDiscardIf block count) = (inl (inl refl), works h _ (BDiscardIf block count) refl refl refl refl refl refl refl)
suits h (BExists block) = inl (record { bytes = nowhere; files = refl }, same h)
suits h (BScar ranges) = (inl (inl refl), works h _ (BScar ranges) refl refl refl refl refl refl refl)
suits h (VLoad offset len) = (inr (record { change = λ mappings. nowhere; poison = nowhere; weaken = nowhere; cover = λ geo mappings x. refl; files = refl }), works h h (VLoad offset len) refl refl refl refl refl refl refl)
suits h (VStore offset bytes) = (inl (inl refl), works h _ (VStore offset bytes) refl refl refl refl refl refl refl)
suits h (VSync offset len) = (inl (inl refl), works h _ (VSync offset len) refl refl refl refl refl refl refl)
suits h VRanges = inl (record { bytes = nowhere; files = refl }, same h)
suits h (VPSync address len) = (inl (inl refl), works h _ (VPSync address len) refl refl refl refl refl refl refl)
suits h (VDiscard page count) = (inl (inl refl), works h _ (VDiscard page count) refl refl refl refl refl refl refl)
suits h (VDiscardIf page count) = (inl (inl refl), works h _ (VDiscardIf page count) refl refl refl refl refl refl refl)
suits h (VExists page) = inl (record { bytes = nowhere; files = refl }, same h)
suits h (Create name pages) = (inl (inl refl), works h _ (Create name pages) refl refl refl refl refl refl refl)
suits h (Delete name) = (inl (inl refl), works h _ (Delete name) refl refl refl refl refl refl refl)
suits h (Rename name to) = (inl (inl refl), works h _ (Rename name to) refl refl refl refl refl refl refl)
suits h (Resize name pages) = (inl (inl refl), works h _ (Resize name pages) refl refl refl refl refl refl refl)
suits h ListFiles = inl (record { bytes = nowhere; files = refl }, same h)
suits h (FRead name offset len) = (inr (record { change = λ mappings. nowhere; poison = nowhere; weaken = nowhere; cover = λ geo mappings x. refl; files = refl }), works h h (FRead name offset len) refl refl refl refl refl refl refl)
suits h (FWrite name offset bytes) = (inl (inl refl), works h _ (FWrite name offset bytes) refl refl refl refl refl refl refl)
suits h (FAtomic name offset bytes) = (inl (inl refl), works h _ (FAtomic name offset bytes) refl refl refl refl refl refl refl)
suits h (FMulti name ranges bytes) = (inl (inl refl), works h _ (FMulti name ranges bytes) refl refl refl refl refl refl refl)
suits h (FDiscard name page count) = (inl (inl refl), works h _ (FDiscard name page count) refl refl refl refl refl refl refl)
suits h (FSync name) = (inl (inl refl), works h _ (FSync name) refl refl refl refl refl refl refl)
suits h (Map name span kind) = by_kind (is_shared kind)
  where
    to : Machine
    to = with_mapping name span kind h

    touches : TouchesNothing (Map name span kind)
    touches = record { change = λ mappings. nowhere; poison = nowhere; weaken = nowhere; cover = λ geo mappings x. refl; files = refl }

    by_kind : (shared : Bool) → Suits h (Map name span kind) (if shared then Gives (Handle h.next_handle) to else Works (Handle h.next_handle) to)
    by_kind true = inr (inr touches, works h to (Map name span kind) refl refl refl refl refl refl refl)
    by_kind false = (inr touches, works h to (Map name span kind) refl refl refl refl refl refl refl)
suits h (Unmap handle) = inr (inl (inl refl), works h _ (Unmap handle) refl refl refl refl refl refl refl)
suits h (Load handle offset len) = by_mapping (mapping_of handle h.mappings) refl
  where
    touches : TouchesNothing (Load handle offset len)
    touches = record { change = λ mappings. nowhere; poison = nowhere; weaken = nowhere; cover = λ geo mappings x. refl; files = refl }

    none : CoversNothing h (Load handle offset len)
    none = record { bytes = nowhere; files = refl }

    by_kind : (m : Mapping) → mapping_of handle h.mappings ≡ Some m → (shared : Bool) → is_shared m.kind ≡ shared
        → Suits h (Load handle offset len) ((if shared then fread m.name (m.start + offset) len else read_copy m offset len).comes h)
    by_kind m is true at = (
      inr touches,
      works h h (Load handle offset len) refl refl refl
          (sym (ap (λ (o : Option Mapping). elim o [ None ↦ h.files | Some n ↦ (load_through offset len n).files h.mappings h.files ]) is
          ∙ ap (λ b. (if b then fread m.name (m.start + offset) len else read_copy m offset len).files h.mappings h.files) at)) refl refl refl,
    )
    by_kind m is false at = inl (none, same h)

    by_mapping : (o : Option Mapping) → mapping_of handle h.mappings ≡ o → Suits h (Load handle offset len) (elim o [ None ↦ Gives Done h | Some m ↦ (load_through offset len m).comes h ])
    by_mapping None is = inl (none, same h)
    by_mapping (Some m) is = by_kind m is (is_shared m.kind) refl
suits h (Store handle offset bytes) = by_mapping (mapping_of handle h.mappings) refl
  where
    none : CoversNothing h (Store handle offset bytes)
    none = record { bytes = nowhere; files = refl }

    files_are : (m : Mapping) → mapping_of handle h.mappings ≡ Some m → (shared : Bool) → is_shared m.kind ≡ shared
        → (if shared then fwrite m.name (m.start + offset) bytes else write_copy handle offset bytes).files h.mappings h.files ≡ (meaning (Store handle offset bytes)).files h.mappings h.files
    files_are m is shared at =
        sym (ap (λ (o : Option Mapping). elim o [ None ↦ h.files | Some n ↦ (store_through handle offset bytes n).files h.mappings h.files ]) is
        ∙ ap (λ b. (if b then fwrite m.name (m.start + offset) bytes else write_copy handle offset bytes).files h.mappings h.files) at)

    by_kind : (m : Mapping) → mapping_of handle h.mappings ≡ Some m → (shared : Bool) → is_shared m.kind ≡ shared
        → Suits h (Store handle offset bytes) ((if shared then fwrite m.name (m.start + offset) bytes else write_copy handle offset bytes).comes h)
    by_kind m is true at = (inl (inl refl), works h _ (Store handle offset bytes) refl refl refl (files_are m is true at) refl refl refl)
    by_kind m is false at = inr (inl (inl refl), works h _ (Store handle offset bytes) refl refl refl (files_are m is false at) refl refl refl)

    by_mapping : (o : Option Mapping) → mapping_of handle h.mappings ≡ o → Suits h (Store handle offset bytes) (elim o [ None ↦ Gives Done h | Some m ↦ (store_through handle offset bytes m).comes h ])
    by_mapping None is = inl (none, same h)
    by_mapping (Some m) is = by_kind m is (is_shared m.kind) refl
suits h (Sync handle offset len) =
    flush_suits h (Sync handle offset len) Once handle (record { start = offset; len = len } ∷ []) refl refl refl refl refl refl
suits h (Flush handle spans) = flush_suits h (Flush handle spans) Once handle spans refl refl refl refl refl refl
suits h (FlushVerify handle spans) = flush_suits h (FlushVerify handle spans) Again handle spans refl refl refl refl refl refl
suits h (DeepFlush handle spans) = flush_suits h (DeepFlush handle spans) Once handle spans refl refl refl refl refl refl
suits h NextEvent = inl (record { bytes = nowhere; files = refl }, armed h _ refl refl refl refl refl refl refl refl)
suits h (CheckFile name offset len) = inl (record { bytes = nowhere; files = refl }, same h)
suits h (PoisonBlock block line) = inr (inl (inl refl), works h _ (PoisonBlock block line) refl refl refl refl refl refl refl)
suits h (PoisonVolume offset) = inr (inl (inl refl), works h _ (PoisonVolume offset) refl refl refl refl refl refl refl)
suits h (PoisonFile name offset) = inr (inl (inl refl), works h _ (PoisonFile name offset) refl refl refl refl refl refl refl)
suits h (PoisonMeta line) = inl (
  record { bytes = nowhere; files = refl },
  record {
    geometry = refl;
    unit = refl;
    blocks = refl;
    volume = refl;
    files = refl;
    mappings = refl;
    interrupted = refl;
    metadata = λ bad. with_line-some line h.bad_meta;
    mode = λ on. on;
    stopped = λ is. is;
  },
)
suits h (WeakenFile name offset) = inr (inl (inl refl), works h _ (WeakenFile name offset) refl refl refl refl refl refl refl)
suits h (WeakenVolume offset) = inr (inl (inl refl), works h _ (WeakenVolume offset) refl refl refl refl refl refl refl)
suits h (ClearFile name offset) = (inl (inl refl), works h _ (ClearFile name offset) refl refl refl refl refl refl refl)
suits h (ClearVolume offset) = (inl (inl refl), works h _ (ClearVolume offset) refl refl refl refl refl refl refl)
suits h Cut =
    (record { bytes = nowhere; files = refl }, record { geometry = refl; unit = refl; blocks = refl; volume = refl; files = refl; mappings = refl; interrupted = refl; metadata = λ bad. bad; mode = λ on. cc on; stopped = λ is. cc is })
suits h (CutIn calls) = (record { bytes = nowhere; files = refl }, armed h _ refl refl refl refl refl refl refl refl)
suits h (FailIn calls) = (record { bytes = nowhere; files = refl }, armed h _ refl refl refl refl refl refl refl refl)
suits h (Restart choice) = (record { bytes = nowhere; files = refl }, refl, refl)
suits h Recover = (record { bytes = nowhere; files = refl }, refl)
suits h (Attr name) = inl (record { bytes = nowhere; files = refl }, same h)
suits h (Evict lines) = (record { bytes = nowhere; files = refl }, same h)
