-- What a cut inside a command leaves of files, by the change that it makes.
use Rattle.std.proofs.Common.{◌≡◌, if◌then◌else◌, ℕ, ◌+◌, Bool, true, false, Option, Some, None, List, [], ◌∷◌, map, refl, sym, ap, ◌∙◌}
use Rattle.nvm_base.specs.declared.units.Span.{Span}
use Rattle.nvm_model.specs.Mappings.{is_shared, mapping_of}
use Rattle.nvm_model.specs.Storage.{File, Mapping}
use Rattle.mappings.specs.declared.info.MapInfo.{MapInfo}
use Rattle.mappings.specs.Object.{info_of}
use Rattle.script_text.specs.Action.{Action}
use Rattle.script_text.specs.Action.Action.{BRead, BWrite, BAtomic, BMulti, BDiscard, BDiscardIf, BExists, BScar, VLoad, VStore, VSync, VRanges, VPSync, VDiscard, VDiscardIf, VExists, Create, Delete, Rename, Resize, ListFiles, FRead, FWrite, FAtomic, FMulti, FDiscard, FSync, Map, Unmap, Load, Store, Sync, Flush, FlushVerify, DeepFlush, NextEvent, CheckFile, PoisonBlock, PoisonVolume, PoisonFile, PoisonMeta, WeakenFile, WeakenVolume, ClearFile, ClearVolume, Cut, CutIn, FailIn, Restart, Recover, Attr, Evict}
use Rattle.sights.specs.MachineModel.declared.look.Look.{Look}
use Rattle.sights.specs.MachineModel.declared.look.Look.TheVariants.{Once, Again}
use Rattle.sights.specs.MachineModel.Commands.{meaning}
use Rattle.sights.specs.MachineModel.Meaning.{FilesLeft, Meaning}
use Rattle.sights.specs.MachineModel.Meaning.FilesLeft.{Unchanged}
use Rattle.sights.specs.MachineModel.OnFlushes.{all_moved, flush_file, flush_through, nothing_done}
use Rattle.sights.specs.MachineModel.OnMappings.{load_through, read_copy, store_through, write_copy}
use Rattle.sights.specs.MachineModel.OnPages.{fread, fwrite}
use Rattle.sights.specs.Outcomes.Files.{FileRead}
use Rattle.sights.specs.Outcomes.Left.{files_pass}
use Rattle.cut_places.specs.FileChanges.{FilesChange, LinesChange, files_changed, left_by}
use Rattle.cut_places.specs.FileCommands.{files_change, persisted_at, stored_at, through}
use Rattle.cut_places.specs.Maps.{if_shared, shown, uncopied}
use Rattle.cut_places.proofs.CommandLemmas.{shown_by}

-- What is told of how files are left and of what they would be, which is the latter only where some may be new.
module _ {A : Type 0} (F : FilesLeft → List File → A) (old : List File) (quiet : (to : List File) → F Unchanged to ≡ F Unchanged old) (mappings : List Mapping) where
  -- by the change that is made
  abbrev by_change : FilesChange → A
  by_change change = F (left_by change) (files_changed change old)

  -- a command by handle
  by_mapping : (handle : ℕ) (of : Mapping → Meaning) (change : MapInfo → LinesChange)
      → ((m : Mapping) → F ((of m).files_left mappings) ((of m).files mappings old) ≡ by_change (through (if_shared (info_of m)) change))
      → F (elim (mapping_of handle mappings) [ None ↦ Unchanged | Some m ↦ (of m).files_left mappings ])
      (elim (mapping_of handle mappings) [ None ↦ old | Some m ↦ (of m).files mappings old ])
      ≡ by_change (through (shown handle (map uncopied mappings)) change)
  by_mapping handle of change each = by_found (mapping_of handle mappings) refl
    where
      by_found : (o : Option Mapping) → mapping_of handle mappings ≡ o
          → F (elim o [ None ↦ Unchanged | Some m ↦ (of m).files_left mappings ]) (elim o [ None ↦ old | Some m ↦ (of m).files mappings old ])
          ≡ by_change (through (shown handle (map uncopied mappings)) change)
      by_found None is = sym (ap (λ s. by_change (through s change)) (shown_by handle mappings None is))
      by_found (Some m) is = each m ∙ sym (ap (λ s. by_change (through s change)) (shown_by handle mappings (Some m) is))

  load_left : (handle offset len : ℕ) → F ((meaning (Load handle offset len)).files_left mappings) ((meaning (Load handle offset len)).files mappings old) ≡ F Unchanged old
  load_left handle offset len = by_found (mapping_of handle mappings)
    where
      by_kind : (m : Mapping) (shared : Bool)
          → F ((if shared then fread m.name (m.start + offset) len else read_copy m offset len).files_left mappings)
          ((if shared then fread m.name (m.start + offset) len else read_copy m offset len).files mappings old)
          ≡ F Unchanged old
      by_kind m true = refl
      by_kind m false = refl

      by_found : (o : Option Mapping)
          → F (elim o [ None ↦ Unchanged | Some m ↦ (load_through offset len m).files_left mappings ]) (elim o [ None ↦ old | Some m ↦ (load_through offset len m).files mappings old ])
          ≡ F Unchanged old
      by_found None = refl
      by_found (Some m) = by_kind m (is_shared m.kind)

  store_left : (handle offset : ℕ) (bytes : List ℕ) (m : Mapping)
      → F ((store_through handle offset bytes m).files_left mappings) ((store_through handle offset bytes m).files mappings old) ≡ by_change (through (if_shared (info_of m)) (stored_at offset bytes))
  store_left handle offset bytes m = by_kind (is_shared m.kind)
    where
      by_kind : (shared : Bool)
          → F ((if shared then fwrite m.name (m.start + offset) bytes else write_copy handle offset bytes).files_left mappings)
          ((if shared then fwrite m.name (m.start + offset) bytes else write_copy handle offset bytes).files mappings old)
          ≡ by_change (through (if shared then Some (info_of m) else None) (stored_at offset bytes))
      by_kind true = refl
      by_kind false = refl

  flush_left : (look : Look) (spans : List Span) (m : Mapping)
      → F ((flush_through look spans m).files_left mappings) ((flush_through look spans m).files mappings old) ≡ by_change (through (if_shared (info_of m)) (persisted_at spans))
  flush_left look spans m = by_kind (is_shared m.kind)
    where
      by_kind : (shared : Bool)
          → F ((if shared then flush_file look m.name (all_moved m.start spans) else nothing_done).files_left mappings)
          ((if shared then flush_file look m.name (all_moved m.start spans) else nothing_done).files mappings old)
          ≡ by_change (through (if shared then Some (info_of m) else None) (persisted_at spans))
      by_kind true = refl
      by_kind false = refl

  pub left_same : (action : Action) → F ((meaning action).files_left mappings) ((meaning action).files mappings old) ≡ by_change (files_change (map uncopied mappings) action)
  left_same (BRead block count) = refl
  left_same (BWrite block bytes) = refl
  left_same (BAtomic block bytes) = refl
  left_same (BMulti ranges bytes) = refl
  left_same (BDiscard block count) = refl
  left_same (BDiscardIf block count) = refl
  left_same (BExists block) = refl
  left_same (BScar ranges) = refl
  left_same (VLoad offset len) = refl
  left_same (VStore offset bytes) = refl
  left_same (VSync offset len) = refl
  left_same VRanges = refl
  left_same (VPSync address len) = refl
  left_same (VDiscard page count) = refl
  left_same (VDiscardIf page count) = refl
  left_same (VExists page) = refl
  left_same (Create name pages) = refl
  left_same (Delete name) = refl
  left_same (Rename name to) = refl
  left_same (Resize name pages) = refl
  left_same ListFiles = refl
  left_same (FRead name offset len) = refl
  left_same (FWrite name offset bytes) = refl
  left_same (FAtomic name offset bytes) = refl
  left_same (FMulti name ranges bytes) = refl
  left_same (FDiscard name page count) = refl
  left_same (FSync name) = refl
  left_same (Map name span kind) = refl
  left_same (Unmap handle) = refl
  left_same (Load handle offset len) = load_left handle offset len
  left_same (Store handle offset bytes) = by_mapping handle (store_through handle offset bytes) (stored_at offset bytes) (store_left handle offset bytes)
  left_same (Sync handle offset len) = by_mapping handle (flush_through Once (record { start = offset; len = len } ∷ [])) (persisted_at (record { start = offset; len = len } ∷ [])) (flush_left Once (record { start = offset; len = len } ∷ []))
  left_same (Flush handle spans) = by_mapping handle (flush_through Once spans) (persisted_at spans) (flush_left Once spans)
  left_same (FlushVerify handle spans) = by_mapping handle (flush_through Again spans) (persisted_at spans) (flush_left Again spans)
  left_same (DeepFlush handle spans) = by_mapping handle (flush_through Once spans) (persisted_at spans) (flush_left Once spans)
  left_same NextEvent = refl
  left_same (CheckFile name offset len) = refl
  left_same (PoisonBlock block line) = refl
  left_same (PoisonVolume offset) = refl
  left_same (PoisonFile name offset) = sym (quiet (files_changed (files_change (map uncopied mappings) (PoisonFile name offset)) old))
  left_same (PoisonMeta line) = refl
  left_same (WeakenFile name offset) = sym (quiet (files_changed (files_change (map uncopied mappings) (WeakenFile name offset)) old))
  left_same (WeakenVolume offset) = refl
  left_same (ClearFile name offset) = refl
  left_same (ClearVolume offset) = refl
  left_same Cut = refl
  left_same (CutIn calls) = refl
  left_same (FailIn calls) = refl
  left_same (Restart choice) = refl
  left_same Recover = refl
  left_same (Attr name) = refl
  left_same (Evict lines) = refl

-- whether reads may be answered so
pub left_by_command : (reads : List FileRead) (old : List File) (mappings : List Mapping) (action : Action)
    → files_pass ((meaning action).files_left mappings) reads old ((meaning action).files mappings old)
    ≡ files_pass (left_by (files_change (map uncopied mappings) action)) reads old (files_changed (files_change (map uncopied mappings) action) old)
left_by_command reads old mappings action = left_same (λ left to. files_pass left reads old to) old (λ to. refl) mappings action
