-- Commands of which a cut inside leaves lines, blocks or files old or new are work on the device.
use Rattle.std.proofs.Common.{◌≡◌, ◌⊎◌, inl, inr, if◌then◌else◌, ℕ, ◌+◌, Bool, true, false, Option, None, Some, List, [], ◌∷◌, map, refl, ap, ◌∙◌}
use Rattle.nvm_base.specs.declared.units.Span.{Span}
use Rattle.nvm_model.specs.Mappings.{is_shared, mapping_of}
use Rattle.nvm_model.specs.Storage.{Mapping}
use Rattle.mappings.specs.declared.info.MapInfo.{MapInfo}
use Rattle.mappings.specs.Object.{info_of}
use Rattle.script_text.specs.Action.{Action}
use Rattle.script_text.specs.Action.Action.{BRead, BWrite, BAtomic, BMulti, BDiscard, BDiscardIf, BExists, BScar, VLoad, VStore, VSync, VRanges, VPSync, VDiscard, VDiscardIf, VExists, Create, Delete, Rename, Resize, ListFiles, FRead, FWrite, FAtomic, FMulti, FDiscard, FSync, Map, Unmap, Load, Store, Sync, Flush, FlushVerify, DeepFlush, NextEvent, CheckFile, PoisonBlock, PoisonVolume, PoisonFile, PoisonMeta, WeakenFile, WeakenVolume, ClearFile, ClearVolume, Cut, CutIn, FailIn, Restart, Recover, Attr, Evict}
use Rattle.reply_text.specs.Answer.{Answer}
use Rattle.reply_text.specs.Answer.Answer.{Done}
use Rattle.sights.specs.MachineModel.declared.look.Look.{Look}
use Rattle.sights.specs.MachineModel.declared.look.Look.TheVariants.{Once, Again}
use Rattle.sights.specs.MachineModel.Machine.{Fate, Machine}
use Rattle.sights.specs.MachineModel.Machine.Fate.{Gives, Works}
use Rattle.sights.specs.MachineModel.Commands.{meaning}
use Rattle.sights.specs.MachineModel.Meaning.{Meaning}
use Rattle.sights.specs.MachineModel.Meaning.FilesLeft.{Unchanged}
use Rattle.sights.specs.MachineModel.OnFlushes.{all_moved, flush_file, flush_through, nothing_done}
use Rattle.sights.specs.MachineModel.OnMappings.{store_through, write_copy}
use Rattle.sights.specs.MachineModel.OnPages.{fwrite}
use Rattle.sights.specs.Outcomes.Files.{FileRead}
use Rattle.sights.specs.Ways.{blocks_way, lines_way}
use Rattle.cut_places.specs.FileChanges.{FilesChange, LinesChange, left_by}
use Rattle.cut_places.specs.FileChanges.FilesChange.{Nothing, Makes, Removes, Renames, Resizes, Changes, Maps, Unmaps}
use Rattle.cut_places.specs.FileChanges.LinesChange.{Puts, Persists, Rewrites, Zeroes, Loses, Weakens, Clears}
use Rattle.cut_places.specs.FileCommands.{files_change, persisted_at, stored_at, through}
use Rattle.cut_places.specs.FileFitting.{fit_inside, fit_now}
use Rattle.cut_places.specs.Maps.{if_shared, shown, uncopied}
use Rattle.cut_places.specs.FilesState.{FilesState}
use Rattle.cut_places.proofs.CommandLemmas.{shown_by}

pub record IsWorkAs (came : Fate) : Type 0 where
  pub answer : Answer
  pub to : Machine
  pub is : came ≡ Works answer to

abbrev pub IsWork : Machine → Action → Type 0
IsWork h action = IsWorkAs ((meaning action).comes h)

pub record ChangesNone (h : Machine) (action : Action) : Type 0 where
  pub lines : lines_way action ≡ None
  pub blocks : blocks_way action ≡ None
  pub files : left_by (files_change (map uncopied h.mappings) action) ≡ Unchanged

-- where a cut inside leaves files as they are, they fit as they do now
pub unchanged_fits : (change : FilesChange) (reads : List FileRead) (s : FilesState) → left_by change ≡ Unchanged → fit_inside change reads s ≡ fit_now reads s
unchanged_fits Nothing reads s is = refl
unchanged_fits (Makes name pages) reads s is = cc is
unchanged_fits (Removes name) reads s is = cc is
unchanged_fits (Renames name to) reads s is = cc is
unchanged_fits (Resizes name pages) reads s is = cc is
unchanged_fits (Changes name (Puts at bytes)) reads s is = cc is
unchanged_fits (Changes name (Persists spans)) reads s is = cc is
unchanged_fits (Changes name (Rewrites ranges bytes)) reads s is = cc is
unchanged_fits (Changes name (Zeroes page count)) reads s is = cc is
unchanged_fits (Changes name (Loses line)) reads s is = refl
unchanged_fits (Changes name (Weakens line)) reads s is = refl
unchanged_fits (Changes name (Clears line)) reads s is = cc is
unchanged_fits (Maps name span kind) reads s is = refl
unchanged_fits (Unmaps handle) reads s is = refl

module _ (h : Machine) where
  -- a command by handle
  by_mapping : (handle : ℕ) (of : Mapping → Meaning) (change : MapInfo → LinesChange)
      → ((m : Mapping) → IsWorkAs ((of m).comes h) ⊎ (left_by (through (if_shared (info_of m)) change) ≡ Unchanged))
      → IsWorkAs (elim (mapping_of handle h.mappings) [ None ↦ Gives Done h | Some m ↦ (of m).comes h ]) ⊎ (left_by (through (shown handle (map uncopied h.mappings)) change) ≡ Unchanged)
  by_mapping handle of change each = by_found (mapping_of handle h.mappings) refl
    where
      by_kind : (m : Mapping) → mapping_of handle h.mappings ≡ Some m → IsWorkAs ((of m).comes h) ⊎ (left_by (through (if_shared (info_of m)) change) ≡ Unchanged)
          → IsWorkAs ((of m).comes h) ⊎ (left_by (through (shown handle (map uncopied h.mappings)) change) ≡ Unchanged)
      by_kind m is (inl work) = inl work
      by_kind m is (inr none) = inr (ap (λ s. left_by (through s change)) (shown_by handle h.mappings (Some m) is) ∙ none)

      by_found : (o : Option Mapping) → mapping_of handle h.mappings ≡ o
          → IsWorkAs (elim o [ None ↦ Gives Done h | Some m ↦ (of m).comes h ]) ⊎ (left_by (through (shown handle (map uncopied h.mappings)) change) ≡ Unchanged)
      by_found None is = inr (ap (λ s. left_by (through s change)) (shown_by handle h.mappings None is))
      by_found (Some m) is = by_kind m is (each m)

  store_work : (handle offset : ℕ) (bytes : List ℕ) (m : Mapping)
      → IsWorkAs ((store_through handle offset bytes m).comes h) ⊎ (left_by (through (if_shared (info_of m)) (stored_at offset bytes)) ≡ Unchanged)
  store_work handle offset bytes m = by_kind (is_shared m.kind)
    where
      by_kind : (shared : Bool) → IsWorkAs ((if shared then fwrite m.name (m.start + offset) bytes else write_copy handle offset bytes).comes h)
          ⊎ (left_by (through (if shared then Some (info_of m) else None) (stored_at offset bytes)) ≡ Unchanged)
      by_kind true = inl (record { answer = _; to = _; is = refl })
      by_kind false = inr refl

  flush_work : (look : Look) (spans : List Span) (m : Mapping)
      → IsWorkAs ((flush_through look spans m).comes h) ⊎ (left_by (through (if_shared (info_of m)) (persisted_at spans)) ≡ Unchanged)
  flush_work look spans m = by_kind (is_shared m.kind)
    where
      by_kind : (shared : Bool) → IsWorkAs ((if shared then flush_file look m.name (all_moved m.start spans) else nothing_done).comes h)
          ⊎ (left_by (through (if shared then Some (info_of m) else None) (persisted_at spans)) ≡ Unchanged)
      by_kind true = inl (record { answer = _; to = _; is = refl })
      by_kind false = inr refl

  -- on files alone
  of_files : (action : Action) → lines_way action ≡ None → blocks_way action ≡ None → IsWork h action ⊎ (left_by (files_change (map uncopied h.mappings) action) ≡ Unchanged)
      → IsWork h action ⊎ ChangesNone h action
  of_files action lines blocks (inl work) = inl work
  of_files action lines blocks (inr none) = inr (record { lines = lines; blocks = blocks; files = none })

pub works_or_none : (h : Machine) (action : Action) → IsWork h action ⊎ ChangesNone h action
works_or_none h (BRead block count) = inr (record { lines = refl; blocks = refl; files = refl })
works_or_none h (BWrite block bytes) = inl (record { answer = _; to = _; is = refl })
works_or_none h (BAtomic block bytes) = inl (record { answer = _; to = _; is = refl })
works_or_none h (BMulti ranges bytes) = inl (record { answer = _; to = _; is = refl })
works_or_none h (BDiscard block count) = inl (record { answer = _; to = _; is = refl })
works_or_none h (BDiscardIf block count) = inl (record { answer = _; to = _; is = refl })
works_or_none h (BExists block) = inr (record { lines = refl; blocks = refl; files = refl })
works_or_none h (BScar ranges) = inl (record { answer = _; to = _; is = refl })
works_or_none h (VLoad offset len) = inr (record { lines = refl; blocks = refl; files = refl })
works_or_none h (VStore offset bytes) = inl (record { answer = _; to = _; is = refl })
works_or_none h (VSync offset len) = inl (record { answer = _; to = _; is = refl })
works_or_none h VRanges = inr (record { lines = refl; blocks = refl; files = refl })
works_or_none h (VPSync address len) = inl (record { answer = _; to = _; is = refl })
works_or_none h (VDiscard page count) = inl (record { answer = _; to = _; is = refl })
works_or_none h (VDiscardIf page count) = inl (record { answer = _; to = _; is = refl })
works_or_none h (VExists page) = inr (record { lines = refl; blocks = refl; files = refl })
works_or_none h (Create name pages) = inl (record { answer = _; to = _; is = refl })
works_or_none h (Delete name) = inl (record { answer = _; to = _; is = refl })
works_or_none h (Rename name to) = inl (record { answer = _; to = _; is = refl })
works_or_none h (Resize name pages) = inl (record { answer = _; to = _; is = refl })
works_or_none h ListFiles = inr (record { lines = refl; blocks = refl; files = refl })
works_or_none h (FRead name offset len) = inr (record { lines = refl; blocks = refl; files = refl })
works_or_none h (FWrite name offset bytes) = inl (record { answer = _; to = _; is = refl })
works_or_none h (FAtomic name offset bytes) = inl (record { answer = _; to = _; is = refl })
works_or_none h (FMulti name ranges bytes) = inl (record { answer = _; to = _; is = refl })
works_or_none h (FDiscard name page count) = inl (record { answer = _; to = _; is = refl })
works_or_none h (FSync name) = inl (record { answer = _; to = _; is = refl })
works_or_none h (Map name span kind) = inr (record { lines = refl; blocks = refl; files = refl })
works_or_none h (Unmap handle) = inr (record { lines = refl; blocks = refl; files = refl })
works_or_none h (Load handle offset len) = inr (record { lines = refl; blocks = refl; files = refl })
works_or_none h (Store handle offset bytes) = of_files h (Store handle offset bytes) refl refl (by_mapping h handle (store_through handle offset bytes) (stored_at offset bytes) (store_work h handle offset bytes))
works_or_none h (Sync handle offset len) = of_files h (Sync handle offset len) refl refl (by_mapping h handle (flush_through Once (record { start = offset; len = len } ∷ [])) (persisted_at (record { start = offset; len = len } ∷ [])) (flush_work h Once (record { start = offset; len = len } ∷ [])))
works_or_none h (Flush handle spans) = of_files h (Flush handle spans) refl refl (by_mapping h handle (flush_through Once spans) (persisted_at spans) (flush_work h Once spans))
works_or_none h (FlushVerify handle spans) = of_files h (FlushVerify handle spans) refl refl (by_mapping h handle (flush_through Again spans) (persisted_at spans) (flush_work h Again spans))
works_or_none h (DeepFlush handle spans) = of_files h (DeepFlush handle spans) refl refl (by_mapping h handle (flush_through Once spans) (persisted_at spans) (flush_work h Once spans))
works_or_none h NextEvent = inr (record { lines = refl; blocks = refl; files = refl })
works_or_none h (CheckFile name offset len) = inr (record { lines = refl; blocks = refl; files = refl })
works_or_none h (PoisonBlock block line) = inr (record { lines = refl; blocks = refl; files = refl })
works_or_none h (PoisonVolume offset) = inr (record { lines = refl; blocks = refl; files = refl })
works_or_none h (PoisonFile name offset) = inr (record { lines = refl; blocks = refl; files = refl })
works_or_none h (PoisonMeta line) = inr (record { lines = refl; blocks = refl; files = refl })
works_or_none h (WeakenFile name offset) = inr (record { lines = refl; blocks = refl; files = refl })
works_or_none h (WeakenVolume offset) = inr (record { lines = refl; blocks = refl; files = refl })
works_or_none h (ClearFile name offset) = inl (record { answer = _; to = _; is = refl })
works_or_none h (ClearVolume offset) = inl (record { answer = _; to = _; is = refl })
works_or_none h Cut = inr (record { lines = refl; blocks = refl; files = refl })
works_or_none h (CutIn calls) = inr (record { lines = refl; blocks = refl; files = refl })
works_or_none h (FailIn calls) = inr (record { lines = refl; blocks = refl; files = refl })
works_or_none h (Restart choice) = inr (record { lines = refl; blocks = refl; files = refl })
works_or_none h Recover = inr (record { lines = refl; blocks = refl; files = refl })
works_or_none h (Attr name) = inr (record { lines = refl; blocks = refl; files = refl })
works_or_none h (Evict lines) = inr (record { lines = refl; blocks = refl; files = refl })
