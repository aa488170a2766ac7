-- What a command that is done makes of files and mappings, and what a cut inside it leaves of files.
use Rattle.std.proofs.Common.{◌≡◌, if◌then◌else◌, ℕ, ◌+◌, ◌/◌, ◌<◌, ◌≤◌, ◌^◌, ◌==◌, ◌||◌, ◌++◌, nat_lt, Bool, true, false, cond, not, Option, Some, None, option_and_then, option_map, List, [], ◌∷◌, length, map, refl, sym, ap, subst, ◌∙◌, arith}
use Rattle.std.proofs.lemmas.List.{map-append}
use Rattle.nvm_base.specs.declared.files.Kind.{Kind}
use Rattle.nvm_base.specs.declared.units.Span.{Span}
use Rattle.nvm_model.specs.Blocks.{first_there}
use Rattle.nvm_model.specs.Listing.{file_name, file_of, has_file}
use Rattle.nvm_model.specs.Mappings.{change_copy, has_handle, is_shared, mapping_of, new_mapping, without_mapping}
use Rattle.nvm_model.specs.Page.{cell_of}
use Rattle.nvm_model.specs.Storage.{File, Mapping}
use Rattle.mappings.specs.declared.info.MapInfo.{MapInfo}
use Rattle.mappings.specs.Object.{MappingsState, info_of}
use Rattle.marked_lines.specs.Refusals.{file_clear_refusal, file_refusal}
use Rattle.reply_text.specs.declared.reply.Why.TheVariants as because
use Rattle.reply_text.specs.Answer.Answer.{Done, Handle, Refused}
use Rattle.script_text.specs.Action.{Action}
use Rattle.script_text.specs.Action.Action.{BRead, BWrite, BAtomic, BMulti, BDiscard, BDiscardIf, BExists, BScar, VLoad, VStore, VSync, VRanges, VPSync, VDiscard, VDiscardIf, VExists, Create, Delete, Rename, Resize, ListFiles, FRead, FWrite, FAtomic, FMulti, FDiscard, FSync, Map, Unmap, Load, Store, Sync, Flush, FlushVerify, DeepFlush, NextEvent, CheckFile, PoisonBlock, PoisonVolume, PoisonFile, PoisonMeta, WeakenFile, WeakenVolume, ClearFile, ClearVolume, Cut, CutIn, FailIn, Restart, Recover, Attr, Evict}
use Rattle.sights.specs.MachineModel.declared.look.Look.{Look}
use Rattle.sights.specs.MachineModel.declared.look.Look.TheVariants.{Once, Again}
use Rattle.sights.specs.MachineModel.Commands.{meaning, refusal}
use Rattle.sights.specs.MachineModel.Machine.{Machine}
use Rattle.sights.specs.MachineModel.Machine.Fate.{Gives, Works}
use Rattle.sights.specs.MachineModel.Meaning.{Meaning, metadata_refusal, mode_refusal}
use Rattle.sights.specs.MachineModel.OnFiles.{if_exists, if_mapped, if_missing}
use Rattle.sights.specs.MachineModel.OnFlushes.{all_moved, flush_file, flush_through, nothing_done}
use Rattle.sights.specs.MachineModel.OnMappings.{if_full_of_mappings, load_through, read_copy, store_through, with_mapping, write_copy}
use Rattle.sights.specs.MachineModel.OnMedia.{line_answer}
use Rattle.sights.specs.MachineModel.OnPages.{fread, fwrite, pages_named}
use Rattle.sights.specs.Outcomes.Stops.{led_to}
use Rattle.sights.proofs.VolumeChangeLemmas.{bad_found, line_found as cell_found, none_first, none_mapped, none_second, places_right}
use Rattle.cut_places.specs.FileChanges.{FilesChange, LinesChange, files_changed}
use Rattle.cut_places.specs.FileChanges.FilesChange.{Nothing, Makes, Removes, Renames, Resizes, Changes, Maps, Unmaps}
use Rattle.cut_places.specs.FileChanges.LinesChange.{Puts, Persists, Rewrites, Zeroes, Loses, Weakens, Clears}
use Rattle.cut_places.specs.FileCommands.{files_change, persisted_at, stored_at, through}
use Rattle.cut_places.specs.Maps.{if_shared, shown, uncopied}
use Rattle.cut_places.specs.FilesState.{mappings_after}
use Rattle.cut_places.proofs.HeldLemmas.{MayChange}
use Rattle.cut_places.proofs.PageChangeLemmas.{IsThere}

-- mappings without their copies
found_uncopied : (handle : ℕ) (ms : List Mapping) → mapping_of handle (map uncopied ms) ≡ option_map uncopied (mapping_of handle ms)
found_uncopied handle [] = refl
found_uncopied handle (m ∷ ms) = by_test (has_handle handle m) (found_uncopied handle ms)
  where
    by_test : (b : Bool) → mapping_of handle (map uncopied ms) ≡ option_map uncopied (mapping_of handle ms)
        → cond b (Some (uncopied m)) (mapping_of handle (map uncopied ms)) ≡ option_map uncopied (cond b (Some m) (mapping_of handle ms))
    by_test true later = refl
    by_test false later = later

without_uncopied : (handle : ℕ) (ms : List Mapping) → map uncopied (without_mapping handle ms) ≡ without_mapping handle (map uncopied ms)
without_uncopied handle [] = refl
without_uncopied handle (m ∷ ms) = by_test (has_handle handle m) (without_uncopied handle ms)
  where
    by_test : (b : Bool) → map uncopied (without_mapping handle ms) ≡ without_mapping handle (map uncopied ms)
        → map uncopied (cond (not b) (m ∷ without_mapping handle ms) (without_mapping handle ms)) ≡ cond (not b) (uncopied m ∷ without_mapping handle (map uncopied ms)) (without_mapping handle (map uncopied ms))
    by_test true later = later
    by_test false later = ap (λ xs. uncopied m ∷ xs) later

copies_gone : (handle : ℕ) (f : List ℕ → List ℕ) (ms : List Mapping) → map uncopied (change_copy handle f ms) ≡ map uncopied ms
copies_gone handle f [] = refl
copies_gone handle f (m ∷ ms) = ap (λ xs. uncopied m ∷ xs) (copies_gone handle f ms)

-- what a handle shows
pub shown_by : (handle : ℕ) (ms : List Mapping) (o : Option Mapping) → mapping_of handle ms ≡ o → shown handle (map uncopied ms) ≡ option_and_then if_shared (option_map info_of o)
shown_by handle ms o is = ap (λ p. option_and_then if_shared (option_map info_of p)) (found_uncopied handle ms ∙ ap (option_map uncopied) is) ∙ by_found o
  where
    by_found : (o : Option Mapping) → option_and_then if_shared (option_map info_of (option_map uncopied o)) ≡ option_and_then if_shared (option_map info_of o)
    by_found None = refl
    by_found (Some m) = refl

-- the mappings of a state as they are held
abbrev pub maps_of : Machine → MappingsState
maps_of h = record { mappings = map uncopied h.mappings; next = h.next_handle }

-- A state to which a change of another leads, and that can be made there.
pub record Follows (h to : Machine) (change : FilesChange) : Type 0 where
  pub may : MayChange change h.files
  pub files : to.files ≡ files_changed change h.files
  pub maps : maps_of to ≡ mappings_after change (maps_of h)
  pub handles : to.next_handle ≤ 2 ^ 32

-- What refuses: something that is named.
named_right : (h : Machine) (action : Action) → refusal h action ≡ None → ((meaning action).reasons h).named ≡ None
unfolding refusal
named_right h action allowed =
    let r = (meaning action).reasons h in
    none_first r.named (first_there r.places (first_there r.full (first_there (metadata_refusal r.changes_metadata h.bad_meta) r.unreadable)))
    (none_second (mode_refusal h.mode h.bad_meta (meaning action).needs) _ allowed)

no_such_file : (name : List ℕ) (files : List File) → if_exists name files ≡ None → has_file file_name name files ≡ false
no_such_file name files none = by_test (has_file file_name name files) none
  where
    by_test : (b : Bool) → cond b (Some (Refused because.Exists)) None ≡ None → b ≡ false
    by_test true is = cc is
    by_test false is = refl

module _ (h : Machine) (small : h.next_handle ≤ 2 ^ 32) where
  kept : (to : Machine) → to.files ≡ h.files → to.mappings ≡ h.mappings → to.next_handle ≡ h.next_handle → Follows h to Nothing
  kept to files mappings next = record {
    may = tt;
    files = files;
    maps = ap (λ ms. record { mappings = map uncopied ms; next = to.next_handle }) mappings ∙ ap (λ n. record { mappings = map uncopied h.mappings; next = n }) next;
    handles = omega (arith, next, small);
  }

  changed : (change : FilesChange) (to : Machine) → MayChange change h.files → to.files ≡ files_changed change h.files → maps_of to ≡ mappings_after change (maps_of h) → to.next_handle ≡ h.next_handle → Follows h to change
  changed change to may files maps next = record { may = may; files = files; maps = maps; handles = omega (arith, next, small) }

  there_in : (name : List ℕ) (n : ℕ) → IsThere (pages_named name h.files) n → (y : File) → file_of file_name name h.files ≡ Some y → IsThere y.pages n
  there_in name n there y is = subst (λ (o : Option File). IsThere (elim o [ None ↦ [] | Some file ↦ file.pages ]) n) is there

  marked : (action : Action) (name : List ℕ) (offset : ℕ) → ((meaning action).reasons h).places ≡ option_map line_answer (file_refusal (pages_named name h.files) offset) → refusal h action ≡ None
      → (y : File) → file_of file_name name h.files ≡ Some y → IsThere y.pages (offset / 64)
  marked action name offset is allowed =
      there_in name (offset / 64)
      (cell_found _ (cell_of (pages_named name h.files) (offset / 64)) (none_mapped line_answer (file_refusal (pages_named name h.files) offset) (sym is ∙ places_right h action allowed)))

  cleared : (name : List ℕ) (offset : ℕ) → refusal h (ClearFile name offset) ≡ None → (y : File) → file_of file_name name h.files ≡ Some y → IsThere y.pages (offset / 64)
  cleared name offset allowed =
      there_in name (offset / 64)
      (bad_found _ (cell_of (pages_named name h.files) (offset / 64)) (none_mapped line_answer (file_clear_refusal (pages_named name h.files) offset) (places_right h (ClearFile name offset) allowed)))

  -- a mapping more
  below_last : (name : List ℕ) (span : Span) (kind : Kind) → refusal h (Map name span kind) ≡ None → h.next_handle < 2 ^ 32
  below_last name span kind allowed = by_test (length h.mappings == 256) (h.next_handle == 4294967296) refl (none_second _ (if_full_of_mappings h) (places_right h (Map name span kind) allowed))
    where
      by_test : (a b : Bool) → (h.next_handle == 4294967296) ≡ b → cond (a || b) (Some (Refused because.Limit)) None ≡ None → h.next_handle < 2 ^ 32
      by_test true b is none = cc none
      by_test false true is none = cc none
      by_test false false is none = grind (arith, small)

  maps : (name : List ℕ) (span : Span) (kind : Kind) → refusal h (Map name span kind) ≡ None
      → Follows h (led_to h ((meaning (Map name span kind)).comes h)) (Maps name span kind)
  maps name span kind allowed = by_kind (is_shared kind)
    where
      low : h.next_handle < 2 ^ 32
      low = below_last name span kind allowed

      made : Follows h (with_mapping name span kind h) (Maps name span kind)
      made = record {
        may = tt;
        files = refl;
        maps = ap (λ ms. record { mappings = ms; next = h.next_handle + 1 }) (map-append uncopied h.mappings (new_mapping h.next_handle name span kind (pages_named name h.files) ∷ []))
            ∙ by_room (nat_lt h.next_handle (2 ^ 32)) refl;
        handles = omega (arith, low);
      }
        where
          more : MappingsState
          more = record { mappings = map uncopied h.mappings ++ record { handle = h.next_handle; name = name; start = span.start; len = span.len; kind = kind; copy = [] } ∷ []; next = h.next_handle + 1 }

          by_room : (b : Bool) → nat_lt h.next_handle (2 ^ 32) ≡ b → more ≡ cond b more (maps_of h)
          by_room true room = refl
          by_room false none = absurd (grind (arith, low))

      by_kind : (shared : Bool) → Follows h (led_to h (if shared then Gives (Handle h.next_handle) (with_mapping name span kind h) else Works (Handle h.next_handle) (with_mapping name span kind h))) (Maps name span kind)
      by_kind true = made
      by_kind false = made

  -- A command by handle is what it is on its mapping.
  by_mapping : (handle : ℕ) (of : Mapping → Meaning) (change : MapInfo → LinesChange)
      → ((m : Mapping) → Follows h (led_to h ((of m).comes h)) (through (if_shared (info_of m)) change))
      → Follows h (led_to h (elim (mapping_of handle h.mappings) [ None ↦ Gives Done h | Some m ↦ (of m).comes h ])) (through (shown handle (map uncopied h.mappings)) change)
  by_mapping handle of change each = by_found (mapping_of handle h.mappings) refl
    where
      by_found : (o : Option Mapping) → mapping_of handle h.mappings ≡ o
          → Follows h (led_to h (elim o [ None ↦ Gives Done h | Some m ↦ (of m).comes h ])) (through (shown handle (map uncopied h.mappings)) change)
      by_found None is = subst (λ s. Follows h h (through s change)) (sym (shown_by handle h.mappings None is)) (kept h refl refl refl)
      by_found (Some m) is = subst (λ s. Follows h (led_to h ((of m).comes h)) (through s change)) (sym (shown_by handle h.mappings (Some m) is)) (each m)

  load_follows : (handle offset len : ℕ) → Follows h (led_to h ((meaning (Load handle offset len)).comes h)) Nothing
  load_follows handle offset len = by_found (mapping_of handle h.mappings)
    where
      by_kind : (m : Mapping) (shared : Bool) → Follows h (led_to h ((if shared then fread m.name (m.start + offset) len else read_copy m offset len).comes h)) Nothing
      by_kind m true = kept _ refl refl refl
      by_kind m false = kept _ refl refl refl

      by_found : (o : Option Mapping) → Follows h (led_to h (elim o [ None ↦ Gives Done h | Some m ↦ (load_through offset len m).comes h ])) Nothing
      by_found None = kept h refl refl refl
      by_found (Some m) = by_kind m (is_shared m.kind)

  store_follows : (handle offset : ℕ) (bytes : List ℕ) (m : Mapping) → Follows h (led_to h ((store_through handle offset bytes m).comes h)) (through (if_shared (info_of m)) (stored_at offset bytes))
  store_follows handle offset bytes m = by_kind (is_shared m.kind)
    where
      by_kind : (shared : Bool)
          → Follows h (led_to h ((if shared then fwrite m.name (m.start + offset) bytes else write_copy handle offset bytes).comes h)) (through (if shared then Some (info_of m) else None) (stored_at offset bytes))
      by_kind true = changed (Changes m.name (Puts (m.start + offset) bytes)) _ (λ y is. tt) refl refl refl
      by_kind false = record { may = tt; files = refl; maps = ap (λ ms. record { mappings = ms; next = h.next_handle }) (copies_gone handle _ h.mappings); handles = small }

  flush_follows : (look : Look) (spans : List Span) (m : Mapping) → Follows h (led_to h ((flush_through look spans m).comes h)) (through (if_shared (info_of m)) (persisted_at spans))
  flush_follows look spans m = by_kind (is_shared m.kind)
    where
      by_kind : (shared : Bool)
          → Follows h (led_to h ((if shared then flush_file look m.name (all_moved m.start spans) else nothing_done).comes h)) (through (if shared then Some (info_of m) else None) (persisted_at spans))
      by_kind true = changed (Changes m.name (Persists (all_moved m.start spans))) _ (λ y is. tt) refl refl refl
      by_kind false = kept _ refl refl refl

  flushes : (look : Look) (handle : ℕ) (spans : List Span)
      → Follows h (led_to h (elim (mapping_of handle h.mappings) [ None ↦ Gives Done h | Some m ↦ (flush_through look spans m).comes h ])) (through (shown handle (map uncopied h.mappings)) (persisted_at spans))
  flushes look handle spans = by_mapping handle (flush_through look spans) (persisted_at spans) (flush_follows look spans)

  pub command_follows : (action : Action) → refusal h action ≡ None → Follows h (led_to h ((meaning action).comes h)) (files_change (map uncopied h.mappings) action)
  command_follows (BRead block count) allowed = kept _ refl refl refl
  command_follows (BWrite block bytes) allowed = kept _ refl refl refl
  command_follows (BAtomic block bytes) allowed = kept _ refl refl refl
  command_follows (BMulti ranges bytes) allowed = kept _ refl refl refl
  command_follows (BDiscard block count) allowed = kept _ refl refl refl
  command_follows (BDiscardIf block count) allowed = kept _ refl refl refl
  command_follows (BExists block) allowed = kept _ refl refl refl
  command_follows (BScar ranges) allowed = kept _ refl refl refl
  command_follows (VLoad offset len) allowed = kept _ refl refl refl
  command_follows (VStore offset bytes) allowed = kept _ refl refl refl
  command_follows (VSync offset len) allowed = kept _ refl refl refl
  command_follows VRanges allowed = kept _ refl refl refl
  command_follows (VPSync address len) allowed = kept _ refl refl refl
  command_follows (VDiscard page count) allowed = kept _ refl refl refl
  command_follows (VDiscardIf page count) allowed = kept _ refl refl refl
  command_follows (VExists page) allowed = kept _ refl refl refl
  command_follows (Create name pages) allowed = changed (Makes name pages) _ (no_such_file name h.files (named_right h (Create name pages) allowed)) refl refl refl
  command_follows (Delete name) allowed = changed (Removes name) _ tt refl refl refl
  command_follows (Rename name to) allowed = changed (Renames name to) _ (no_such_file to h.files (none_first (if_exists to h.files) (if_mapped name h.mappings) (none_second (if_missing name h.files) _ (named_right h (Rename name to) allowed)))) refl refl refl
  command_follows (Resize name pages) allowed = changed (Resizes name pages) _ tt refl refl refl
  command_follows ListFiles allowed = kept _ refl refl refl
  command_follows (FRead name offset len) allowed = kept _ refl refl refl
  command_follows (FWrite name offset bytes) allowed = changed (Changes name (Puts offset bytes)) _ (λ y is. tt) refl refl refl
  command_follows (FAtomic name offset bytes) allowed = changed (Changes name (Rewrites (record { start = offset; len = length bytes } ∷ []) bytes)) _ (λ y is. tt) refl refl refl
  command_follows (FMulti name ranges bytes) allowed = changed (Changes name (Rewrites ranges bytes)) _ (λ y is. tt) refl refl refl
  command_follows (FDiscard name page count) allowed = changed (Changes name (Zeroes page count)) _ (λ y is. tt) refl refl refl
  command_follows (FSync name) allowed = changed (files_change (map uncopied h.mappings) (FSync name)) _ (λ y is. tt) refl refl refl
  command_follows (Map name span kind) allowed = maps name span kind allowed
  command_follows (Unmap handle) allowed = changed (Unmaps handle) _ tt refl (ap (λ ms. record { mappings = ms; next = h.next_handle }) (without_uncopied handle h.mappings)) refl
  command_follows (Load handle offset len) allowed = load_follows handle offset len
  command_follows (Store handle offset bytes) allowed = by_mapping handle (store_through handle offset bytes) (stored_at offset bytes) (store_follows handle offset bytes)
  command_follows (Sync handle offset len) allowed = flushes Once handle (record { start = offset; len = len } ∷ [])
  command_follows (Flush handle spans) allowed = flushes Once handle spans
  command_follows (FlushVerify handle spans) allowed = flushes Again handle spans
  command_follows (DeepFlush handle spans) allowed = flushes Once handle spans
  command_follows NextEvent allowed = kept _ refl refl refl
  command_follows (CheckFile name offset len) allowed = kept _ refl refl refl
  command_follows (PoisonBlock block line) allowed = kept _ refl refl refl
  command_follows (PoisonVolume offset) allowed = kept _ refl refl refl
  command_follows (PoisonFile name offset) allowed = changed (Changes name (Loses (offset / 64))) _ (marked (PoisonFile name offset) name offset refl allowed) refl refl refl
  command_follows (PoisonMeta line) allowed = kept _ refl refl refl
  command_follows (WeakenFile name offset) allowed = changed (Changes name (Weakens (offset / 64))) _ (marked (WeakenFile name offset) name offset refl allowed) refl refl refl
  command_follows (WeakenVolume offset) allowed = kept _ refl refl refl
  command_follows (ClearFile name offset) allowed = changed (Changes name (Clears (offset / 64))) _ (cleared name offset allowed) refl refl refl
  command_follows (ClearVolume offset) allowed = kept _ refl refl refl
  command_follows Cut allowed = kept _ refl refl refl
  command_follows (CutIn calls) allowed = kept _ refl refl refl
  command_follows (FailIn calls) allowed = kept _ refl refl refl
  command_follows (Restart choice) allowed = kept _ refl refl refl
  command_follows Recover allowed = kept _ refl refl refl
  command_follows (Attr name) allowed = kept _ refl refl refl
  command_follows (Evict lines) allowed = kept _ refl refl refl
