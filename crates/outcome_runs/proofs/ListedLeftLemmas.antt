-- Files stay listed wherever a command that changes them is interrupted.
use Rattle.std.proofs.Common.{◌≡◌, inl, inr, ℕ, ◌+◌, ◌≤◌, Bool, true, false, cond, Option, Some, None, List, [], ◌∷◌, length, refl, sym, ap, subst, ◌∙◌, if◌then◌else◌, arith}
use Rattle.std.specs.Bool.{Decides}
use Rattle.std.proofs.lemmas.Bool.{both_ways}
use Rattle.std.proofs.lemmas.Slice.Eq.{bytes_eq-Decides}
use Rattle.nvm_base.specs.declared.units.Span.{Span}
use Rattle.word_tables.specs.declared.geometry.Geometry.{Geometry}
use Rattle.nvm_model.specs.Files.{FileLeft, OneFileLeft, on_pages}
use Rattle.nvm_model.specs.Interrupted.{MayStore, MaySyncAll}
use Rattle.nvm_model.specs.Listing.{change_file, file_name, is_named}
use Rattle.nvm_model.specs.Mappings.{is_shared, mapping_of}
use Rattle.nvm_model.specs.Page.{Page, fill, put}
use Rattle.nvm_model.specs.Storage.{File, Mapping}
use Rattle.nvm_model.proofs.PageLemmas.{length-fill, presence_of-put}
use Rattle.script_text.specs.Action.{Action}
use Rattle.script_text.specs.Action.Action.{FWrite, Load, Store, Sync, Flush, FlushVerify, DeepFlush}
use Rattle.machine_model.specs.Commands.{LeavesFiles, MayLeaveFiles, meaning, refusal}
use Rattle.machine_model.specs.Machine.{Machine}
use Rattle.machine_model.specs.Meaning.{FilesLeft}
use Rattle.machine_model.specs.Meaning.FilesLeft.{Unchanged, OldOrNew, StoredInPart, SyncedInPart}
use Rattle.machine_model.specs.OnFlushes.{all_moved, flush_file, flush_through, flush_with, nothing_done}
use Rattle.machine_model.specs.OnMappings.{load_through, read_copy, store_through, write_copy}
use Rattle.machine_model.specs.OnPages.{fread, fwrite, stored_in}
use Rattle.machine_model.specs.declared.look.Look.{Look}
use Rattle.machine_model.specs.declared.look.Look.TheVariants.{Once, Again}
use Rattle.outcome_runs.specs.Brings.{BringsRight}
use Rattle.outcome_runs.specs.Kept.{AreListed}
use Rattle.outcome_runs.proofs.CountLemmas.{all_used, marked, used}
use Rattle.outcome_runs.proofs.ListedLemmas.{listed_alike, listed_fewer, used_room}
use Rattle.outcome_runs.proofs.PageUseLemmas.{used_fill}
use Rattle.outcome_runs.proofs.ListedStepLemmas.{listed_made}
use Rattle.durable.proofs.WholeLemmas.{pages-there as same_size}

stored_size : (at : ℕ) (bytes : List ℕ) (a b : List Page) → MayStore at bytes a b → length b ≡ length a
stored_size at bytes a b (inl is) = ap length is
stored_size at bytes a b (inr may) = same_size (fill at (length bytes) a) b may.there ∙ length-fill at (length bytes) a

stored_use : (at : ℕ) (bytes : List ℕ) (a b : List Page) → MayStore at bytes a b → used b ≤ used (put at bytes (fill at (length bytes) a))
stored_use at bytes a b (inl is) =
    omega (arith, ap used is, ap marked (presence_of-put at bytes (fill at (length bytes) a)), used_fill at (length bytes) a)
stored_use at bytes a b (inr may) = omega (arith, ap marked may.there, ap marked (presence_of-put at bytes (fill at (length bytes) a)))

one_size : (name : List ℕ) (R : List Page → List Page → Type 0) → ((a b : List Page) → R a b → length b ≡ length a) → (x y : File) → FileLeft name R x y → length y.pages ≡ length x.pages
one_size name R size x y left = by_test (is_named file_name name x) (bytes_eq-Decides x.name name)
  where
    by_test : (b : Bool) → Decides b (x.name ≡ name) → length y.pages ≡ length x.pages
    by_test true tells = size x.pages y.pages (left.here (tells.0 refl))
    by_test false tells = ap length (left.beside (λ is. both_ways false refl (tells.1 is)))

one_use : (name : List ℕ) (R : List Page → List Page → Type 0) (g : List Page → List Page) → ((a b : List Page) → R a b → used b ≤ used (g a)) → (old new : List File)
    → OneFileLeft name R old new → all_used new ≤ all_used (change_file file_name name (on_pages g) old)
one_use name R g fewer [] [] left = omega arith
one_use name R g fewer [] (y ∷ new) left = absurd left
one_use name R g fewer (x ∷ old) [] left = absurd left
one_use name R g fewer (x ∷ old) (y ∷ new) left =
    let head = by_test (is_named file_name name x) (bytes_eq-Decides x.name name) in omega (arith, head, one_use name R g fewer old new left.2)
  where
    by_test : (b : Bool) → Decides b (x.name ≡ name) → used y.pages ≤ used (cond b (on_pages g x) x).pages
    by_test true tells = fewer x.pages y.pages (left.1.here (tells.0 refl))
    by_test false tells = omega (arith, ap used (left.1.beside (λ is. both_ways false refl (tells.1 is))))

leaves_listed : (geo : Geometry) (kind : FilesLeft) (old to left : List File) → AreListed geo old → AreListed geo to
    → ((name : List ℕ) (at : ℕ) (bytes : List ℕ) → kind ≡ StoredInPart name at bytes → to ≡ stored_in name at bytes old) → LeavesFiles kind old to left → AreListed geo left
leaves_listed geo Unchanged old to left listed made stored is = subst (AreListed geo) (sym is) listed
leaves_listed geo OldOrNew old to left listed made stored (inl is) = subst (AreListed geo) (sym is) listed
leaves_listed geo OldOrNew old to left listed made stored (inr is) = subst (AreListed geo) (sym is) made
leaves_listed geo (StoredInPart name at bytes) old to left listed made stored may =
    let few = one_use name (MayStore at bytes) (λ pages. put at bytes (fill at (length bytes) pages)) (stored_use at bytes) old left may in
    let room = used_room geo to made in
    listed_alike (FileLeft name (MayStore at bytes)) geo old left (one_size name (MayStore at bytes) (stored_size at bytes)) may listed
    (omega (arith, few, room, ap all_used (stored name at bytes refl)))
leaves_listed geo (SyncedInPart name spans) old to left listed made stored may =
    let few = one_use name (MaySyncAll spans) (λ pages. pages) (λ a b part. omega (arith, ap marked part.there)) old left may in
    let room = used_room geo (change_file file_name name (on_pages (λ pages. pages)) old)
    (listed_fewer name (on_pages (λ pages. pages)) (λ x. refl) geo old (λ x few. few) (λ x. omega arith) listed) in
    listed_alike (FileLeft name (MaySyncAll spans)) geo old left (one_size name (MaySyncAll spans) (λ a b part. same_size a b part.there)) may listed (omega (arith, few, room))

-- a command that may store in part makes of the files what the whole store makes
same_store : (text name : List ℕ) (offset at : ℕ) (given bytes : List ℕ) (files : List File) → StoredInPart text offset given ≡ StoredInPart name at bytes
    → stored_in text offset given files ≡ stored_in name at bytes files
same_store text name offset at given bytes files is =
    let names : text ≡ name = cc is in
    let places : offset ≡ at = cc is in
    let all : given ≡ bytes = cc is in
    ap (λ (n : List ℕ). stored_in n offset given files) names ∙ ap (λ (k : ℕ). stored_in name k given files) places ∙ ap (λ (b : List ℕ). stored_in name at b files) all

flush_stores : (look : Look) (handle : ℕ) (spans : List Span) (mappings : List Mapping) (files : List File) (name : List ℕ) (at : ℕ) (bytes : List ℕ)
    → (flush_with look handle spans).files_left mappings ≡ StoredInPart name at bytes → (flush_with look handle spans).files mappings files ≡ stored_in name at bytes files
flush_stores look handle spans mappings files name at bytes = by_mapping (mapping_of handle mappings)
  where
    by_kind : (m : Mapping) (shared : Bool) → (if shared then flush_file look m.name (all_moved m.start spans) else nothing_done).files_left mappings ≡ StoredInPart name at bytes
        → (if shared then flush_file look m.name (all_moved m.start spans) else nothing_done).files mappings files ≡ stored_in name at bytes files
    by_kind m true is = cc is
    by_kind m false is = cc is

    by_mapping : (o : Option Mapping) → elim o as (λ _. FilesLeft) [ None ↦ Unchanged | Some m ↦ (flush_through look spans m).files_left mappings ] ≡ StoredInPart name at bytes
        → elim o as (λ _. List File) [ None ↦ files | Some m ↦ (flush_through look spans m).files mappings files ] ≡ stored_in name at bytes files
    by_mapping None is = cc is
    by_mapping (Some m) is = by_kind m (is_shared m.kind) is

stores : (action : Action) (mappings : List Mapping) (files : List File) (name : List ℕ) (at : ℕ) (bytes : List ℕ) → (meaning action).files_left mappings ≡ StoredInPart name at bytes
    → (meaning action).files mappings files ≡ stored_in name at bytes files
stores (FWrite text offset given) mappings files name at bytes is = same_store text name offset at given bytes files is
stores (Load handle offset len) mappings files name at bytes is = by_mapping (mapping_of handle mappings) is
  where
    by_kind : (m : Mapping) (shared : Bool) → (if shared then fread m.name (m.start + offset) len else read_copy m offset len).files_left mappings ≡ StoredInPart name at bytes
        → (if shared then fread m.name (m.start + offset) len else read_copy m offset len).files mappings files ≡ stored_in name at bytes files
    by_kind m true part = cc part
    by_kind m false part = cc part

    by_mapping : (o : Option Mapping) → elim o as (λ _. FilesLeft) [ None ↦ Unchanged | Some m ↦ (load_through offset len m).files_left mappings ] ≡ StoredInPart name at bytes
        → elim o as (λ _. List File) [ None ↦ files | Some m ↦ (load_through offset len m).files mappings files ] ≡ stored_in name at bytes files
    by_mapping None part = cc part
    by_mapping (Some m) part = by_kind m (is_shared m.kind) part
stores (Store handle offset given) mappings files name at bytes is = by_mapping (mapping_of handle mappings) is
  where
    by_kind : (m : Mapping) (shared : Bool) → (if shared then fwrite m.name (m.start + offset) given else write_copy handle offset given).files_left mappings ≡ StoredInPart name at bytes
        → (if shared then fwrite m.name (m.start + offset) given else write_copy handle offset given).files mappings files ≡ stored_in name at bytes files
    by_kind m true part = same_store m.name name (m.start + offset) at given bytes files part
    by_kind m false part = cc part

    by_mapping : (o : Option Mapping) → elim o as (λ _. FilesLeft) [ None ↦ Unchanged | Some m ↦ (store_through handle offset given m).files_left mappings ] ≡ StoredInPart name at bytes
        → elim o as (λ _. List File) [ None ↦ files | Some m ↦ (store_through handle offset given m).files mappings files ] ≡ stored_in name at bytes files
    by_mapping None part = cc part
    by_mapping (Some m) part = by_kind m (is_shared m.kind) part
stores (Sync handle offset len) mappings files name at bytes is = flush_stores Once handle (record { start = offset; len = len } ∷ []) mappings files name at bytes is
stores (Flush handle spans) mappings files name at bytes is = flush_stores Once handle spans mappings files name at bytes is
stores (FlushVerify handle spans) mappings files name at bytes is = flush_stores Again handle spans mappings files name at bytes is
stores (DeepFlush handle spans) mappings files name at bytes is = flush_stores Once handle spans mappings files name at bytes is
stores action mappings files name at bytes is = cc is

pub listed_left : (h : Machine) (action : Action) (left : List File) → AreListed h.geometry h.files → BringsRight action → refusal h action ≡ None
    → MayLeaveFiles h.mappings (Some action) h.files left → AreListed h.geometry left
listed_left h action left listed right none may =
    leaves_listed h.geometry ((meaning action).files_left h.mappings) h.files ((meaning action).files h.mappings h.files) left listed (listed_made h action listed right none)
    (stores action h.mappings h.files) may
