-- The lines that are lost as spans of a file become durable: room for their events, and what these are.
use Rattle.std.proofs.Common.{◌≡◌, ◌++◌, ◌∙◌, ℕ, Option, Some, None, Result, Ok, Err, OnOk, List, length, refl, sym, ap, subst, arith}
use Rattle.line_words.specs.Told.{Told, Answers, OnRefused}
use Rattle.nvm_base.specs.declared.units.Span.{Span}
use Rattle.inode_table.specs.Slots.{inode_of}
use Rattle.inode_table.proofs.SlotLemmas.{found_is_named}
use Rattle.nvm_model.specs.Files.{on_pages}
use Rattle.nvm_model.specs.Listing.{change_file, file_name}
use Rattle.nvm_model.specs.Page.{Page}
use Rattle.nvm_model.specs.Storage.{File, Event}
use Rattle.nvm_model.specs.Touched.{next_bad_touched, persist_spans}
use Rattle.file_journal.specs.Object.{JournalState}
use Rattle.file_journal.specs.Standing.{FilesStand}
use Rattle.file_journal.specs.Tables.{AreTables}
use Rattle.file_pages.specs.Object.{IsFileAt, PagesState}
use Rattle.file_pages.proofs.FoundLemmas.{file-found, FoundFile}
use Rattle.flush_engine.specs.Refusals.{FlushRefusal, flush_refusal, flush_says, extents_refusal, limit_refusal, poison_refusal}
use Rattle.flush_engine.specs.declared.fault.FlushFault.{FlushFault}
use Rattle.machine_host.specs.Stands.{HostState, HasRoom}
use Rattle.nvm_base.specs.Stock.{Stock}
use Rattle.std.specs.Prelude.{OnErr}
use Rattle.line_device.specs.Medium.{Medium}
use Rattle.nvm_model.specs.Blocks.{first_there}
use Rattle.machine_host.specs.declared.held.HeldFiles.{HeldFiles}
use Rattle.machine_host.specs.Flushing.{HoldsLost, LinesTold}
use Rattle.machine_model.specs.OnEvents.{lost_events}
use Rattle.machine_host.proofs.EventLemmas.{changed_at, weak-flushed}
use Rattle.machine_host.proofs.FilesCallLemmas.{worked_none}

-- a flush that was done touched no bad line
pub none_flushed : (pages : List Page) (spans : List Span) (q : Result (Unit {0}) FlushFault) → Answers flush_says (flush_refusal pages spans) q → OnOk q (next_bad_touched spans pages 0 ≡ None)
none_flushed pages spans (Ok x) answers = third (extents_refusal (length pages) spans) (limit_refusal spans) (next_bad_touched spans pages 0) (worked_none flush_says (flush_refusal pages spans) (Ok x) answers)
  where
    third : (a b : Option FlushRefusal) (o : Option ℕ) → first_there a (first_there b (poison_refusal o)) ≡ None → o ≡ None
    third None None None none = refl
    third None None (Some n) none = cc none
    third None (Some w) o none = cc none
    third (Some w) b o none = cc none
none_flushed pages spans (Err f) answers = tt

-- The lines that were lost as spans became durable have room, and leave the others theirs.
module _ (host : HostState) (p : PagesState) (name : List ℕ) (inode : ℕ) (spans : List Span) (old new : Medium) (right : AreTables host.files.pages.journal.geo.fpages host.files.pages.journal.tables)
    (here : inode_of name host.files.pages.journal.tables.files ≡ Some inode) (room : HasRoom host.files old) (same : p.journal ≡ host.files.pages.journal) where
  -- the file that has it
  found : FoundFile host.files.pages.journal old inode name room.files
  found = file-found host.files.pages.journal old right name room.files room.stand inode (found_is_named name host.files.pages.journal.tables.files inode here)

  at_new : FilesStand host.files.pages.journal.geo new host.files.pages.journal.tables (change_file file_name found.file.name (on_pages (persist_spans spans)) room.files)
      → IsFileAt p.journal new inode (change_file file_name found.file.name (on_pages (persist_spans spans)) room.files) (on_pages (persist_spans spans) found.file)
  at_new stand =
      subst (λ (j : JournalState). IsFileAt j new inode (change_file file_name found.file.name (on_pages (persist_spans spans)) room.files) (on_pages (persist_spans spans) found.file)) (sym same)
      (changed_at host.files.pages.journal right old inode room.files found.file found.at new (persist_spans spans) stand)

  pub holds_lost : {E : Type 0} (q : Result (Unit {0}) E) → ((files : List File) (file : File) → IsFileAt host.files.pages.journal old inode files file → OnOk q (next_bad_touched spans file.pages 0 ≡ None))
      → OnOk q ((files : List File) (file : File) → IsFileAt host.files.pages.journal old inode files file
      → FilesStand host.files.pages.journal.geo new host.files.pages.journal.tables (change_file file_name file.name (on_pages (persist_spans spans)) files))
      → OnOk q (HoldsLost (record host.files { pages = p }) new inode spans)
  holds_lost (Ok x) none ok =
      let weak = weak-flushed host.files.pages.journal right old inode room.files found.file found.at spans (none room.files found.file found.at) in
      record {
        files = change_file file_name found.file.name (on_pages (persist_spans spans)) room.files;
        file = on_pages (persist_spans spans) found.file;
        at = at_new (ok room.files found.file found.at);
        enough = omega (arith, weak, room.enough);
      }
  holds_lost (Err f) none ok = tt

  pub room_left : {E : Type 0} (f : HeldFiles) (q : Result (Unit {0}) E) → ((files : List File) (file : File) → IsFileAt host.files.pages.journal old inode files file → OnOk q (next_bad_touched spans file.pages 0 ≡ None))
      → OnOk q ((files : List File) (file : File) → IsFileAt host.files.pages.journal old inode files file
      → FilesStand host.files.pages.journal.geo new host.files.pages.journal.tables (change_file file_name file.name (on_pages (persist_spans spans)) files))
      → OnOk q (LinesTold name inode spans new (record host.files { pages = p }) f) → OnOk q (HasRoom (record host.files { pages = p; events = f.events }) new)
  room_left f (Ok x) none ok told =
      let weak = weak-flushed host.files.pages.journal right old inode room.files found.file found.at spans (none room.files found.file found.at) in
      let at = at_new (ok room.files found.file found.at) in
      let spare = told.spare _ _ at in record {
        files = change_file file_name found.file.name (on_pages (persist_spans spans)) room.files;
        stand = at.stand;
        enough = omega (arith, weak, room.enough, spare);
      }
  room_left f (Err e) none ok told = tt

  pub heard_of : {E : Type 0} (f : HeldFiles) (q : Result (Unit {0}) E)
      → OnOk q ((files : List File) (file : File) → IsFileAt host.files.pages.journal old inode files file
      → FilesStand host.files.pages.journal.geo new host.files.pages.journal.tables (change_file file_name file.name (on_pages (persist_spans spans)) files))
      → OnOk q (LinesTold name inode spans new (record host.files { pages = p }) f)
      → OnOk q ((files : List File) (file : File) → IsFileAt host.files.pages.journal old inode files file → f.events.items ≡ host.files.events.items ++ lost_events host.files.mappings.mappings name spans file.pages)
  heard_of f (Ok x) ok told = λ files file at.
      told.events _ _
      (subst (λ (j : JournalState). IsFileAt j new inode (change_file file_name file.name (on_pages (persist_spans spans)) files) (on_pages (persist_spans spans) file)) (sym same)
      (changed_at host.files.pages.journal right old inode files file at new (persist_spans spans) (ok files file at)))
  heard_of f (Err e) ok told = tt

-- what the lines that were told leave of the files beside their events
pub told_others : {E : Type 0} (name : List ℕ) (inode : ℕ) (spans : List Span) (m : Medium) (old new : HeldFiles) (q : Result (Unit {0}) E) → OnOk q (LinesTold name inode spans m old new) → OnErr q (new ≡ old) → new ≡ record old { events = new.events }
told_others name inode spans m old new (Ok x) told same = told.others
told_others name inode spans m old new (Err f) told same = same ∙ ap (λ (f : HeldFiles). record old { events = f.events }) (sym same)

pub same_refused : {E R : Type 0} (says : E → Told R) (e before : Stock Event) (q : Result (Unit {0}) E) → OnErr q (e ≡ before) → OnRefused says q (e ≡ before)
same_refused says e before (Ok x) same = tt
same_refused says e before (Err f) same = λ _. same

pub err_then : {E P Q : Type 0} (q : Result (Unit {0}) E) → (P → Q) → OnErr q P → OnErr q Q
err_then (Ok x) f p = tt
err_then (Err e) f p = f p
