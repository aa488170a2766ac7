-- What a call that makes spans of a file durable comes to, whichever it is: flushes through mappings, and a sync of all of it.
use Rattle.std.proofs.Common.{◌≡◌, ◌+◌, ◌≤◌, ◌++◌, ◌∙◌, ℕ, zero, suc, Option, Some, None, option_map, Result, Ok, Err, OnOk, List, sym, ap, ap₂, subst, arith}
use Rattle.line_device.specs.Device.{Device}
use Rattle.line_device.specs.Panel.{Runs}
use Rattle.line_words.specs.Told.{Told, Answers, OnRefused, OnWorked, is_done, outcome_by}
use Rattle.nvm_base.specs.Stock.{Stock}
use Rattle.nvm_base.specs.declared.units.Span.{Span}
use Rattle.mappings.specs.Object.{MappingsState}
use Rattle.inode_table.specs.Slots.{inode_of}
use Rattle.inode_table.proofs.SlotLemmas.{found_is_named}
use Rattle.nvm_model.specs.Files.{OneFileLeft, on_pages}
use Rattle.nvm_model.specs.Interrupted.{MaySyncAll}
use Rattle.nvm_model.specs.Listing.{change_file, file_name}
use Rattle.nvm_model.specs.Page.{Page}
use Rattle.nvm_model.specs.Storage.{File, Event}
use Rattle.nvm_model.specs.Touched.{persist_spans}
use Rattle.page_lines.specs.Placed.{one_there, there_among}
use Rattle.page_lines.specs.Turns.{WritesBackOthers}
use Rattle.file_journal.specs.Area.{IsOfFiles}
use Rattle.file_journal.specs.Object.{JournalState}
use Rattle.file_journal.specs.Standing.{EachReadsFiles, FilesStand}
use Rattle.file_journal.specs.Tables.{AreTables, known_units}
use Rattle.file_journal.proofs.EachFilesLemmas.{each_files-then}
use Rattle.file_pages.specs.Object.{IsFileAt, KeepsMarks, PagesServe, PagesState}
use Rattle.file_pages.proofs.FoundLemmas.{FoundFile, file-found}
use Rattle.reply_text.specs.Answer.{Answer, IsPrintable}
use Rattle.reply_text.specs.Room.{most_of}
use Rattle.script_text.specs.Action.{Action}
use Rattle.machine_model.specs.declared.mode.Mode.TheVariants.{On}
use Rattle.machine_model.specs.Commands.{MayLeaveFiles, fate, longest, spending, unless_refused}
use Rattle.machine_host.specs.Faults.{answer_after, mode_after}
use Rattle.machine_model.specs.Interrupted.{stop_in}
use Rattle.machine_model.specs.Machine.{Machine}
use Rattle.machine_model.specs.Machine.Fate.{Works}
use Rattle.machine_model.specs.OnEvents.{lost_events}
use Rattle.machine_model.specs.OnFlushes.{synced_in}
use Rattle.machine_model.specs.OnPages.{pages_named}
use Rattle.machine_host.specs.Responding.{Answered}
use Rattle.machine_host.specs.Stands.{HostServes, HostState, Stands, HasRoom}
use Rattle.machine_host.proofs.CallLemmas.{IsPart}
use Rattle.machine_host.proofs.FilePageCallLemmas.{AreReady, LeavesOthers, PagesCalled, pages_after, work_comes, work_serves, same_host}
use Rattle.machine_host.proofs.FilePageFateLemmas.{pages_are}
use Rattle.machine_host.proofs.FilePageLemmas.{file_seen, held_now, journal_now, right_now}
use Rattle.machine_host.proofs.MapFateLemmas.{has-found}
use Rattle.machine_host.specs.Keeping.{Changes, is_refusal, reach}
use Rattle.machine_host.proofs.KeepLemmas.{AnswersCall, keeps_called, keeps_inside}

-- of so many lines no more are there
pub few_there : (place : ℕ → Option ℕ) (first k : ℕ) → there_among place first k ≤ k
few_there place first zero = omega arith
few_there place first (suc k) = let rest = few_there place first k in let last = one (place (first + k)) in omega (arith, rest, last)
  where
    one : (o : Option ℕ) → one_there o ≤ 1
    one None = omega arith
    one (Some line) = omega arith

both_refused : {E R P Q S : Type 0} (says : E → Told R) (r : Result (Unit {0}) E) → (P → Q → S) → OnRefused says r P → OnRefused says r Q → OnRefused says r S
both_refused says (Ok x) f p q = tt
both_refused says (Err e) f p q = λ none. f (p none) (q none)

worked_then : {T E R P Q : Type 0} (says : E → Told R) (r : Result T E) → (P → Q) → OnWorked says r P → OnWorked says r Q
worked_then says (Ok x) then_ p = then_ p
worked_then says (Err f) then_ p = λ stop. then_ (p stop)

-- Of a host behind a reference, whose action makes these spans of a named file durable, or leaves a part of it done.
module _ {E R : Type 0} (says : E → Told R) (now host : HostState) (p : PagesState) (r : Result (Unit {0}) E) (action : Action) (name : List ℕ) (inode : ℕ) (spans : List Span) (lines : ℕ) (old : Device)
    (inside : host ≡ now) (on : now.mode ≡ On) (serves : HostServes now old) (here : inode_of name host.files.pages.journal.tables.files ≡ Some inode) where
  -- Its clauses are those of a call on bytes, with the events after it.
  module _ {D : Type 0} (state : D → Device) (before after : D) (first : state before ≡ old)
      (left_by_row : (files left : List File) → OneFileLeft name (MaySyncAll spans) files left → MayLeaveFiles host.files.mappings.mappings (Some action) files left)
      (untouched : OnRefused says r ((p ≡ host.files.pages) × (after ≡ before)))
      (images : OnWorked says r ((files : List File) (file : File) → IsFileAt host.files.pages.journal (state before).medium inode files file
      → EachReadsFiles host.files.pages.journal.geo (state after).medium (OneFileLeft file.name (MaySyncAll spans) files)))
      (outside : WritesBackOthers (IsOfFiles host.files.pages.journal.geo) (state before).medium (state after).medium) (marks : KeepsMarks host.files.pages.journal.geo (state before).medium (state after).medium)
      (served : PagesServe p (state after).medium) (object : (p.journal ≡ host.files.pages.journal) × (p.settled ≡ is_done (outcome_by says r))) (runs : Runs lines lines (outcome_by says r) (state before).panel (state after).panel)
      (e : Stock Event) (same : OnRefused says r (e ≡ host.files.events)) (room : OnOk r (HasRoom (record host.files { pages = p; events = e }) (state after).medium)) where
    right_here : AreTables host.files.pages.journal.geo.fpages host.files.pages.journal.tables
    right_here = right_now now host old inside on serves

    of_name : ((files : List File) (file : File) → IsFileAt host.files.pages.journal (state before).medium inode files file → EachReadsFiles host.files.pages.journal.geo (state after).medium (OneFileLeft file.name (MaySyncAll spans) files))
        → (files : List File) → FilesStand host.files.pages.journal.geo (state before).medium host.files.pages.journal.tables files
        → EachReadsFiles host.files.pages.journal.geo (state after).medium (MayLeaveFiles host.files.mappings.mappings (Some action) files)
    of_name each files stand =
        let found = file-found host.files.pages.journal (state before).medium right_here name files stand inode (found_is_named name host.files.pages.journal.tables.files inode here) in
        each_files-then host.files.pages.journal.geo (state after).medium (OneFileLeft name (MaySyncAll spans) files) (MayLeaveFiles host.files.mappings.mappings (Some action) files) (left_by_row files)
        (subst (λ n. EachReadsFiles host.files.pages.journal.geo (state after).medium (OneFileLeft n (MaySyncAll spans) files)) found.named (each files found.file found.at))

    ready_after : {T : Type 0} (q : Result T E) → p.settled ≡ is_done (outcome_by says q) → OnOk q (AreReady host.files.pages.journal p (state after).medium)
    ready_after (Ok x) settled = record {
      sizes = ap (λ j. j.geo) object.0;
      names = ap (λ j. j.tables.files) object.0;
      settled = settled;
      journal = ap (λ j. j.settled) object.0 ∙ journal_now now host old inside on serves;
      serves = served;
      right = subst (λ (j : JournalState). AreTables host.files.pages.journal.geo.fpages j.tables) (sym object.0) right_here;
      held = ap (λ j. known_units j.tables.pages j.free) object.0 ∙ held_now now host old inside on serves;
    }
    ready_after (Err f) settled = tt

    pub synced_called : PagesCalled says host p e r (MayLeaveFiles host.files.mappings.mappings (Some action)) lines lines (state before) (state after)
    synced_called = record {
      untouched = both_refused says r (λ q x. ((q.0, x), ap state q.1)) untouched same;
      images = worked_then says r of_name images;
      outside = outside;
      marks = marks;
      ready = ready_after r object.1;
      room = room;
      runs = runs;
    }

  module _ (answer_to : R → Answer) (part : IsPart says answer_to) (after : HostState) (e : Stock Event) (new : Device) (state : after ≡ pages_after host p e (mode_after says r))
      (spent : (h : Machine) → Stands now old h → (lines ≤ (spending h action).calls) × (lines ≤ (spending h action).persists)) (leaves : LeavesOthers action)
      (call : PagesCalled says host p e r (MayLeaveFiles host.files.mappings.mappings (Some action)) lines lines old new) (object : p.journal ≡ host.files.pages.journal) where
    synced : (q : Result (Unit {0}) E)
        → OnOk q ((files : List File) (file : File) → IsFileAt host.files.pages.journal old.medium inode files file
        → FilesStand host.files.pages.journal.geo new.medium host.files.pages.journal.tables (change_file file_name file.name (on_pages (persist_spans spans)) files))
        → (files : List File) (file : File) → IsFileAt host.files.pages.journal old.medium inode files file → file.name ≡ name
        → OnOk q (FilesStand host.files.pages.journal.geo new.medium p.journal.tables (synced_in name spans files))
    synced (Ok x) ok files file at named =
        subst (λ (j : JournalState). FilesStand host.files.pages.journal.geo new.medium j.tables (synced_in name spans files)) (sym object)
        (subst (λ n. FilesStand host.files.pages.journal.geo new.medium host.files.pages.journal.tables (change_file file_name n (on_pages (persist_spans spans)) files)) named (ok files file at))
    synced (Err f) ok files file at named = tt

    heard : (q : Result (Unit {0}) E)
        → OnOk q ((files : List File) (file : File) → IsFileAt host.files.pages.journal old.medium inode files file → e.items ≡ host.files.events.items ++ lost_events host.files.mappings.mappings name spans file.pages)
        → (h : Machine) → Stands now old h → (file : File) → IsFileAt host.files.pages.journal old.medium inode h.files file → OnOk q (e.items ≡ h.events ++ lost_events h.mappings name spans file.pages)
    heard (Ok x) told h stands file at =
        told h.files file at
        ∙ ap (λ (k : HostState). k.files.events.items ++ lost_events k.files.mappings.mappings name spans file.pages) inside
        ∙ ap₂ (λ (es : List Event) (s : MappingsState). es ++ lost_events s.mappings name spans file.pages) (stands.events on) (stands.mappings on)
    heard (Err f) told h stands file at = tt

    -- So it is answered, and `good` where it was done.
    pub synced_answered : (answer : Answer) (refusal : List Page → Option R) (good : List Page → Answer) → ((pages : List Page) → stop_in (good pages) ≡ None)
        → ((h : Machine) → Stands now old h → (found : FoundFile host.files.pages.journal old.medium inode name h.files) → pages_named name h.files ≡ found.file.pages
        → fate h action ≡ unless_refused h (option_map answer_to (refusal found.file.pages)) (Works (good found.file.pages)
        (record h { files = synced_in name spans h.files; events = h.events ++ lost_events h.mappings name spans found.file.pages })))
        → ((files : List File) (file : File) → IsFileAt host.files.pages.journal old.medium inode files file → Answers says (refusal file.pages) r)
        → OnOk r ((files : List File) (file : File) → IsFileAt host.files.pages.journal old.medium inode files file
        → FilesStand host.files.pages.journal.geo new.medium host.files.pages.journal.tables (change_file file_name file.name (on_pages (persist_spans spans)) files))
        → OnOk r ((files : List File) (file : File) → IsFileAt host.files.pages.journal old.medium inode files file → e.items ≡ host.files.events.items ++ lost_events host.files.mappings.mappings name spans file.pages)
        → ((files : List File) (file : File) → IsFileAt host.files.pages.journal old.medium inode files file → answer ≡ answer_after says answer_to (good file.pages) r)
        → AnswersCall says answer_to r answer → Changes (reach action) old new → IsPrintable answer → most_of answer ≤ longest action → Answered action answer now after old new
    synced_answered answer refusal good quiet fate_is refused ok told answer_is call_is changes printable room = record {
      step = λ h stands.
          let found = file_seen now host old inside on serves name h stands inode here in
          let named : pages_named name h.files ≡ found.file.pages = pages_are h name found.file (sym stands.mode ∙ on) (has-found name h.files found.file found.found) found.found in
          work_comes says answer_to part now host after p e r lines lines old new inside state on serves action spent leaves call
          h (good found.file.pages) answer (refusal found.file.pages) (synced_in name spans h.files) (h.events ++ lost_events h.mappings name spans found.file.pages)
          (quiet found.file.pages) stands (fate_is h stands found named)
          (refused h.files found.file found.at) (synced r ok h.files found.file found.at found.named) (heard r told h stands found.file found.at)
          (answer_is h.files found.file found.at);
      keeps = keeps_inside (is_refusal answer) action now host after (pages_after host p e (mode_after says r)) old new inside state
          (keeps_called says answer_to r answer call_is action host (pages_after host p e) old new (ap (λ k. k.mode) inside ∙ on) (same_host says host p e r old new call.untouched) changes);
      printable = printable;
      room = room;
      serves = work_serves says answer_to part now host after p e r lines lines old new inside state on serves action spent leaves call;
    }
