-- What a call on the bytes of one file comes to, whichever it is, from what it says of that file.
use Rattle.std.proofs.Common.{◌≡◌, ◌≤◌, ℕ, true, IsTrue, Option, Some, option_map, Result, Ok, Err, OnOk, List, refl, sym, ap, subst, ◌∙◌, arith}
use Rattle.line_device.specs.Device.{Device}
use Rattle.line_device.specs.Medium.{Medium}
use Rattle.line_device.specs.Panel.{Runs}
use Rattle.line_words.specs.Told.{Told, Answers, OnRefused, OnWorked, is_done, outcome_by}
use Rattle.inode_table.specs.Slots.{inode_of}
use Rattle.inode_table.proofs.SlotLemmas.{found_is_named}
use Rattle.nvm_model.specs.Events.{count_in_pages, is_weak_cell}
use Rattle.nvm_model.specs.Files.{OneFileLeft, on_pages}
use Rattle.nvm_model.specs.Listing.{change_file, file_name, rises}
use Rattle.nvm_model.specs.Page.{Page}
use Rattle.nvm_model.specs.Storage.{File}
use Rattle.page_lines.specs.Turns.{WritesBackOthers}
use Rattle.file_journal.specs.Area.{IsOfFiles}
use Rattle.file_journal.specs.Standing.{EachReadsFiles, FilesStand}
use Rattle.file_journal.specs.Tables.{AreTables, known_units}
use Rattle.file_journal.proofs.EachFilesLemmas.{each_files-then}
use Rattle.file_pages.specs.Object.{IsFileAt, KeepsMarks, PagesServe, PagesState, is_settled}
use Rattle.file_pages.proofs.FoundLemmas.{FoundFile, file-found}
use Rattle.reply_text.specs.Answer.{Answer}
use Rattle.reply_text.specs.Answer.Answer.{Done}
use Rattle.script_text.specs.Action.{Action}
use Rattle.machine_model.specs.declared.mode.Mode.TheVariants.{On}
use Rattle.machine_model.specs.Commands.{MayLeaveFiles, fate, longest, spending, unless_refused}
use Rattle.machine_host.specs.Faults.{answer_after, mode_after}
use Rattle.machine_model.specs.Machine.{Machine}
use Rattle.machine_model.specs.Machine.Fate.{Works}
use Rattle.machine_host.specs.Responding.{Answered}
use Rattle.machine_host.specs.Stands.{HasRoom, HostServes, HostState, Stands}
use Rattle.machine_host.proofs.CallLemmas.{IsPart, on_refused-then, worked-then}
use Rattle.machine_host.proofs.EventLemmas.{files_rise}
use Rattle.machine_host.proofs.FilePageCallLemmas.{AreReady, LeavesOthers, PagesCalled, both_settled, pages_after, work_answered}
use Rattle.machine_host.proofs.FilePageLemmas.{file_seen}
use Rattle.machine_host.proofs.RoomLemmas.{room_then}
use Rattle.machine_host.proofs.WeakFileLemmas.{change-weak}
use Rattle.machine_host.specs.Keeping.{Changes, reach}

-- What it makes of the file, at Ok.
abbrev pub MakesFile : {E : Type 0} → Result (Unit {0}) E → HostState → PagesState → Medium → Medium → ℕ → (List Page → List Page) → Type 0
MakesFile r host p old new inode f =
    OnOk r ((files : List File) (file : File) → IsFileAt host.files.pages.journal old inode files file
    → FilesStand host.files.pages.journal.geo new p.journal.tables (change_file file_name file.name (on_pages f) files))

-- All its clauses: why it is refused, what it makes of the file of an inode, and what of it an interruption leaves.
pub record FileCalled {D E R : Type 0} (says : E → Told R) (state : D → Device) (host : HostState) (p : PagesState) (r : Result (Unit {0}) E) (inode : ℕ) (why : List Page → Option R) (f : List Page → List Page)
    (leaves : List Page → List Page → Type 0) (calls persists : ℕ) (before last : D) : Type 0 where
  pub refused : (files : List File) (file : File) → IsFileAt host.files.pages.journal (state before).medium inode files file → Answers says (why file.pages) r
  pub untouched : OnRefused says r ((p ≡ host.files.pages) × (last ≡ before))
  pub ok : MakesFile r host p (state before).medium (state last).medium inode f
  pub images : OnWorked says r ((files : List File) (file : File) → IsFileAt host.files.pages.journal (state before).medium inode files file
      → EachReadsFiles host.files.pages.journal.geo (state last).medium (OneFileLeft file.name leaves files))
  pub outside : WritesBackOthers (IsOfFiles host.files.pages.journal.geo) (state before).medium (state last).medium
  pub marks : KeepsMarks host.files.pages.journal.geo (state before).medium (state last).medium
  pub serves : IsTrue (is_settled p) → PagesServe p (state last).medium
  pub tables : OnOk r (AreTables p.journal.geo.fpages p.journal.tables)
  pub names : OnOk r (p.journal.tables.files ≡ host.files.pages.journal.tables.files)
  pub object : (p.journal.geo ≡ host.files.pages.journal.geo) × (is_settled p ≡ is_done (outcome_by says r))
  pub held : IsTrue (is_settled p) → known_units p.journal.tables.pages p.journal.free ≡ p.journal.geo.fpages
  pub runs : Runs calls persists (outcome_by says r) (state before).panel (state last).panel

module _ {D E R : Type 0} (says : E → Told R) (state : D → Device) (host : HostState) (p : PagesState) (r : Result (Unit {0}) E) (name : List ℕ) (inode : ℕ) (why : List Page → Option R) (f : List Page → List Page)
    (leaves : List Page → List Page → Type 0) (calls persists : ℕ) (before last : D) (right : AreTables host.files.pages.journal.geo.fpages host.files.pages.journal.tables)
    (here : inode_of name host.files.pages.journal.tables.files ≡ Some inode) (said : FileCalled says state host p r inode why f leaves calls persists before last) where
  file_ready : (q : Result (Unit {0}) E) → OnOk q (AreTables p.journal.geo.fpages p.journal.tables) → OnOk q (p.journal.tables.files ≡ host.files.pages.journal.tables.files) → is_settled p ≡ is_done (outcome_by says q)
      → OnOk q (AreReady host.files.pages.journal p (state last).medium)
  file_ready (Ok x) tables names settled =
      let both = both_settled p.settled p.journal.settled settled in
      record {
        sizes = said.object.0;
        names = names;
        settled = both.0;
        journal = both.1;
        serves = said.serves settled;
        right = subst (λ g. AreTables g.fpages p.journal.tables) said.object.0 tables;
        held = said.held settled ∙ ap (λ g. g.fpages) said.object.0;
      }
  file_ready (Err f) tables names settled = tt

  file_left : (may : List File → List File → Type 0) → ((files left : List File) → rises file_name files ≡ true → OneFileLeft name leaves files left → may files left)
      → ((files : List File) (file : File) → IsFileAt host.files.pages.journal (state before).medium inode files file
      → EachReadsFiles host.files.pages.journal.geo (state last).medium (OneFileLeft file.name leaves files))
      → (files : List File) → FilesStand host.files.pages.journal.geo (state before).medium host.files.pages.journal.tables files
      → EachReadsFiles host.files.pages.journal.geo (state last).medium (may files)
  file_left may so each files stand =
      let seen = file-found host.files.pages.journal (state before).medium right name files stand inode (found_is_named name host.files.pages.journal.tables.files inode here) in
      each_files-then host.files.pages.journal.geo (state last).medium (OneFileLeft seen.file.name leaves files) (may files)
      (λ left one. so files left (files_rise host.files.pages.journal (state before).medium files right stand) (subst (λ n. OneFileLeft n leaves files left) seen.named one)) (each files seen.file seen.at)

  -- There is room for events still, where it makes no line weak.
  file_room : (q : Result (Unit {0}) E) → ((pages : List Page) → count_in_pages is_weak_cell (f pages) ≤ count_in_pages is_weak_cell pages) → HasRoom host.files (state before).medium
      → MakesFile q host p (state before).medium (state last).medium inode f → OnOk q (HasRoom (record host.files { pages = p }) (state last).medium)
  file_room (Ok x) thin room ok =
      room_then host.files (record host.files { pages = p }) (state before).medium (state last).medium (change_file file_name name (on_pages f)) (change-weak name (on_pages f) (λ file. thin file.pages))
      (λ files stand.
      let seen = file-found host.files.pages.journal (state before).medium right name files stand inode (found_is_named name host.files.pages.journal.tables.files inode here) in
      subst (λ g. FilesStand g (state last).medium p.journal.tables (change_file file_name name (on_pages f) files)) (sym said.object.0)
      (subst (λ n. FilesStand host.files.pages.journal.geo (state last).medium p.journal.tables (change_file file_name n (on_pages f) files)) seen.named (ok files seen.file seen.at)))
      (omega arith) room
  file_room (Err e) thin room ok = tt

  -- So they are those of a call on bytes.
  pub file_called : (may : List File → List File → Type 0) → ((files left : List File) → rises file_name files ≡ true → OneFileLeft name leaves files left → may files left)
      → ((pages : List Page) → count_in_pages is_weak_cell (f pages) ≤ count_in_pages is_weak_cell pages) → HasRoom host.files (state before).medium
      → PagesCalled says host p host.files.events r may calls persists (state before) (state last)
  file_called may so thin room = record {
    untouched = on_refused-then says r (λ same. ((same.0, refl), ap state same.1)) said.untouched;
    images = worked-then says r (file_left may so) said.images;
    outside = said.outside;
    marks = said.marks;
    ready = file_ready r said.tables said.names said.object.1;
    room = file_room r thin room said.ok;
    runs = said.runs;
  }

-- And it is answered.
module _ {E R : Type 0} (says : E → Told R) (answer_to : R → Answer) (part : IsPart says answer_to) (now host after : HostState) (p : PagesState) (r : Result (Unit {0}) E) (name : List ℕ) (inode : ℕ) (f : List Page → List Page)
    (action : Action) (calls persists : ℕ) (old new : Device) (inside : host ≡ now) (state : after ≡ pages_after host p host.files.events (mode_after says r)) (on : now.mode ≡ On) (serves : HostServes now old)
    (here : inode_of name host.files.pages.journal.tables.files ≡ Some inode) where
  pub file_answered : ((h : Machine) → Stands now old h → (calls ≤ (spending h action).calls) × (persists ≤ (spending h action).persists)) → LeavesOthers action
      → PagesCalled says host p host.files.events r (MayLeaveFiles host.files.mappings.mappings (Some action)) calls persists old new
      → (answer : Answer) (why : List Page → Option R) → longest action ≡ 72
      → ((h : Machine) (stands : Stands now old h)
      → fate h action ≡ unless_refused h (option_map answer_to (why (file_seen now host old inside on serves name h stands inode here).file.pages)) (Works Done (record h { files = change_file file_name name (on_pages f) h.files })))
      → ((files : List File) (file : File) → IsFileAt host.files.pages.journal old.medium inode files file → Answers says (why file.pages) r)
      → MakesFile r host p old.medium new.medium inode f → answer ≡ answer_after says answer_to Done r → Changes (reach action) old new → Answered action answer now after old new
  file_answered few leaves call answer why long fate_is refused ok answer_is changes =
      work_answered says answer_to part now host after p host.files.events r calls persists old new inside state on serves action few leaves call refl answer
      (λ h stands. why (file_seen now host old inside on serves name h stands inode here).file.pages)
      (λ h. change_file file_name name (on_pages f) h.files) long fate_is
      (λ h stands. let seen = file_seen now host old inside on serves name h stands inode here in refused h.files seen.file seen.at)
      (λ h stands. made r ok h (file_seen now host old inside on serves name h stands inode here)) answer_is changes
    where
      made : (q : Result (Unit {0}) E) → MakesFile q host p old.medium new.medium inode f → (h : Machine) → FoundFile host.files.pages.journal old.medium inode name h.files
          → OnOk q (FilesStand host.files.pages.journal.geo new.medium p.journal.tables (change_file file_name name (on_pages f) h.files))
      made (Ok x) ok h seen =
          subst (λ n. FilesStand host.files.pages.journal.geo new.medium p.journal.tables (change_file file_name n (on_pages f) h.files)) seen.named (ok h.files seen.file seen.at)
      made (Err f) ok h seen = tt
