-- What media errors of files come to.
use Rattle.std.proofs.Common.{◌≡◌, ◌⊎◌, inr, ◌/◌, ◌≤◌, ◌∙◌, ℕ, true, IsTrue, Option, Some, None, option_map, Result, Ok, Err, OnOk, List, refl, sym, ap, subst, arith, if◌then◌else◌}
use Rattle.std.specs.Prelude.{IfErr}
use Rattle.line_device.specs.Device.{Device}
use Rattle.line_device.specs.Panel.{Runs}
use Rattle.line_words.specs.Told.{Told, Answers, OnRefused, OnWorked, outcome_by}
use Rattle.word_tables.specs.Layout.{meta_lines}
use Rattle.inode_table.specs.Slots.{inode_of}
use Rattle.inode_table.proofs.SlotLemmas.{found_is_named}
use Rattle.nvm_model.specs.Blocks.{first_there}
use Rattle.nvm_model.specs.Cell.{Cell, clear_cell}
use Rattle.nvm_model.specs.Files.{on_pages}
use Rattle.nvm_model.specs.Listing.{change_file, file_name, has_file}
use Rattle.nvm_model.specs.Page.{change_line}
use Rattle.nvm_model.specs.Storage.{File, Event}
use Rattle.page_lines.specs.Turns.{WritesBackOthers}
use Rattle.page_lines.proofs.OthersLemmas.{others-wider}
use Rattle.file_journal.specs.Area.{IsOfFiles}
use Rattle.file_journal.specs.Standing.{EachReadsFiles, FilesStand}
use Rattle.file_journal.specs.Tables.{AreTables}
use Rattle.file_journal.proofs.FileLineLemmas.{page_line_behind}
use Rattle.file_pages.specs.Object.{IsFileAt, KeepsMarks, PagesServe, file_place}
use Rattle.file_pages.proofs.FoundLemmas.{FoundFile, file-found}
use Rattle.scrub.specs.Lines.{IsFileLine}
use Rattle.scrub.specs.Others.{WritesBackBut}
use Rattle.marked_lines.specs.Refusals.{ScrubRefusal, file_clear_refusal, file_refusal}
use Rattle.scrub.specs.Refusals.{scrub_says}
use Rattle.scrub.specs.declared.fault.ScrubFault.{ScrubFault}
use Rattle.reply_text.specs.declared.reply.Why.TheVariants as because
use Rattle.reply_text.specs.Answer.{Answer, IsPrintable}
use Rattle.reply_text.specs.Answer.Answer.{Done, Refused}
use Rattle.reply_text.specs.Room.{most_of}
use Rattle.script_text.specs.Action.{Action}
use Rattle.script_text.specs.Action.Action.{ClearFile}
use Rattle.machine_model.specs.declared.mode.Mode.TheVariants.{On}
use Rattle.machine_model.specs.declared.needs.Needs.TheVariants.{Usable}
use Rattle.machine_model.specs.Machine.{Machine, Fate}
use Rattle.machine_model.specs.Machine.Fate.{Gives, Works}
use Rattle.machine_model.specs.Commands.{MayLeaveFiles, fate, longest, meaning, unless_refused}
use Rattle.machine_host.specs.Faults.{answer_after, mode_after, IsRoomier}
use Rattle.machine_model.specs.Meaning.{Reasons, first_reason, no_reasons}
use Rattle.machine_model.specs.OnFileErrors.{marked_in}
use Rattle.machine_model.specs.OnFiles.{if_missing}
use Rattle.machine_model.specs.OnMedia.{line_answer}
use Rattle.machine_model.specs.OnPages.{pages_named}
use Rattle.machine_host.specs.Responding.{Answered}
use Rattle.machine_host.specs.Stands.{Comes, HostServes, HostState, Stands, HasRoom}
use Rattle.machine_host.proofs.CallLemmas.{on_refused-then}
use Rattle.machine_host.proofs.FilePageCallLemmas.{AreReady, LeavesOthers, PagesCalled, work_answered}
use Rattle.machine_host.proofs.FilePageFateLemmas.{pages_are}
use Rattle.machine_host.proofs.FilePageLemmas.{file_seen, held_now, journal_now, named_seen, right_now, room_now}
use Rattle.machine_host.proofs.LineLemmas.{line_printable, quiet_line, refused_same, same_serves, scrub_part, short_after}
use Rattle.machine_host.proofs.MediaLemmas.{IsRefusal, comes_of_marking, files_marked, files_marked_serve}
use Rattle.machine_model.proofs.RefusalLemmas.{fate_usable, first_alone}
use Rattle.nvm_base.specs.Stock.{Stock}
use Rattle.machine_host.proofs.RoomLemmas.{room_then, serves_telling, stands_telling, telling}
use Rattle.machine_host.proofs.WeakFileLemmas.{change-weak}
use Rattle.machine_host.proofs.WeakLineLemmas.{clear-weak}
use Rattle.machine_host.specs.Keeping.{Changes, Reach, reach}
use Rattle.machine_host.specs.Keeping.Reach.{OneLine}
use Rattle.machine_host.proofs.KeepLemmas.{but_named, keeps_answer}
use Rattle.line_device.specs.Medium.{WritesBack}
use Rattle.line_device.proofs.WriteBackLemmas.{write_back-refl}

-- A row that is refused for a file that is not there and for its places, of a file that is.
fate_placed : (h : Machine) (action : Action) (name : List ℕ) (places : Option Answer) → (meaning action).needs ≡ Usable → h.mode ≡ On → has_file file_name name h.files ≡ true
    → (meaning action).reasons h ≡ record no_reasons { named = if_missing name h.files; places = places } → fate h action ≡ unless_refused h places ((meaning action).comes h)
fate_placed h action name places needs on has reasons =
    fate_usable h action needs on
    ∙ ap (λ (r : Reasons). unless_refused h (first_reason None h.bad_meta r) ((meaning action).comes h)) reasons
    ∙ ap (λ b. unless_refused h (first_there (if b then None else Some (Refused because.Missing)) (first_there places None)) ((meaning action).comes h)) has
    ∙ ap (λ o. unless_refused h o ((meaning action).comes h)) (first_alone places)

-- Of a host behind a reference: `host` is what is inside `now`.
module _ (now host : HostState) (old : Device) (inside : host ≡ now) (on : now.mode ≡ On) (serves : HostServes now old) (name : List ℕ) (inode : ℕ) (here : inode_of name host.files.pages.journal.tables.files ≡ Some inode) where
  -- the file, as the machine has it
  pub file_is : (h : Machine) → Stands now old h → FoundFile host.files.pages.journal old.medium inode name h.files
  file_is h stands = file_seen now host old inside on serves name h stands inode here

  has_it : (h : Machine) → Stands now old h → has_file file_name name h.files ≡ true
  has_it h stands = named_seen now host old inside on serves name h stands (Some inode) (sym here)

  pub pages_seen : (h : Machine) (stands : Stands now old h) → pages_named name h.files ≡ (file_is h stands).file.pages
  pages_seen h stands = let found = file_is h stands in pages_are h name found.file (sym stands.mode ∙ on) (has_it h stands) found.found

  -- what comes of a command on its places
  pub fate_of_file : (h : Machine) (stands : Stands now old h) (action : Action) (places : Option Answer) → (meaning action).needs ≡ Usable
      → (meaning action).reasons h ≡ record no_reasons { named = if_missing name h.files; places = places } → fate h action ≡ unless_refused h places ((meaning action).comes h)
  fate_of_file h stands action places needs reasons = fate_placed h action name places needs (sym stands.mode ∙ on) (has_it h stands) reasons

-- A line of a file is marked, and the host has these events then.
module _ (host : HostState) (old new : Device) (serves : HostServes host old) (on : host.mode ≡ On) (panel : new.panel ≡ old.panel) (name : List ℕ) (inode offset : ℕ)
    (here : inode_of name host.files.pages.journal.tables.files ≡ Some inode) (e : Stock Event) where
  abbrev lines : ℕ → Type 0
  lines n = IsFileLine host.files.pages.journal inode (offset / 64) n

  of_files : (n : ℕ) → lines n → IsOfFiles host.geometry n
  of_files n of = subst (λ g. IsOfFiles g n) (serves.mounted on).journal_geometry (inr (inr (inr of.of)))

  behind : (n : ℕ) → lines n → meta_lines host.geometry ≤ n
  behind n of = subst (λ g. meta_lines g ≤ n) (serves.mounted on).journal_geometry (page_line_behind host.files.pages.journal.geo n of.of)

  pub file_line_answered : {E : Type 0} (says : E → Told ScrubRefusal) (mark : Cell → Cell) (events : Machine → List Event) (action : Action) (r : Result (Unit {0}) E) (answer : Answer) → longest action ≡ 72 → (meaning action).needs ≡ Usable
      → ((h : Machine) → (meaning action).reasons h ≡ record no_reasons { named = if_missing name h.files; places = option_map line_answer (file_refusal (pages_named name h.files) offset) })
      → ((h : Machine) → (meaning action).comes h ≡ Gives Done (record h { files = marked_in mark name offset h.files; events = events h }))
      → ((files : List File) (file : File) → IsFileAt host.files.pages.journal old.medium inode files file → Answers says (file_refusal file.pages offset) r) → IfErr r (λ f. IsRefusal (says f)) → OnRefused says r (new ≡ old)
      → OnOk r ((files : List File) (file : File) → IsFileAt host.files.pages.journal old.medium inode files file
      → FilesStand host.files.pages.journal.geo new.medium host.files.pages.journal.tables (change_file file_name file.name (on_pages (change_line mark (offset / 64))) files))
      → WritesBackBut lines old.medium new.medium → PagesServe host.files.pages new.medium
      → OnRefused says r (e.items ≡ host.files.events.items) → OnRefused says r (host.files.events.spare ≤ e.spare) → OnOk r ((h : Machine) → Stands host old h → e.items ≡ events h) → HasRoom (record host.files { events = e }) new.medium
      → answer ≡ answer_after says line_answer Done r → reach action ≡ OneLine → Answered action answer host (telling e host) old new
  file_line_answered {E} says mark events action r answer long needs reasons comes refused told untouched ok x served unheard roomy heard room answer_is one = record {
    step = λ h stands.
        let found = file_is host host old refl on serves name inode here h stands in
        let to : Machine = record h { files = marked_in mark name offset h.files; events = events h } in
        let row : fate h action ≡ unless_refused h (option_map line_answer (file_refusal found.file.pages offset)) (Gives Done to) =
        fate_of_file host host old refl on serves name inode here h stands action (option_map line_answer (file_refusal (pages_named name h.files) offset)) needs (reasons h)
        ∙ ap (λ (f : Fate). unless_refused h (option_map line_answer (file_refusal (pages_named name h.files) offset)) f) (comes h)
        ∙ ap (λ pages. unless_refused h (option_map line_answer (file_refusal pages offset)) (Gives Done to)) (pages_seen host host old refl on serves name inode here h stands) in
        subst (λ a. Comes h action (fate h action) a (telling e host) old new) (sym answer_is)
        (subst (λ f. Comes h action f (answer_after says line_answer Done r) (telling e host) old new) (sym row)
        (comes_of_marking says line_answer quiet_line (telling e host) old new h to action r (file_refusal found.file.pages offset) panel
        (refused h.files found.file found.at) told untouched (on_refused-then says r (λ same. stands_telling host old h e h.events (same ∙ stands.events on) stands) unheard)
        (stands_ok r ok heard h stands found)));
    keeps = keeps_answer says line_answer r answer (record { good = Done; accepts = refl; is = answer_is }) action host (telling e host) old new (left_by r untouched unheard roomy)
        (subst (λ (k : Reach). Changes k old new) (sym one)
        (but_named (file_place host.files.pages.journal inode (offset / 64)) lines old.medium new.medium (λ n of. of.at) x));
    printable = subst IsPrintable (sym answer_is) (line_printable says r);
    room = subst (λ n. most_of answer ≤ n) (sym long) (subst (λ a. most_of a ≤ 72) (sym answer_is) (short_after says r));
    serves = serves_by r told untouched;
  }
    where
      left_by : (q : Result (Unit {0}) E) → OnRefused says q (new ≡ old) → OnRefused says q (e.items ≡ host.files.events.items) → OnRefused says q (host.files.events.spare ≤ e.spare)
          → OnRefused says q (IsRoomier host (telling e host) × WritesBack old.medium new.medium)
      left_by (Ok u) untouched unheard roomy = tt
      left_by (Err f) untouched unheard roomy = λ refused.
          (record { events = e; same = refl; items = unheard refused; spare = roomy refused }, subst (λ d. WritesBack old.medium d.medium) (sym (untouched refused)) (write_back-refl old.medium))

      stands_ok : (q : Result (Unit {0}) E)
          → OnOk q ((files : List File) (file : File) → IsFileAt host.files.pages.journal old.medium inode files file
          → FilesStand host.files.pages.journal.geo new.medium host.files.pages.journal.tables (change_file file_name file.name (on_pages (change_line mark (offset / 64))) files))
          → OnOk q ((h : Machine) → Stands host old h → e.items ≡ events h)
          → (h : Machine) → Stands host old h → FoundFile host.files.pages.journal old.medium inode name h.files
          → OnOk q (Stands (telling e host) new (record h { files = marked_in mark name offset h.files; events = events h }))
      stands_ok (Ok u) ok heard h stands found =
          stands_telling host new (record h { files = marked_in mark name offset h.files }) e (events h) (heard h stands)
          (files_marked host old new serves on panel lines behind x of_files served h action (marked_in mark name offset h.files) stands
          (subst (λ n. FilesStand host.files.pages.journal.geo new.medium host.files.pages.journal.tables (change_file file_name n (on_pages (change_line mark (offset / 64))) h.files)) found.named
          (ok h.files found.file found.at)))
      stands_ok (Err f) ok heard h stands found = tt

      serves_by : (q : Result (Unit {0}) E) → IfErr q (λ f. IsRefusal (says f)) → OnRefused says q (new ≡ old) → HostServes (telling e host) new
      serves_by (Ok u) told untouched = files_marked_serve host old new serves on panel lines behind x of_files served e room
      serves_by (Err f) told untouched = serves_telling host new e (same_serves host old new serves on panel (refused_same host old new serves on panel says f told untouched)) (λ _. room)

on_ok : {P : Type 0} (q : Result (Unit {0}) ScrubFault) → P → OnOk q P
on_ok (Ok u) p = p
on_ok (Err f) p = tt

-- A line of a file is cleared. Of a host behind a reference: `host` is what is inside `now`, and `after` what the answer leaves.
module _ (now host after : HostState) (r : Result (Unit {0}) ScrubFault) (name : List ℕ) (inode offset : ℕ) (old new : Device) (inside : host ≡ now) (state : after ≡ record host { mode = mode_after scrub_says r }) (on : now.mode ≡ On)
    (serves : HostServes now old) (here : inode_of name host.files.pages.journal.tables.files ≡ Some inode)
    (untouched : OnRefused scrub_says r (new ≡ old))
    (ok : OnOk r ((files : List File) (file : File) → IsFileAt host.files.pages.journal old.medium inode files file
    → FilesStand host.files.pages.journal.geo new.medium host.files.pages.journal.tables (change_file file_name file.name (on_pages (change_line clear_cell (offset / 64))) files)))
    (images : OnWorked scrub_says r ((files : List File) (file : File) → IsFileAt host.files.pages.journal old.medium inode files file
    → EachReadsFiles host.files.pages.journal.geo new.medium (λ left. (left ≡ files) ⊎ (left ≡ change_file file_name file.name (on_pages (change_line clear_cell (offset / 64))) files))))
    (outside : WritesBackOthers (IsFileLine host.files.pages.journal inode (offset / 64)) old.medium new.medium) (marks : KeepsMarks host.files.pages.journal.geo old.medium new.medium) (served : PagesServe host.files.pages new.medium)
    (runs : Runs 1 0 (outcome_by scrub_says r) old.panel new.panel) where
  right_here : AreTables host.files.pages.journal.geo.fpages host.files.pages.journal.tables
  right_here = right_now now host old inside on serves

  of_name : ((files : List File) (file : File) → IsFileAt host.files.pages.journal old.medium inode files file
      → EachReadsFiles host.files.pages.journal.geo new.medium (λ left. (left ≡ files) ⊎ (left ≡ change_file file_name file.name (on_pages (change_line clear_cell (offset / 64))) files)))
      → (files : List File) → FilesStand host.files.pages.journal.geo old.medium host.files.pages.journal.tables files
      → EachReadsFiles host.files.pages.journal.geo new.medium (MayLeaveFiles host.files.mappings.mappings (Some (ClearFile name offset)) files)
  of_name each files stand =
      let found = file-found host.files.pages.journal old.medium right_here name files stand inode (found_is_named name host.files.pages.journal.tables.files inode here) in
      subst (λ n. EachReadsFiles host.files.pages.journal.geo new.medium (λ left. (left ≡ files) ⊎ (left ≡ change_file file_name n (on_pages (change_line clear_cell (offset / 64))) files))) found.named
      (each files found.file found.at)

  worked : (q : Result (Unit {0}) ScrubFault)
      → OnWorked scrub_says q ((files : List File) (file : File) → IsFileAt host.files.pages.journal old.medium inode files file
      → EachReadsFiles host.files.pages.journal.geo new.medium (λ left. (left ≡ files) ⊎ (left ≡ change_file file_name file.name (on_pages (change_line clear_cell (offset / 64))) files)))
      → OnWorked scrub_says q ((files : List File) → FilesStand host.files.pages.journal.geo old.medium host.files.pages.journal.tables files
      → EachReadsFiles host.files.pages.journal.geo new.medium (MayLeaveFiles host.files.mappings.mappings (Some (ClearFile name offset)) files))
  worked (Ok u) each = of_name each
  worked (Err f) each = λ stop. of_name (each stop)

  ready : AreReady host.files.pages.journal host.files.pages new.medium
  ready = record {
    sizes = refl;
    names = refl;
    settled = subst (λ (k : HostState). IsTrue k.files.pages.settled) (sym inside) (serves.mounted on).pages_settled;
    journal = journal_now now host old inside on serves;
    serves = served;
    right = right_here;
    held = held_now now host old inside on serves;
  }

  room_cleared : (q : Result (Unit {0}) ScrubFault)
      → OnOk q ((files : List File) (file : File) → IsFileAt host.files.pages.journal old.medium inode files file
      → FilesStand host.files.pages.journal.geo new.medium host.files.pages.journal.tables (change_file file_name file.name (on_pages (change_line clear_cell (offset / 64))) files))
      → OnOk q (HasRoom host.files new.medium)
  room_cleared (Ok u) ok =
      room_then host.files host.files old.medium new.medium (marked_in clear_cell name offset)
      (change-weak name (on_pages (change_line clear_cell (offset / 64))) (λ file. let same = clear-weak (offset / 64) file.pages in omega (arith, same)))
      (λ files stand.
      let found = file-found host.files.pages.journal old.medium right_here name files stand inode (found_is_named name host.files.pages.journal.tables.files inode here) in
      subst (λ n. FilesStand host.files.pages.journal.geo new.medium host.files.pages.journal.tables (change_file file_name n (on_pages (change_line clear_cell (offset / 64))) files)) found.named
      (ok files found.file found.at))
      (omega arith) (room_now now host old inside on serves)
  room_cleared (Err f) ok = tt

  clear_called : PagesCalled scrub_says host host.files.pages host.files.events r (MayLeaveFiles host.files.mappings.mappings (Some (ClearFile name offset))) 1 0 old new
  clear_called = record {
    untouched = on_refused-then scrub_says r (λ same. ((refl, refl), same)) untouched;
    images = worked r images;
    outside = others-wider (IsFileLine host.files.pages.journal inode (offset / 64)) (IsOfFiles host.files.pages.journal.geo) old.medium new.medium (λ n of. inr (inr (inr of.of))) outside;
    marks = marks;
    ready = on_ok r ready;
    room = room_cleared r ok;
    runs = runs;
  }

  leaves : LeavesOthers (ClearFile name offset)
  leaves = record { blocks = λ old new same. same; volume = λ geo old new same. same }

  pub clear_answered : (answer : Answer)
      → ((files : List File) (file : File) → IsFileAt host.files.pages.journal old.medium inode files file → Answers scrub_says (file_clear_refusal file.pages offset) r)
      → answer ≡ answer_after scrub_says line_answer Done r → Answered (ClearFile name offset) answer now after old new
  clear_answered answer refused answer_is =
      work_answered scrub_says line_answer scrub_part now host after host.files.pages host.files.events r 1 0 old new inside state on serves (ClearFile name offset) (λ h stands. (omega arith, omega arith)) leaves clear_called refl answer
      (λ h stands. file_clear_refusal (file_is now host old inside on serves name inode here h stands).file.pages offset) (λ h. marked_in clear_cell name offset h.files) refl
      (λ h stands.
      fate_of_file now host old inside on serves name inode here h stands (ClearFile name offset) (option_map line_answer (file_clear_refusal (pages_named name h.files) offset)) refl refl
      ∙ ap (λ pages. unless_refused h (option_map line_answer (file_clear_refusal pages offset)) (Works Done (record h { files = marked_in clear_cell name offset h.files }))) (pages_seen now host old inside on serves name inode here h stands))
      (λ h stands. let found = file_is now host old inside on serves name inode here h stands in refused h.files found.file found.at)
      (λ h stands. cleared r ok h (file_is now host old inside on serves name inode here h stands))
      answer_is tt
    where
      cleared : (q : Result (Unit {0}) ScrubFault)
          → OnOk q ((files : List File) (file : File) → IsFileAt host.files.pages.journal old.medium inode files file
          → FilesStand host.files.pages.journal.geo new.medium host.files.pages.journal.tables (change_file file_name file.name (on_pages (change_line clear_cell (offset / 64))) files))
          → (h : Machine) → FoundFile host.files.pages.journal old.medium inode name h.files → OnOk q (FilesStand host.files.pages.journal.geo new.medium host.files.pages.journal.tables (marked_in clear_cell name offset h.files))
      cleared (Ok u) ok h found =
          subst (λ n. FilesStand host.files.pages.journal.geo new.medium host.files.pages.journal.tables (change_file file_name n (on_pages (change_line clear_cell (offset / 64))) h.files)) found.named
          (ok h.files found.file found.at)
      cleared (Err f) ok h found = tt
