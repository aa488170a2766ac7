-- What reads and stores of a file's bytes come to.
use Rattle.std.proofs.Common.{◌≡◌, position, ◌+◌, ◌*◌, ◌≤◌, ℕ, true, Option, Some, None, option_map, is_some, Result, Ok, Err, OnOk, List, if◌then◌else◌, refl, sym, ap, subst, ◌∙◌, arith}
use Rattle.std.specs.List.{range_with_len}
use Rattle.word_tables.specs.Layout.{meta_lines}
use Rattle.line_device.specs.Medium.{WritesBack}
use Rattle.line_device.specs.Panel.{Runs}
use Rattle.line_device.specs.Device.{Device}
use Rattle.line_words.specs.Told.{Answers, OnRefused, OnWorked, is_done, outcome_by}
use Rattle.line_words.specs.Told.Told.{Starves}
use Rattle.nvm_base.specs.Units.{units_of}
use Rattle.inode_table.specs.Slots.{inode_of, pages_at}
use Rattle.inode_table.proofs.SlotLemmas.{found_is_named}
use Rattle.page_table.specs.Pages.{used_pages}
use Rattle.nvm_model.specs.Listing.{file_name, has_file}
use Rattle.nvm_model.specs.Page.{look}
use Rattle.nvm_model.specs.Storage.{File}
use Rattle.nvm_model.proofs.KeptLemmas.{line_kept-write_back}
use Rattle.page_lines.proofs.OthersLemmas.{others-write_back}
use Rattle.file_journal.specs.Area.{IsOfFiles}
use Rattle.file_journal.specs.Object.{JournalState}
use Rattle.file_journal.specs.Standing.{EachReadsFiles, FilesStand}
use Rattle.file_journal.specs.Tables.{AreTables, known_units}
use Rattle.file_journal.proofs.ServesLemmas.{served_files}
use Rattle.file_pages.specs.Object.{IsFileAt, PagesServe, PagesState}
use Rattle.file_pages.specs.Refusals.{PageRefusal, page_says, read_refusal}
use Rattle.file_pages.specs.Refusals.PageRefusal.{Range, Length, Full, Meta, Poison}
use Rattle.file_pages.specs.declared.fault.PageFault.{PageFault}
use Rattle.file_pages.specs.declared.fault.PageFault.TheVariants as fault
use Rattle.file_pages.proofs.FoundLemmas.{FoundFile, file-found}
use Rattle.reply_text.specs.declared.reply.Why.{Why}
use Rattle.reply_text.specs.declared.reply.Why.TheVariants as because
use Rattle.reply_text.specs.Answer.{Answer, IsPrintable}
use Rattle.reply_text.specs.Answer.Answer.{Bytes, Refused, RefusedMeta}
use Rattle.reply_text.specs.Room.{most_of}
use Rattle.script_text.specs.Action.{Action}
use Rattle.script_text.specs.Action.Action.{FRead}
use Rattle.machine_model.specs.declared.mode.Mode.TheVariants.{On}
use Rattle.machine_model.specs.declared.needs.Needs.TheVariants.{Usable}
use Rattle.machine_model.specs.Machine.{Machine}
use Rattle.machine_model.specs.Commands.{MayLeaveFiles, longest, meaning}
use Rattle.machine_host.specs.Faults.{answer_after, mode_after}
use Rattle.machine_model.specs.Interrupted.{stop_in}
use Rattle.machine_model.specs.Lines.{bad_metadata}
use Rattle.machine_model.specs.Meaning.{metadata_refusal, most_refusal}
use Rattle.machine_model.specs.OnFiles.{if_missing}
use Rattle.machine_model.specs.OnPages.{page_answer, pages_used}
use Rattle.machine_host.specs.Responding.{Answered}
use Rattle.machine_host.specs.Stands.{HostState, HostServes, Stands, Comes, HasRoom}
use Rattle.machine_host.proofs.CallLemmas.{IsPart, on_refused-then}
use Rattle.machine_host.proofs.ExistsLemmas.{same_state}
use Rattle.machine_host.proofs.FilePageCallLemmas.{AreReady, LeavesOthers, PagesCalled, pages_after, work_comes, work_serves, told_still, same_host}
use Rattle.machine_host.proofs.FilePageFateLemmas.{fate_misread, fate_read_within, fate_unnamed}
use Rattle.machine_host.proofs.FilesAsideLemmas.{files_stand_elsewhere}
use Rattle.machine_host.proofs.FilesCallLemmas.{files_seen, journal_sizes, sees_files}
use Rattle.machine_model.proofs.RefusalLemmas.{meta_refused}
use Rattle.machine_model.proofs.UsedPageLemmas.{used_seen}
use Rattle.machine_host.proofs.RoomLemmas.{room_still}
use Rattle.machine_host.specs.Keeping.{is_refusal}
use Rattle.machine_host.proofs.KeepLemmas.{AnswersCall, keeps_called, keeps_inside, left_all}

-- answers of pages
never_starves : (f : PageFault) → page_says f ≡ Starves → ⊥
never_starves fault.Range e = cc e
never_starves fault.Length e = cc e
never_starves fault.Full e = cc e
never_starves (fault.Meta line) e = cc e
never_starves (fault.Poison offset) e = cc e
never_starves fault.Device e = cc e
never_starves fault.PowerLost e = cc e

module _ (name : List ℕ) where
  no_stop : (w : PageRefusal) → stop_in (page_answer name w) ≡ None
  no_stop Range = refl
  no_stop Length = refl
  no_stop Full = refl
  no_stop (Meta line) = refl
  no_stop (Poison offset) = refl

  short_refusal : (w : PageRefusal) → most_of (page_answer name w) ≤ 72
  short_refusal Range = omega arith
  short_refusal Length = omega arith
  short_refusal Full = omega arith
  short_refusal (Meta line) = omega arith
  short_refusal (Poison offset) = omega arith

  printable_refusal : (w : PageRefusal) → IsPrintable (page_answer name w)
  printable_refusal Range = tt
  printable_refusal Length = tt
  printable_refusal Full = tt
  printable_refusal (Meta line) = tt
  printable_refusal (Poison offset) = tt

  pub pages_part : IsPart page_says (page_answer name)
  pages_part = record { printable = printable_refusal; quiet = no_stop; short = short_refusal; fed = never_starves }

module _ (now host : HostState) (old : Device) (inside : host ≡ now) (on : now.mode ≡ On) (serves : HostServes now old) where
  sizes_now : host.files.pages.journal.geo ≡ now.geometry
  sizes_now = ap (λ k. k.files.pages.journal.geo) inside ∙ (serves.mounted on).journal_geometry

  pub right_now : AreTables host.files.pages.journal.geo.fpages host.files.pages.journal.tables
  right_now =
      subst (λ g. AreTables g.fpages host.files.pages.journal.tables) (sym sizes_now) (subst (λ k. AreTables now.geometry.fpages k.files.pages.journal.tables) (sym inside) (serves.mounted on).journal_right)

  pub held_now : known_units host.files.pages.journal.tables.pages host.files.pages.journal.free ≡ host.files.pages.journal.geo.fpages
  held_now =
      ap (λ k. known_units k.files.pages.journal.tables.pages k.files.pages.journal.free) inside ∙ (serves.mounted on).journal_held ∙ ap (λ g. g.fpages) (sym sizes_now)

  pub journal_now : host.files.pages.journal.settled ≡ true
  journal_now = ap (λ k. k.files.pages.journal.settled) inside ∙ (serves.mounted on).journal_settled

  pub room_now : HasRoom host.files old.medium
  room_now = subst (λ (k : HostState). HasRoom k.files old.medium) (sym inside) (serves.mounted on).room

  -- What host and device show of a state that they stand for.
  module _ (name : List ℕ) (h : Machine) (stands : Stands now old h) where
    -- the lowest bad line of metadata, as a part of storage finds it
    pub meta_seen : {R : Type 0} (refusal : ℕ → R) (answer : R → Answer) → ((n : ℕ) → answer (refusal n) ≡ RefusedMeta n)
        → metadata_refusal true h.bad_meta ≡ option_map answer (option_map refusal (position old.medium.is_bad (range_with_len 0 (meta_lines host.files.pages.journal.geo))))
    meta_seen refusal answer is =
        ap (metadata_refusal true) (sym stands.device.metadata.bad ∙ ap (λ g. bad_metadata g old.medium.is_bad) (sym (journal_sizes now host old h inside on serves stands)))
        ∙ meta_refused refusal answer is host.files.pages.journal.geo old.medium.is_bad

    pub units_seen : pages_used h.files ≡ used_pages host.files.pages.journal.tables.pages
    units_seen = used_seen host.files.pages.journal.geo old.medium host.files.pages.journal.tables h.files right_now (files_seen now host old h inside on serves stands)

    pub named_seen : (o : Option ℕ) → o ≡ inode_of name host.files.pages.journal.tables.files → has_file file_name name h.files ≡ is_some o
    named_seen o is = (sees_files now host old h inside on serves stands).names name ∙ ap is_some (sym is)

    -- the file of an inode
    pub file_seen : (inode : ℕ) → inode_of name host.files.pages.journal.tables.files ≡ Some inode → FoundFile host.files.pages.journal old.medium inode name h.files
    file_seen inode here =
        file-found host.files.pages.journal old.medium right_now name h.files (files_seen now host old h inside on serves stands) inode (found_is_named name host.files.pages.journal.tables.files inode here)

-- A command that names no file is refused.
pub missing_answered : (now host : HostState) (d : Device) (name : List ℕ) (action : Action) → host ≡ now → now.mode ≡ On → HostServes now d → None ≡ inode_of name host.files.pages.journal.tables.files
    → (meaning action).needs ≡ Usable → ((h : Machine) → ((meaning action).reasons h).named ≡ if_missing name h.files) → 72 ≤ longest action → Answered action (Refused because.Missing) now now d d
missing_answered now host d name action inside on serves none needs named room = record {
  step = λ h stands.
      let missing = named h ∙ ap (λ b. if b then None else Some (Refused because.Missing)) (named_seen now host d inside on serves name h stands None none) in
      subst (λ f. Comes h action f (Refused because.Missing) now d d) (sym (fate_unnamed h action (Refused because.Missing) needs (sym stands.mode ∙ on) missing))
      (same_state now d h action (Refused because.Missing) refl stands);
  keeps = left_all now d;
  printable = tt;
  room = room;
  serves = serves;
}

-- A read of bytes that a file doesn't have, or of too many.
pub misread_answered : (now host : HostState) (d : Device) (name : List ℕ) (inode offset len : ℕ) (why : Why) → host ≡ now → now.mode ≡ On → HostServes now d
    → inode_of name host.files.pages.journal.tables.files ≡ Some inode → Some why ≡ most_refusal 65536 (4096 * pages_at host.files.pages.journal.tables.files inode) offset len
    → Answered (FRead name offset len) (Refused why) now now d d
misread_answered now host d name inode offset len why inside on serves here is = record {
  step = λ h stands.
      let seen = file_seen now host d inside on serves name h stands inode here in
      let has = named_seen now host d inside on serves name h stands (Some inode) (sym here) in
      let refused = ap (λ n. most_refusal 65536 (4096 * n) offset len) seen.size ∙ sym is in
      subst (λ f. Comes h (FRead name offset len) f (Refused why) now d d) (sym (fate_misread h name seen.file (sym stands.mode ∙ on) has seen.found offset len why refused))
      (same_state now d h (FRead name offset len) (Refused why) refl stands);
  keeps = left_all now d;
  printable = tt;
  room = omega arith;
  serves = serves;
}

on_ok : {T E P : Type 0} (q : Result T E) → P → OnOk q P
on_ok (Ok x) p = p
on_ok (Err f) p = tt

on_worked : {T P : Type 0} (q : Result T PageFault) → P → OnWorked page_says q P
on_worked (Ok x) p = p
on_worked (Err f) p = λ stop. p

-- A read of bytes that a file has.
module _ (now host after : HostState) (p : PagesState) (r : Result (Unit {0}) PageFault) (name : List ℕ) (inode offset len calls : ℕ) (old new : Device)
    (inside : host ≡ now) (state : after ≡ pages_after host p host.files.events (mode_after page_says r)) (on : now.mode ≡ On) (serves : HostServes now old) (here : inode_of name host.files.pages.journal.tables.files ≡ Some inode)
    (few : calls ≤ (units_of 64 (record { start = offset; len = len })).len) (untouched : OnRefused page_says r ((p ≡ host.files.pages) × (new ≡ old))) (lines : WritesBack old.medium new.medium)
    (served : PagesServe p new.medium) (object : (p.journal ≡ host.files.pages.journal) × (p.settled ≡ is_done (outcome_by page_says r))) (runs : Runs calls 0 (outcome_by page_says r) old.panel new.panel) where
  -- the device stands for the same files
  stand_after : (files : List File) → FilesStand host.files.pages.journal.geo old.medium host.files.pages.journal.tables files → FilesStand host.files.pages.journal.geo new.medium p.journal.tables files
  stand_after files stand =
      subst (λ (j : JournalState). FilesStand host.files.pages.journal.geo new.medium j.tables files) (sym object.0)
      (files_stand_elsewhere host.files.pages.journal.geo old.medium new.medium (λ n of. line_kept-write_back old.medium new.medium n lines) host.files.pages.journal files refl (right_now now host old inside on serves) stand)

  right_after : AreTables host.files.pages.journal.geo.fpages p.journal.tables
  right_after = subst (λ (j : JournalState). AreTables host.files.pages.journal.geo.fpages j.tables) (sym object.0) (right_now now host old inside on serves)

  reads_after : (files : List File) → FilesStand host.files.pages.journal.geo old.medium host.files.pages.journal.tables files → EachReadsFiles host.files.pages.journal.geo new.medium (λ x. x ≡ files)
  reads_after files stand =
      subst (λ (j : JournalState). EachReadsFiles j.geo new.medium (λ x. x ≡ files)) object.0
      (served_files p.journal new.medium files (subst (λ (j : JournalState). AreTables j.geo.fpages p.journal.tables) (sym object.0) right_after) served
      (subst (λ (j : JournalState). FilesStand j.geo new.medium p.journal.tables files) (sym object.0) (stand_after files stand)))

  ready_after : (q : Result (Unit {0}) PageFault) → p.settled ≡ is_done (outcome_by page_says q) → OnOk q (AreReady host.files.pages.journal p new.medium)
  ready_after (Ok x) settled = record {
    sizes = ap (λ j. j.geo) object.0;
    names = ap (λ j. j.tables.files) object.0;
    settled = settled;
    journal = ap (λ j. j.settled) object.0 ∙ journal_now now host old inside on serves;
    serves = served;
    right = right_after;
    held = ap (λ j. known_units j.tables.pages j.free) object.0 ∙ held_now now host old inside on serves;
  }
  ready_after (Err f) settled = tt

  call : PagesCalled page_says host p host.files.events r (MayLeaveFiles host.files.mappings.mappings (Some (FRead name offset len))) calls 0 old new
  call = record {
    untouched = on_refused-then page_says r (λ same. ((same.0, refl), same.1)) untouched;
    images = on_worked r reads_after;
    outside = others-write_back (IsOfFiles host.files.pages.journal.geo) old.medium new.medium lines;
    marks = λ n below. lines.bad n;
    ready = ready_after r object.1;
    room = on_ok r (room_still host.files (record host.files { pages = p }) old.medium new.medium
        (λ files stand. subst (λ (j : JournalState). FilesStand j.geo new.medium p.journal.tables files) (sym object.0) (stand_after files stand)) (omega arith) (room_now now host old inside on serves));
    runs = runs;
  }

  leaves : LeavesOthers (FRead name offset len)
  leaves = record { blocks = λ old new same. same; volume = λ geo old new same. same }

  pub read_answered : (answer : Answer) → 1 ≤ len → len ≤ 65536 → offset + len ≤ 4096 * pages_at host.files.pages.journal.tables.files inode
      → ((files : List File) (file : File) → IsFileAt host.files.pages.journal old.medium inode files file → Answers page_says (read_refusal file.pages offset len) r)
      → ((files : List File) (file : File) → IsFileAt host.files.pages.journal old.medium inode files file → answer ≡ answer_after page_says (page_answer name) (Bytes (look file.pages offset len)) r)
      → AnswersCall page_says (page_answer name) r answer → IsPrintable answer → most_of answer ≤ longest (FRead name offset len) → Answered (FRead name offset len) answer now after old new
  read_answered answer some most within refused answer_is told printable room = record {
    step = λ h stands.
        let seen = file_seen now host old inside on serves name h stands inode here in
        let has = named_seen now host old inside on serves name h stands (Some inode) (sym here) in
        let there = subst (λ n. offset + len ≤ 4096 * n) (sym seen.size) within in
        work_comes page_says (page_answer name) (pages_part name) now host after p host.files.events r calls 0 old new inside state on serves (FRead name offset len) (λ h stands. (few, omega arith)) leaves call
        h (Bytes (look seen.file.pages offset len)) answer (read_refusal seen.file.pages offset len) h.files h.events refl stands
        (fate_read_within h name seen.file (sym stands.mode ∙ on) has seen.found offset len some there most)
        (refused h.files seen.file seen.at) (on_ok r (stand_after h.files (files_seen now host old h inside on serves stands)))
        (told_still page_says (page_answer name) (pages_part name) now host after p host.files.events r calls 0 old new inside state on serves (FRead name offset len) (λ h stands. (few, omega arith)) leaves call refl h stands) (answer_is h.files seen.file seen.at);
    keeps = keeps_inside (is_refusal answer) (FRead name offset len) now host after (pages_after host p host.files.events (mode_after page_says r)) old new inside state
        (keeps_called page_says (page_answer name) r answer told (FRead name offset len) host (pages_after host p host.files.events) old new (ap (λ k. k.mode) inside ∙ on)
        (same_host page_says host p host.files.events r old new call.untouched) lines);
    printable = printable;
    room = room;
    serves =
        work_serves page_says (page_answer name) (pages_part name) now host after p host.files.events r calls 0 old new inside state on serves (FRead name offset len) (λ h stands. (few, omega arith)) leaves call;
  }
