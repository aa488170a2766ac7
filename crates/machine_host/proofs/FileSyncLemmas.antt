-- What a sync of a whole file comes to.
use Rattle.std.proofs.Common.{◌≡◌, ◌*◌, ◌≤◌, ◌++◌, ◌∙◌, ℕ, zero, suc, true, Option, Some, None, option_map, Result, Ok, Err, OnErr, OnOk, List, length, if◌then◌else◌, refl, sym, ap, ap₂, subst, arith}
use Rattle.line_device.specs.Device.{Device}
use Rattle.line_device.specs.Panel.{Runs}
use Rattle.line_words.specs.Told.{Answers, OnRefused, OnWorked, is_done, outcome_by}
use Rattle.nvm_base.specs.Units.{units_of}
use Rattle.inode_table.specs.Slots.{inode_of, pages_at}
use Rattle.nvm_model.specs.Blocks.{first_there}
use Rattle.nvm_model.specs.Files.{OneFileLeft, on_pages}
use Rattle.nvm_model.specs.Interrupted.{MaySyncAll}
use Rattle.nvm_model.specs.Listing.{change_file, file_name, has_file}
use Rattle.nvm_model.specs.Numbered.{list_from}
use Rattle.nvm_model.specs.Page.{Page}
use Rattle.nvm_model.specs.Storage.{File}
use Rattle.nvm_model.specs.Touched.{next_bad_touched, persist_spans}
use Rattle.page_lines.specs.Placed.{one_there}
use Rattle.page_lines.specs.Turns.{WritesBackOthers}
use Rattle.file_journal.specs.Area.{IsOfFiles}
use Rattle.file_journal.specs.Object.{JournalState}
use Rattle.file_journal.specs.Standing.{EachReadsFiles, FilesStand}
use Rattle.file_journal.specs.Tables.{unit_at}
use Rattle.file_pages.specs.Costs.{lines_there}
use Rattle.file_pages.specs.Object.{IsFileAt, KeepsMarks, PagesServe, PagesState, file_place, unit_place}
use Rattle.file_actions.specs.Refusals.{action_says, all_bytes, sync_refusal}
use Rattle.file_actions.specs.Refusals as refusals
use Rattle.file_actions.specs.declared.fault.ActionFault.{ActionFault}
use Rattle.reply_text.specs.declared.reply.Why.TheVariants as because
use Rattle.reply_text.specs.Answer.{Answer, IsPrintable}
use Rattle.reply_text.specs.Answer.Answer.{Done, PoisonFile, Refused}
use Rattle.reply_text.specs.Room.{most_of}
use Rattle.script_text.specs.Action.Action.{FSync}
use Rattle.machine_host.specs.declared.held.HeldFiles.{HeldFiles}
use Rattle.machine_model.specs.declared.mode.Mode.TheVariants.{On}
use Rattle.machine_model.specs.Commands.{fate, spending, unless_refused}
use Rattle.machine_host.specs.Faults.{answer_after, mode_after}
use Rattle.machine_host.specs.Flushing.{LinesTold}
use Rattle.machine_model.specs.Machine.{Machine, Fate}
use Rattle.machine_model.specs.Machine.Fate.{Works}
use Rattle.machine_model.specs.OnEvents.{lost_events}
use Rattle.machine_model.specs.OnFileActions.{action_answer}
use Rattle.machine_model.specs.OnFlushes.{synced_in}
use Rattle.machine_model.specs.OnPages.{pages_named}
use Rattle.machine_host.specs.Responding.{Answered}
use Rattle.machine_host.specs.Stands.{HostServes, HostState, Stands}
use Rattle.machine_host.proofs.CallLemmas.{printable_after}
use Rattle.machine_host.proofs.ActionAnswerLemmas.{actions_part}
use Rattle.machine_host.proofs.FilePageCallLemmas.{LeavesOthers}
use Rattle.machine_host.proofs.FilePageFateLemmas.{pages_are}
use Rattle.machine_host.proofs.FilePageLemmas.{file_seen, named_seen, right_now, room_now}
use Rattle.machine_host.proofs.FilesCallLemmas.{worked_none}
use Rattle.machine_host.proofs.LostLineLemmas.{err_then, heard_of, room_left, same_refused, told_others}
use Rattle.machine_model.proofs.RefusalLemmas.{fate_usable}
use Rattle.machine_host.proofs.SyncedLemmas.{few_there, synced_answered, synced_called}
use Rattle.machine_host.proofs.VolumeCallLemmas.{short_after}

-- a sync that was done touched no bad line
pub none_synced : (pages : List Page) (q : Result (Unit {0}) ActionFault) → Answers action_says (sync_refusal pages) q → OnOk q (next_bad_touched all_bytes pages 0 ≡ None)
none_synced pages (Ok x) answers = by_line (next_bad_touched all_bytes pages 0) (worked_none action_says (sync_refusal pages) (Ok x) answers)
  where
    by_line : (o : Option ℕ) → refusals.poisoned_at o ≡ None → o ≡ None
    by_line None none = refl
    by_line (Some n) none = cc none
none_synced pages (Err f) answers = tt

-- no more lines of a file are there than its pages have
few_whole : (s : JournalState) (inode pages : ℕ) → pages_at s.tables.files inode ≡ pages → lines_there s inode 0 (4096 * pages) ≤ 64 * pages
few_whole s inode zero empty = let none = ap (λ n. one_there (unit_place s.geo (list_from (unit_at s.tables inode) 0 n) 0)) empty in omega (arith, none)
few_whole s inode (suc k) is = let few = few_there (file_place s inode) 0 (units_of 64 (record { start = 0; len = 4096 * suc k })).len in omega (arith, few)

-- what it comes to, of a file that is there
module _ (h : Machine) (name : List ℕ) where
  abbrev sync_fate : Option Answer → Option Answer → List Page → Fate
  sync_fate named unreadable pages =
      unless_refused h (first_there named unreadable) (Works Done (record h { files = synced_in name all_bytes h.files; events = h.events ++ lost_events h.mappings name all_bytes pages }))

  bad_line : (o : Option ℕ) → option_map (λ n. PoisonFile name (64 * n)) o ≡ option_map (action_answer name) (refusals.poisoned_at o)
  bad_line None = refl
  bad_line (Some n) = refl

  fate_fsync : (pages : List Page) → h.mode ≡ On → has_file file_name name h.files ≡ true → pages_named name h.files ≡ pages → fate h (FSync name) ≡ sync_fate None (option_map (action_answer name) (sync_refusal pages)) pages
  fate_fsync pages on has named =
      fate_usable h (FSync name) refl on
      ∙ ap₂ (λ o (p : List Page). sync_fate o (option_map (λ n. PoisonFile name (64 * n)) (next_bad_touched all_bytes p 0)) p) (ap (λ b. if b then None else Some (Refused because.Missing)) has) named
      ∙ ap (λ o. sync_fate None o pages) (bad_line (next_bad_touched all_bytes pages 0))

-- how many of a named one are there
abbrev lines : HostState → ℕ → ℕ
lines host inode = lines_there host.files.pages.journal inode 0 (4096 * pages_at host.files.pages.journal.tables.files inode)

leaves : (name : List ℕ) → LeavesOthers (FSync name)
leaves name = record { blocks = λ old new same. same; volume = λ geo old new same. same }

-- Of a host behind a reference.
module _ (now host : HostState) (name : List ℕ) (inode : ℕ) (old : Device) (inside : host ≡ now) (on : now.mode ≡ On) (serves : HostServes now old)
    (here : inode_of name host.files.pages.journal.tables.files ≡ Some inode) where
  -- its pages as the machine sees them
  named_there : (h : Machine) → Stands now old h → length (pages_named name h.files) ≡ pages_at host.files.pages.journal.tables.files inode
  named_there h stands =
      let seen = file_seen now host old inside on serves name h stands inode here in
      let has = named_seen now host old inside on serves name h stands (Some inode) (sym here) in
      ap (λ (p : List Page). length p) (pages_are h name seen.file (sym stands.mode ∙ on) has seen.found) ∙ seen.size

  spent : (h : Machine) → Stands now old h → (lines host inode ≤ (spending h (FSync name)).calls) × (lines host inode ≤ (spending h (FSync name)).persists)
  spent h stands =
      let few = few_whole host.files.pages.journal inode (pages_at host.files.pages.journal.tables.files inode) refl in
      let size = named_there h stands in
      let most : lines host inode ≤ 64 * length (pages_named name h.files) = omega (arith, few, size) in (most, most)

-- So it is answered: `host` is what is inside `now`, `f` are its files once the lost lines were told, and `after` is what the answer leaves.
pub fsync_told : {D : Type 0} (state : D → Device) (now host after : HostState) (p : PagesState) (f : HeldFiles) (r : Result (Unit {0}) ActionFault) (name : List ℕ) (inode : ℕ) (before last : D) (answer : Answer)
    → host ≡ now → now.mode ≡ On → HostServes now (state before) → inode_of name host.files.pages.journal.tables.files ≡ Some inode → after ≡ record host { mode = mode_after action_says r; files = f }
    → ((files : List File) (file : File) → IsFileAt host.files.pages.journal (state before).medium inode files file → Answers action_says (sync_refusal file.pages) r)
    → OnRefused action_says r ((p ≡ host.files.pages) × (last ≡ before))
    → OnOk r ((files : List File) (file : File) → IsFileAt host.files.pages.journal (state before).medium inode files file
    → FilesStand host.files.pages.journal.geo (state last).medium host.files.pages.journal.tables (change_file file_name file.name (on_pages (persist_spans all_bytes)) files))
    → OnWorked action_says r ((files : List File) (file : File) → IsFileAt host.files.pages.journal (state before).medium inode files file
    → EachReadsFiles host.files.pages.journal.geo (state last).medium (OneFileLeft file.name (MaySyncAll all_bytes) files))
    → WritesBackOthers (IsOfFiles host.files.pages.journal.geo) (state before).medium (state last).medium → KeepsMarks host.files.pages.journal.geo (state before).medium (state last).medium
    → PagesServe p (state last).medium → (p.journal ≡ host.files.pages.journal) × (p.settled ≡ is_done (outcome_by action_says r))
    → (let lines = lines_there host.files.pages.journal inode 0 (4096 * pages_at host.files.pages.journal.tables.files inode) in Runs lines lines (outcome_by action_says r) (state before).panel (state last).panel)
    → OnOk r (LinesTold name inode all_bytes (state last).medium (record host.files { pages = p }) f) → OnErr r (f ≡ record host.files { pages = p })
    → answer ≡ answer_after action_says (action_answer name) Done r → Answered (FSync name) answer now after (state before) (state last)
fsync_told state now host after p f r name inode before last answer inside on serves here is refused untouched ok images outside marks served object runs told undone answer_is =
    let tables = right_now now host (state before) inside on serves in
    let room = room_now now host (state before) inside on serves in
    let files_are = told_others name inode all_bytes (state last).medium (record host.files { pages = p }) f r told undone in
    let lost = lines host inode in
    synced_answered action_says now host p r (FSync name) name inode all_bytes lost (state before) inside on serves here (action_answer name) (actions_part name) after f.events (state last)
    (is ∙ ap (λ (x : HeldFiles). record host { mode = mode_after action_says r; files = x }) files_are) (spent now host name inode (state before) inside on serves here) (leaves name)
    (synced_called action_says now host p r (FSync name) name inode all_bytes lost (state before) inside on serves here state before last refl (λ files left may. may) untouched images outside marks served object runs
    f.events (same_refused action_says f.events host.files.events r (err_then r (λ same. ap (λ (x : HeldFiles). x.events) same) undone))
    (room_left host p name inode all_bytes (state before).medium (state last).medium tables here room object.0 f r (λ files file at. none_synced file.pages r (refused files file at)) ok told))
    object.0 answer sync_refusal (λ pages. Done) (λ pages. refl)
    (λ h stands found named. fate_fsync h name found.file.pages (sym stands.mode ∙ on) (named_seen now host (state before) inside on serves name h stands (Some inode) (sym here)) named)
    refused ok (heard_of host p name inode all_bytes (state before).medium (state last).medium tables here room object.0 f r ok told) (λ files file at. answer_is) (record { good = Done; accepts = refl; is = answer_is }) tt
    (subst IsPrintable (sym answer_is) (printable_after action_says (action_answer name) (actions_part name) Done tt r))
    (subst (λ a. most_of a ≤ 72) (sym answer_is) (short_after action_says (action_answer name) (actions_part name) Done (omega arith) r))
