-- What the actions that leave a file old or new come to.
use Rattle.std.proofs.Common.{◌≡◌, ◌≤◌, ◌+◌, ℕ, Option, Some, option_map, Result, List, length, ◌⊎◌, refl, sym, ap, subst, ◌∙◌, arith}
use Rattle.line_device.specs.Device.{Device}
use Rattle.nvm_base.specs.declared.units.Span.{Span}
use Rattle.word_log.specs.Changes.{commit_calls, commit_persists}
use Rattle.inode_table.specs.Slots.{inode_of, pages_at}
use Rattle.nvm_model.specs.Events.{count_in_pages, is_weak_cell}
use Rattle.nvm_model.specs.Files.{on_pages}
use Rattle.nvm_model.specs.Listing.{change_file, file_name}
use Rattle.nvm_model.specs.Page.{Page, discard}
use Rattle.nvm_model.specs.Storage.{File, Mapping}
use Rattle.file_actions.specs.Costs.{write_calls, write_persists}
use Rattle.file_actions.specs.Refusals.{ActionRefusal, action_says, discard_refusal, write_refusal}
use Rattle.file_actions.specs.Refusals.ActionRefusal.{Meta}
use Rattle.file_actions.specs.Rewriting.{pages_touched, rewritten}
use Rattle.file_actions.specs.declared.fault.ActionFault.{ActionFault}
use Rattle.file_pages.specs.Object.{PagesState}
use Rattle.reply_text.specs.Answer.{Answer}
use Rattle.reply_text.specs.Answer.Answer.{Done}
use Rattle.script_text.specs.Action.{Action}
use Rattle.script_text.specs.Action.Action.{FDiscard}
use Rattle.machine_model.specs.declared.mode.Mode.TheVariants.{On}
use Rattle.machine_model.specs.Commands.{LeavesBlocks, LeavesFiles, LeavesVolume, MayLeaveFiles, fate, longest, meaning, spending, unless_refused}
use Rattle.machine_host.specs.Faults.{answer_after, mode_after}
use Rattle.machine_model.specs.Machine.{Machine}
use Rattle.machine_model.specs.Machine.Fate.{Works}
use Rattle.machine_model.specs.Meaning.{Meaning}
use Rattle.machine_model.specs.OnFileActions.{action_answer, fmulti}
use Rattle.machine_model.specs.OnPages.{pages_named}
use Rattle.machine_host.specs.Responding.{Answered}
use Rattle.machine_host.specs.Stands.{HostServes, HostState, Stands}
use Rattle.machine_host.proofs.ActionAnswerLemmas.{actions_part}
use Rattle.machine_host.proofs.EitherFileLemmas.{left-either}
use Rattle.machine_host.proofs.FileActionFateLemmas.{fate_discard, fate_together}
use Rattle.machine_host.proofs.FileChangeLemmas.{FileCalled, file_answered, file_called}
use Rattle.machine_host.proofs.FilePageCallLemmas.{LeavesOthers, pages_after}
use Rattle.machine_host.proofs.FilePageFateLemmas.{pages_are}
use Rattle.machine_host.proofs.FilePageLemmas.{file_seen, meta_seen, named_seen, right_now, room_now, units_seen}
use Rattle.machine_host.proofs.FilesCallLemmas.{journal_sizes}
use Rattle.machine_host.proofs.WeakPageLemmas.{discard-weak, rewritten-weak}
use Rattle.machine_host.specs.Keeping.{Changes, Reach, reach}
use Rattle.machine_host.specs.Keeping.Reach.{AnyLine}

-- An action that leaves all but one file, and that one old or new.
pub record TurnsFile (action : Action) (name : List ℕ) (f : List Page → List Page) : Type 0 where
  pub others : LeavesOthers action
  pub may : (mappings : List Mapping) (files left : List File) → (left ≡ files) ⊎ (left ≡ change_file file_name name (on_pages f) files) → MayLeaveFiles mappings (Some action) files left
  pub long : longest action ≡ 72

turns_discard : (name : List ℕ) (span : Span) → TurnsFile (FDiscard name span.start span.len) name (discard span.start span.len)
turns_discard name span = record {
  others = record { blocks = λ old new same. same; volume = λ geo old new same. same };
  may = λ mappings files left either. either;
  long = refl;
}

turns_together : (action : Action) (name : List ℕ) (ranges : List Span) (bytes : List ℕ) → meaning action ≡ fmulti name ranges bytes → TurnsFile action name (rewritten ranges bytes)
turns_together action name ranges bytes row = record {
  others = record {
    blocks = λ old new same. subst (λ (t : Meaning). LeavesBlocks t.blocks_left old (t.blocks old) new) (sym row) same;
    volume = λ geo old new same. subst (λ (t : Meaning). LeavesVolume (t.volume_left geo) old (t.volume geo old) new) (sym row) same;
  };
  may = λ mappings files left either. subst (λ (t : Meaning). LeavesFiles (t.files_left mappings) files (t.files mappings files) left) (sym row) either;
  long = ap (λ (t : Meaning). t.room) row;
}

-- Of a host behind a reference, by all that a call says.
module _ {D : Type 0} (state : D → Device) (now host after : HostState) (p : PagesState) (r : Result (Unit {0}) ActionFault) (name : List ℕ) (inode : ℕ) (before last : D)
    (inside : host ≡ now) (state_is : after ≡ pages_after host p host.files.events (mode_after action_says r)) (on : now.mode ≡ On) (serves : HostServes now (state before))
    (here : inode_of name host.files.pages.journal.tables.files ≡ Some inode) where
  abbrev seen_pages : (h : Machine) → Stands now (state before) h → List Page
  seen_pages h stands = (file_seen now host (state before) inside on serves name h stands inode here).file.pages

  size_seen : (h : Machine) → Stands now (state before) h → pages_at host.files.pages.journal.tables.files inode ≡ length (pages_named name h.files)
  size_seen h stands =
      let seen = file_seen now host (state before) inside on serves name h stands inode here in
      let has = named_seen now host (state before) inside on serves name h stands (Some inode) (sym here) in
      sym (ap length (pages_are h name seen.file (sym stands.mode ∙ on) has seen.found) ∙ seen.size)

  -- all that a call says, which leaves the file old or new
  abbrev ActionSays : (List Page → Option ActionRefusal) → (List Page → List Page) → ℕ → ℕ → Type 0
  ActionSays why f calls persists = FileCalled action_says state host p r inode why f (λ old left. (left ≡ old) ⊎ (left ≡ f old)) calls persists before last

  turned_answered : (action : Action) (f : List Page → List Page) (calls persists : ℕ) (why : List Page → Option ActionRefusal) → TurnsFile action name f → reach action ≡ AnyLine
      → ((pages : List Page) → count_in_pages is_weak_cell (f pages) ≤ count_in_pages is_weak_cell pages)
      → ((h : Machine) → Stands now (state before) h → (calls ≤ (spending h action).calls) × (persists ≤ (spending h action).persists))
      → ((h : Machine) (stands : Stands now (state before) h)
      → fate h action ≡ unless_refused h (option_map (action_answer name) (why (seen_pages h stands))) (Works Done (record h { files = change_file file_name name (on_pages f) h.files })))
      → ActionSays why f calls persists → (answer : Answer) → answer ≡ answer_after action_says (action_answer name) Done r → Answered action answer now after (state before) (state last)
  turned_answered action f calls persists why turns wide thin few fate_is said answer answer_is =
      file_answered action_says (action_answer name) (actions_part name) now host after p r name inode f action calls persists (state before) (state last) inside state_is on serves here few turns.others
      (file_called action_says state host p r name inode why f (λ old left. (left ≡ old) ⊎ (left ≡ f old)) calls persists before last (right_now now host (state before) inside on serves) here said
      (MayLeaveFiles host.files.mappings.mappings (Some action)) (λ files left up one. turns.may host.files.mappings.mappings files left (left-either name f files left up one))
      thin (room_now now host (state before) inside on serves))
      answer why turns.long fate_is said.refused said.ok answer_is (subst (λ (k : Reach). Changes k (state before) (state last)) (sym wide) tt)

  -- of ranges that are written together
  abbrev write_spends : List Span → (ℕ → ℕ) → ℕ
  write_spends ranges of_pages = of_pages (pages_touched ranges (pages_at host.files.pages.journal.tables.files inode))

  pub together_answered : (action : Action) (ranges : List Span) (bytes : List ℕ) → meaning action ≡ fmulti name ranges bytes → reach action ≡ AnyLine
      → ActionSays (λ pages. write_refusal host.files.pages.journal (state before).medium pages ranges) (rewritten ranges bytes) (write_spends ranges write_calls) (write_spends ranges write_persists)
      → (answer : Answer) → answer ≡ answer_after action_says (action_answer name) Done r → Answered action answer now after (state before) (state last)
  together_answered action ranges bytes row wide =
      turned_answered action (rewritten ranges bytes) (write_spends ranges write_calls) (write_spends ranges write_persists) (λ pages. write_refusal host.files.pages.journal (state before).medium pages ranges)
      (turns_together action name ranges bytes row) wide (rewritten-weak ranges bytes)
      (λ h stands. subst (λ (t : Meaning). (write_spends ranges write_calls ≤ (t.spends h).calls) × (write_spends ranges write_persists ≤ (t.spends h).persists)) (sym row)
      (subst (λ n. (write_spends ranges write_calls ≤ write_calls (pages_touched ranges n)) × (write_spends ranges write_persists ≤ write_persists (pages_touched ranges n))) (size_seen h stands)
      (omega arith, omega arith)))
      (λ h stands.
      let seen = file_seen now host (state before) inside on serves name h stands inode here in
      fate_together h name seen.file (sym stands.mode ∙ on) (named_seen now host (state before) inside on serves name h stands (Some inode) (sym here)) seen.found
      host.files.pages.journal (state before).medium (journal_sizes now host (state before) h inside on serves stands) (units_seen now host (state before) inside on serves name h stands) (meta_seen now host (state before) inside on serves name h stands Meta (action_answer name) (λ n. refl))
      action ranges bytes row)

  -- and of pages that become holes
  pub discard_answered : (span : Span)
      → ActionSays (λ pages. discard_refusal host.files.pages.journal (state before).medium pages span) (discard span.start span.len) (commit_calls (5 + span.len)) (commit_persists (5 + span.len))
      → (answer : Answer) → answer ≡ answer_after action_says (action_answer name) Done r → Answered (FDiscard name span.start span.len) answer now after (state before) (state last)
  discard_answered span =
      turned_answered (FDiscard name span.start span.len) (discard span.start span.len) (commit_calls (5 + span.len)) (commit_persists (5 + span.len))
      (λ pages. discard_refusal host.files.pages.journal (state before).medium pages span) (turns_discard name span) refl (discard-weak span.start span.len) (λ h stands. (omega arith, omega arith))
      (λ h stands.
      let seen = file_seen now host (state before) inside on serves name h stands inode here in
      fate_discard h name seen.file (sym stands.mode ∙ on) (named_seen now host (state before) inside on serves name h stands (Some inode) (sym here)) seen.found
      host.files.pages.journal (state before).medium (journal_sizes now host (state before) h inside on serves stands) (units_seen now host (state before) inside on serves name h stands) (meta_seen now host (state before) inside on serves name h stands Meta (action_answer name) (λ n. refl))
      span)
