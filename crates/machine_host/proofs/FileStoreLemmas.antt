-- What a store in a file comes to.
use Rattle.std.proofs.Common.{◌≡◌, ◌≤◌, ℕ, Bool, true, false, Some, Result, option_map, List, length, refl, sym, ap, subst, ◌∙◌, arith}
use Rattle.line_device.specs.Device.{Device}
use Rattle.inode_table.specs.Slots.{inode_of}
use Rattle.nvm_model.specs.Events.{count_in_pages, is_weak_cell}
use Rattle.nvm_model.specs.Interrupted.{MayStore}
use Rattle.nvm_model.specs.Page.{Page, fill, presence_of, put}
use Rattle.file_pages.specs.Costs.{fill_persists, filling_persists, store_calls, storing_calls}
use Rattle.file_pages.specs.Object.{PagesState, pages_there}
use Rattle.file_pages.specs.Refusals.{metadata_refusal_if, page_says, store_refusal}
use Rattle.file_pages.specs.Refusals.PageRefusal.{Meta}
use Rattle.file_pages.specs.declared.fault.PageFault.{PageFault}
use Rattle.file_pages.proofs.PassLemmas.{pages_on}
use Rattle.reply_text.specs.Answer.{Answer}
use Rattle.reply_text.specs.Answer.Answer.{Done}
use Rattle.script_text.specs.Action.Action.{FWrite}
use Rattle.machine_model.specs.declared.mode.Mode.TheVariants.{On}
use Rattle.machine_model.specs.Commands.{MayLeaveFiles}
use Rattle.machine_host.specs.Faults.{answer_after, mode_after}
use Rattle.machine_model.specs.Machine.{Machine}
use Rattle.machine_model.specs.Meaning.{metadata_refusal}
use Rattle.machine_model.specs.OnPages.{page_answer, pages_named}
use Rattle.machine_host.specs.Responding.{Answered}
use Rattle.machine_host.specs.Stands.{HostServes, HostState, Stands}
use Rattle.machine_host.proofs.FileChangeLemmas.{FileCalled, file_answered, file_called}
use Rattle.machine_host.proofs.FilePageCallLemmas.{pages_after}
use Rattle.machine_host.proofs.FilePageFateLemmas.{fate_fwrite, pages_are}
use Rattle.machine_host.proofs.FilePageLemmas.{file_seen, meta_seen, named_seen, pages_part, right_now, room_now, units_seen}
use Rattle.machine_host.proofs.FilesCallLemmas.{journal_sizes}
use Rattle.machine_host.proofs.WeakLineLemmas.{fill-weak, put-weak}

-- what it makes of the file's pages, which makes no line weak
abbrev pub stored : ℕ → List ℕ → List Page → List Page
stored offset bytes pages = put offset bytes (fill offset (length bytes) pages)

stored-weak : (offset : ℕ) (bytes : List ℕ) (pages : List Page) → count_in_pages is_weak_cell (stored offset bytes pages) ≤ count_in_pages is_weak_cell pages
stored-weak offset bytes pages = omega (arith, put-weak offset bytes (fill offset (length bytes) pages), fill-weak offset (length bytes) pages)

module _ {D : Type 0} (state : D → Device) (now host after : HostState) (p : PagesState) (r : Result (Unit {0}) PageFault) (name : List ℕ) (inode offset : ℕ) (bytes : List ℕ) (before last : D)
    (inside : host ≡ now) (state_is : after ≡ pages_after host p host.files.events (mode_after page_says r)) (on : now.mode ≡ On) (serves : HostServes now (state before))
    (here : inode_of name host.files.pages.journal.tables.files ≡ Some inode) where
  -- which pages are there is seen as the machine sees it
  there_seen : (h : Machine) → Stands now (state before) h → presence_of (pages_named name h.files) ≡ pages_there host.files.pages.journal inode
  there_seen h stands =
      let seen = file_seen now host (state before) inside on serves name h stands inode here in
      let has = named_seen now host (state before) inside on serves name h stands (Some inode) (sym here) in
      ap presence_of (pages_are h name seen.file (sym stands.mode ∙ on) has seen.found)
      ∙ (pages_on host.files.pages.journal (state before).medium inode h.files seen.file (right_now now host (state before) inside on serves) seen.at).there

  spent : (h : Machine) → Stands now (state before) h
      → (store_calls host.files.pages.journal inode offset (length bytes) ≤ storing_calls (presence_of (pages_named name h.files)) offset (length bytes))
      × (fill_persists host.files.pages.journal inode offset (length bytes) ≤ filling_persists (presence_of (pages_named name h.files)) offset (length bytes))
  spent h stands =
      let same = sym (there_seen h stands) in (
        subst (λ there. store_calls host.files.pages.journal inode offset (length bytes) ≤ storing_calls there offset (length bytes)) same (omega arith),
        subst (λ there. fill_persists host.files.pages.journal inode offset (length bytes) ≤ filling_persists there offset (length bytes)) same (omega arith),
      )

  metadata_seen : (h : Machine) → Stands now (state before) h → (changes : Bool)
      → metadata_refusal changes h.bad_meta ≡ option_map (page_answer name) (metadata_refusal_if changes host.files.pages.journal.geo (state before).medium)
  metadata_seen h stands true = meta_seen now host (state before) inside on serves name h stands Meta (page_answer name) (λ n. refl)
  metadata_seen h stands false = refl

  pub store_answered : FileCalled page_says state host p r inode (λ pages. store_refusal host.files.pages.journal (state before).medium pages offset (length bytes)) (stored offset bytes) (MayStore offset bytes)
      (store_calls host.files.pages.journal inode offset (length bytes)) (fill_persists host.files.pages.journal inode offset (length bytes)) before last
      → (answer : Answer) → answer ≡ answer_after page_says (page_answer name) Done r → Answered (FWrite name offset bytes) answer now after (state before) (state last)
  store_answered said answer answer_is =
      file_answered page_says (page_answer name) (pages_part name) now host after p r name inode (stored offset bytes) (FWrite name offset bytes) _ _ (state before) (state last) inside state_is on serves here
      spent (record { blocks = λ old new same. same; volume = λ geo old new same. same })
      (file_called page_says state host p r name inode _ (stored offset bytes) (MayStore offset bytes) _ _ before last (right_now now host (state before) inside on serves) here said
      (MayLeaveFiles host.files.mappings.mappings (Some (FWrite name offset bytes))) (λ files left up one. one) (stored-weak offset bytes) (room_now now host (state before) inside on serves))
      answer (λ pages. store_refusal host.files.pages.journal (state before).medium pages offset (length bytes)) refl
      (λ h stands.
      let seen = file_seen now host (state before) inside on serves name h stands inode here in
      fate_fwrite h name seen.file (sym stands.mode ∙ on) (named_seen now host (state before) inside on serves name h stands (Some inode) (sym here)) seen.found
      host.files.pages.journal (state before).medium (journal_sizes now host (state before) h inside on serves stands) (units_seen now host (state before) inside on serves name h stands) (metadata_seen h stands)
      offset bytes)
      said.refused said.ok answer_is tt
