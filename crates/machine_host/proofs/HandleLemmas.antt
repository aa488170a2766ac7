-- A load or a store through a shared mapping is a read or a write of its file.
use Rattle.std.proofs.Common.{◌≡◌, ◌+◌, ◌*◌, ◌≤◌, ◌∙◌, ℕ, true, Option, Some, None, option_map, List, length, refl, sym, ap, ap₂, subst, arith, if◌then◌else◌}
use Rattle.nvm_model.specs.Listing.{file_name, file_of, has_file}
use Rattle.nvm_model.specs.Mappings.{is_shared, mapping_of}
use Rattle.nvm_model.specs.Page.{Page, absent_touched, first_bad_line, first_uncovered_line, look, presence_of, touches_absent}
use Rattle.nvm_model.specs.Storage.{Block, File, Mapping}
use Rattle.file_pages.specs.Refusals.{bytes_refusal, poisoned_at}
use Rattle.reply_text.specs.declared.reply.Why.TheVariants as because
use Rattle.reply_text.specs.Answer.{Answer}
use Rattle.reply_text.specs.Answer.Answer.{Bytes, Done, Refused}
use Rattle.script_text.specs.Action.{Action}
use Rattle.script_text.specs.Action.Action.{FRead, FWrite, Load, Store}
use Rattle.machine_model.specs.declared.mode.Mode.TheVariants.{On}
use Rattle.machine_model.specs.declared.needs.Needs.TheVariants.{Usable}
use Rattle.machine_model.specs.Commands.{LeavesBlocks, LeavesFiles, LeavesVolume, MayLeaveBlocks, MayLeaveVolume, meaning, unless_refused}
use Rattle.machine_model.specs.Costs.{no_spending}
use Rattle.machine_model.specs.Machine.{Machine}
use Rattle.machine_model.specs.Machine.Fate.{Gives, Works}
use Rattle.machine_model.specs.Meaning.{Meaning, Reasons, first_reason, most_refusal, no_reasons, span_refusal}
use Rattle.machine_model.specs.Meaning.FilesLeft.{Unchanged}
use Rattle.machine_model.specs.OnFiles.{if_missing}
use Rattle.machine_model.specs.OnMappings.{by_handle, load_through, read_copy, store_through, within_mapping, write_copy}
use Rattle.machine_model.specs.OnPages.{fread, fwrite, if_full, page_answer, pages_named, stored_in}
use Rattle.machine_host.proofs.AsLemmas.{IsAs}
use Rattle.machine_host.proofs.FilePageFateLemmas.{bytes_right, pages_are}
use Rattle.machine_model.proofs.RefusalLemmas.{fate_usable, read_right, read_within, span_allowed}

-- a command by handle, as the mapping with that handle has it
module _ (h : Machine) (a b : Action) (handle room : ℕ) (of : Mapping → Meaning) (row : meaning b ≡ by_handle room handle of) (m : Mapping) (is : mapping_of handle h.mappings ≡ Some m)
    (places : Option Answer) (shows : of m ≡ within_mapping places (meaning a)) (on : h.mode ≡ On) (needs : (meaning a).needs ≡ Usable) (good : Answer) (to : Machine)
    (works : (meaning a).comes h ≡ Works good to) (reasons : record ((meaning a).reasons h) { named = None; places = places } ≡ (meaning a).reasons h)
    (blocks : (new : List Block) → MayLeaveBlocks (Some a) h.blocks new → new ≡ h.blocks) (volume : (new : List Page) → MayLeaveVolume h.geometry (Some a) h.volume new → new ≡ h.volume) where
  reasons_are : (meaning b).reasons h ≡ (meaning a).reasons h
  reasons_are =
      ap (λ (x : Meaning). x.reasons h) row ∙ ap (λ (o : Option Mapping). elim o [ None ↦ record no_reasons { named = Some (Refused because.Handle) } | Some n ↦ (of n).reasons h ]) is
      ∙ ap (λ (x : Meaning). x.reasons h) shows ∙ reasons

  comes_is : (meaning b).comes h ≡ (meaning a).comes h
  comes_is = ap (λ (x : Meaning). x.comes h) row ∙ ap (λ (o : Option Mapping). elim o [ None ↦ Gives Done h | Some n ↦ (of n).comes h ]) is ∙ ap (λ (x : Meaning). x.comes h) shows

  as_through : IsAs h a b
  as_through = record {
    why = first_reason None h.bad_meta ((meaning a).reasons h);
    good = good;
    to = to;
    comes = fate_usable h a needs on ∙ ap (unless_refused h (first_reason None h.bad_meta ((meaning a).reasons h))) works;
    same = fate_usable h b (ap (λ (x : Meaning). x.needs) row) on ∙ ap₂ (λ r c. unless_refused h (first_reason None h.bad_meta r) c) reasons_are comes_is ∙ sym (fate_usable h a needs on);
    spends = ap (λ (x : Meaning). x.spends h) row ∙ ap (λ (o : Option Mapping). elim o [ None ↦ no_spending | Some n ↦ (of n).spends h ]) is ∙ ap (λ (x : Meaning). x.spends h) shows;
    blocks = λ new may. subst (λ (x : Meaning). LeavesBlocks x.blocks_left h.blocks (x.blocks h.blocks) new) (sym row) (blocks new may);
    volume = λ new may. subst (λ (x : Meaning). LeavesVolume (x.volume_left h.geometry) h.volume (x.volume h.geometry h.volume) new) (sym row) (volume new may);
    files = λ new may.
        subst (λ (x : Meaning). LeavesFiles (x.files_left h.mappings) h.files (x.files h.mappings h.files) new) (sym row)
        (subst (λ (o : Option Mapping). LeavesFiles (elim o [ None ↦ Unchanged | Some n ↦ (of n).files_left h.mappings ]) h.files (elim o [ None ↦ h.files | Some n ↦ (of n).files h.mappings h.files ]) new) (sym is)
        (subst (λ (x : Meaning). LeavesFiles (x.files_left h.mappings) h.files (x.files h.mappings h.files) new) (sym shows) may));
  }

-- of a shared mapping whose file is there and has its stretch
module _ (h : Machine) (on : h.mode ≡ On) (handle : ℕ) (m : Mapping) (is : mapping_of handle h.mappings ≡ Some m) (shared : is_shared m.kind ≡ true) (file : File)
    (has : has_file file_name m.name h.files ≡ true) (found : file_of file_name m.name h.files ≡ Some file) (whole : m.start + m.len ≤ 4096 * length file.pages) where
  there : if_missing m.name h.files ≡ None
  there = ap (λ b. if b then None else Some (Refused because.Missing)) has

  pages_is : pages_named m.name h.files ≡ file.pages
  pages_is = pages_are h m.name file on has found

  pub load_as : (offset len : ℕ) → most_refusal 65536 m.len offset len ≡ None → IsAs h (FRead m.name (m.start + offset) len) (Load handle offset len)
  load_as offset len right =
      let within = read_within 65536 m.len offset len right in
      let here : most_refusal 65536 (4096 * length (pages_named m.name h.files)) (m.start + offset) len ≡ None =
      ap (λ (pages : List Page). most_refusal 65536 (4096 * length pages) (m.start + offset) len) pages_is ∙ read_right 65536 (4096 * length file.pages) (m.start + offset) len within.0 (omega (arith, within.1, whole)) within.2 in
      as_through h (FRead m.name (m.start + offset) len) (Load handle offset len) handle _ (load_through offset len) refl m is (option_map Refused (most_refusal 65536 m.len offset len))
      (ap (λ b. within_mapping (option_map Refused (most_refusal 65536 m.len offset len)) (if b then fread m.name (m.start + offset) len else read_copy m offset len)) shared)
      on refl (Bytes (look (pages_named m.name h.files) (m.start + offset) len)) h refl
      (ap₂ (λ n p. let r : Reasons = record no_reasons { named = n; places = option_map Refused p; unreadable = option_map (page_answer m.name) (poisoned_at (first_bad_line (pages_named m.name h.files) (m.start + offset) len)) } in r)
      (sym there) (right ∙ sym here))
      (λ new same. same) (λ new same. same)

  pub store_as : (offset : ℕ) (bytes : List ℕ) → span_refusal m.len offset (length bytes) ≡ None → IsAs h (FWrite m.name (m.start + offset) bytes) (Store handle offset bytes)
  store_as offset bytes right =
      let within = span_allowed m.len offset (length bytes) right in
      let here : bytes_refusal (length (pages_named m.name h.files)) (m.start + offset) (length bytes) ≡ None =
      ap (λ (pages : List Page). bytes_refusal (length pages) (m.start + offset) (length bytes)) pages_is ∙ bytes_right (length file.pages) (m.start + offset) (length bytes) within.0 (omega (arith, within.1, whole)) in
      let pages = pages_named m.name h.files in
      as_through h (FWrite m.name (m.start + offset) bytes) (Store handle offset bytes) handle _ (store_through handle offset bytes) refl m is (option_map Refused (span_refusal m.len offset (length bytes)))
      (ap (λ b. within_mapping (option_map Refused (span_refusal m.len offset (length bytes))) (if b then fwrite m.name (m.start + offset) bytes else write_copy handle offset bytes)) shared)
      on refl Done (record h { files = stored_in m.name (m.start + offset) bytes h.files }) refl
      (ap₂ (λ n p. let r : Reasons = record {
        named = n;
        places = p;
        full = if_full h (absent_touched (m.start + offset) (length bytes) (presence_of pages));
        changes_metadata = touches_absent (m.start + offset) (length bytes) (presence_of pages);
        unreadable = option_map (page_answer m.name) (poisoned_at (first_uncovered_line pages (m.start + offset) (length bytes)));
      } in r)
      (sym there) (ap (option_map Refused) right ∙ sym (ap (option_map (page_answer m.name)) here)))
      (λ new same. same) (λ new same. same)
