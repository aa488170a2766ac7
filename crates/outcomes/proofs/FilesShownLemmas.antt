-- What may be shown of files is left by some cut and restart.
use Rattle.std.proofs.Common.{◌≡◌, inl, inr, ℕ, ◌*◌, Bool, true, false, cond, Option, Some, None, option_map, List, [], ◌∷◌, length, map, refl, sym, ap, subst, ◌∙◌}
use Rattle.std.specs.List.{list_all}
use Rattle.word_tables.specs.declared.geometry.Geometry.{Geometry}
use Rattle.nvm_model.specs.Blocks.{first_there}
use Rattle.nvm_model.specs.Listing.{file_name, has_file}
use Rattle.nvm_model.specs.Page.{Page, first_bad_line}
use Rattle.nvm_model.specs.Storage.{Block, File}
use Rattle.file_pages.specs.Refusals.{poisoned_at}
use Rattle.reply_text.specs.Answer.Answer.{PoisonFile, Refused}
use Rattle.reply_text.specs.declared.reply.Why.{Why}
use Rattle.reply_text.specs.declared.reply.Why.TheVariants as because
use Rattle.script_text.specs.Action.Action.{FRead}
use Rattle.machine_model.specs.Machine.{Machine}
use Rattle.machine_model.specs.Commands.{MayLeaveFiles, refusal}
use Rattle.machine_model.specs.Meaning.{most_refusal}
use Rattle.machine_model.specs.OnFiles.{if_missing}
use Rattle.machine_model.specs.OnPages.{page_answer as file_answer, pages_named}
use Rattle.machine_model.specs.Restarting.{holding}
use Rattle.durable.specs.Durable.{IsComplete}
use Rattle.durable.proofs.FileThereLemmas.{lines-files_left, lines-named}
use Rattle.outcomes.specs.Files.{FileRead, is_file_reply, is_reply_of, reads_of}
use Rattle.outcomes.specs.Outcome.{AllShown, FilesHaveValues, FilesOutcome, Shown}
use Rattle.outcomes.specs.Pages.{is_reply}
use Rattle.outcomes.specs.Pages.PageReply.{Refuses}
use Rattle.outcomes.specs.Seen.{files_may_show, page_answer}
use Rattle.outcomes.specs.Seen.Seen.{of_file}
use Rattle.outcomes.proofs.AmongLemmas.{IsAmong, all_of}
use Rattle.outcomes.proofs.FileLemmas.{replies_at}
use Rattle.outcomes.proofs.FileTellLemmas.{Leaves, among_reads, files_left, files_survive, named-picked, picked_files, picked_has, picked_length}
use Rattle.outcomes.proofs.PickLemmas.{picked_pages}
use Rattle.outcomes.proofs.TellLemmas.{IsRead, Matches, is_read, refused_right}
use Rattle.outcomes.proofs.VolumeLemmas.{eight_words}

module _ (geo : Geometry) (blocks : List Block) (volume : List Page) (files : List File) where
  fread_refusal : (name : List ℕ) (start len : ℕ) → refusal (holding geo blocks volume files) (FRead name start len)
      ≡ first_there (if_missing name files) (first_there (option_map Refused (most_refusal 65536 (4096 * length (pages_named name files)) start len))
      (option_map (file_answer name) (poisoned_at (first_bad_line (pages_named name files) start len))))
  unfolding refusal
  fread_refusal name start len = refl

  -- where the file is there, by its pages, and else since it is missing
  there_shown : (r : FileRead) → has_file file_name r.name files ≡ true → IsRead (4096 * length (pages_named r.name files)) (pages_named r.name files) r.pages
      → Shown (holding geo blocks volume files) (of_file r)
  there_shown r there read = by_both read.why read.line read.refusal read.bad read.matches
    where
      told : (o : Option Why) (l : Option ℕ) → most_refusal 65536 (4096 * length (pages_named r.name files)) r.pages.start r.pages.len ≡ o → first_bad_line (pages_named r.name files) r.pages.start r.pages.len ≡ l
          → refusal (holding geo blocks volume files) (FRead r.name r.pages.start r.pages.len) ≡ first_there (option_map Refused o) (option_map (file_answer r.name) (poisoned_at l))
      told o l why bad =
          fread_refusal r.name r.pages.start r.pages.len
          ∙ ap (λ b. first_there (cond b None (Some (Refused because.Missing))) (first_there (option_map Refused (most_refusal 65536 (4096 * length (pages_named r.name files)) r.pages.start r.pages.len))
          (option_map (file_answer r.name) (poisoned_at (first_bad_line (pages_named r.name files) r.pages.start r.pages.len))))) there
          ∙ ap (λ w. first_there (option_map Refused w) (option_map (file_answer r.name) (poisoned_at (first_bad_line (pages_named r.name files) r.pages.start r.pages.len)))) why
          ∙ ap (λ k. first_there (option_map Refused o) (option_map (file_answer r.name) (poisoned_at k))) bad

      by_both : (o : Option Why) (l : Option ℕ) → most_refusal 65536 (4096 * length (pages_named r.name files)) r.pages.start r.pages.len ≡ o
          → first_bad_line (pages_named r.name files) r.pages.start r.pages.len ≡ l → Matches (pages_named r.name files) r.pages o l → Shown (holding geo blocks volume files) (of_file r)
      by_both (Some w) l why bad is = inl (told (Some w) l why bad ∙ ap (λ reply. Some (page_answer (PoisonFile r.name) reply)) (sym is))
      by_both None (Some n) why bad is = inl (told None (Some n) why bad ∙ ap (λ reply. Some (page_answer (PoisonFile r.name) reply)) (sym is))
      by_both None None why bad is = inr (told None None why bad, ap (page_answer (PoisonFile r.name)) is)

  missing_shown : (r : FileRead) → has_file file_name r.name files ≡ false → r.pages.reply ≡ Refuses because.Missing → Shown (holding geo blocks volume files) (of_file r)
  missing_shown r missing is =
      inl (fread_refusal r.name r.pages.start r.pages.len
      ∙ ap (λ b. first_there (cond b None (Some (Refused because.Missing))) (first_there (option_map Refused (most_refusal 65536 (4096 * length (pages_named r.name files)) r.pages.start r.pages.len))
      (option_map (file_answer r.name) (poisoned_at (first_bad_line (pages_named r.name files) r.pages.start r.pages.len))))) missing
      ∙ ap (λ reply. Some (page_answer (PoisonFile r.name) reply)) (sym is))

  -- by whether it is there
  shown_by : (r : FileRead) → is_file_reply files r ≡ true
      → (is_reply (4096 * length (pages_named r.name files)) r.pages ≡ true → IsRead (4096 * length (pages_named r.name files)) (pages_named r.name files) r.pages)
      → Shown (holding geo blocks volume files) (of_file r)
  shown_by r right read = by_there (has_file file_name r.name files) refl right
    where
      by_there : (b : Bool) → has_file file_name r.name files ≡ b → is_reply_of b (4096 * length (pages_named r.name files)) r.pages ≡ true → Shown (holding geo blocks volume files) (of_file r)
      by_there true there reply = there_shown r there (read reply)
      by_there false missing reply = missing_shown r missing (refused_right because.Missing r.pages.reply reply)

  all_shown_by : (reads : List FileRead) → ((r : FileRead) → IsAmong r reads → Shown (holding geo blocks volume files) (of_file r))
      → AllShown (holding geo blocks volume files) (map of_file reads)
  all_shown_by [] each = tt
  all_shown_by (r ∷ reads) each = (each r (inl refl), all_shown_by reads (λ x among. each x (inr among)))

pub files_found : (off : Machine) (reads : List FileRead) → IsComplete off → FilesHaveValues off → files_may_show off reads ≡ true → FilesOutcome off reads
files_found off reads whole have shows = record {
  left = found.left;
  may = found.may;
  files = picked_files reads found.left;
  kept = files_survive reads found.left found.values;
  shown = λ blocks volume. all_shown_by off.geometry blocks volume (picked_files reads found.left) reads (λ r among.
      shown_by off.geometry blocks volume (picked_files reads found.left) r (all_of (is_file_reply (picked_files reads found.left)) r reads right among) (read r among));
}
  where
    found : Leaves reads (MayLeaveFiles off.mappings off.interrupted off.files)
    found = files_left reads off.mappings off.interrupted off.files have.0 have.1 shows

    right : list_all (is_file_reply (picked_files reads found.left)) reads ≡ true
    right = replies_at reads found.left (picked_files reads found.left) (λ name. picked_has reads name found.left) (λ name. picked_length reads name found.left) found.right

    read : (r : FileRead) → IsAmong r reads → is_reply (4096 * length (pages_named r.name (picked_files reads found.left))) r.pages ≡ true
        → IsRead (4096 * length (pages_named r.name (picked_files reads found.left))) (pages_named r.name (picked_files reads found.left)) r.pages
    read r among reply =
        let lines = lines-named r.name found.left (lines-files_left off.mappings off.interrupted off.files found.left whole.file_lines found.may) in
        subst (λ p. is_reply (4096 * length p) r.pages ≡ true → IsRead (4096 * length p) p r.pages) (sym (named-picked reads r.name found.left))
        (λ fits. is_read (reads_of r.name reads) (pages_named r.name found.left) (eight_words (pages_named r.name found.left) lines) (found.fit r among)
        (4096 * length (picked_pages (reads_of r.name reads) (pages_named r.name found.left))) r.pages (among_reads r reads among) fits) reply
