-- What comes of the actions that leave a file old or new, by what they refuse.
use Rattle.std.proofs.Common.{◌≡◌, ◌+◌, ◌==◌, ℕ, Bool, true, false, Option, Some, None, option_map, List, length, nat_lt, if◌then◌else◌, refl, ap, ap₂, ◌∙◌}
use Rattle.line_device.specs.Medium.{Medium}
use Rattle.nvm_base.specs.declared.units.Span.{Span}
use Rattle.page_table.specs.Pages.{used_pages}
use Rattle.nvm_model.specs.Blocks.{first_there}
use Rattle.nvm_model.specs.Listing.{file_name, file_of, has_file}
use Rattle.nvm_model.specs.Page.{Page, presence_of}
use Rattle.nvm_model.specs.Storage.{File}
use Rattle.file_actions.specs.Refusals.{ActionRefusal, discard_refusal, full_refusal, holes_touched, poisoned_at, refused_if, together_refusal, write_refusal}
use Rattle.file_actions.specs.Refusals as refusals
use Rattle.file_actions.specs.Refusals.ActionRefusal.{Range, Length, Full}
use Rattle.file_actions.specs.Rewriting.{first_lost}
use Rattle.file_journal.specs.Object.{JournalState}
use Rattle.reply_text.specs.declared.reply.Why.TheVariants as because
use Rattle.reply_text.specs.Answer.{Answer}
use Rattle.reply_text.specs.Answer.Answer.{Done, Refused}
use Rattle.script_text.specs.Action.{Action}
use Rattle.script_text.specs.Action.Action.{FDiscard}
use Rattle.machine_model.specs.declared.mode.Mode.TheVariants.{On}
use Rattle.machine_model.specs.Machine.{Machine, Fate}
use Rattle.machine_model.specs.Machine.Fate.{Works}
use Rattle.machine_model.specs.Meaning.{Meaning, first_reason, metadata_refusal, span_refusal}
use Rattle.machine_model.specs.Commands.{fate, meaning, unless_refused}
use Rattle.machine_model.specs.OnFileActions.{action_answer, discarded_in, fmulti, written_together}
use Rattle.machine_model.specs.OnPages.{if_full, pages_used}
use Rattle.machine_host.proofs.FilePageFateLemmas.{full_seen, pages_are, there}
use Rattle.machine_model.proofs.RefusalLemmas.{fate_usable, mapped_first}

-- Of a file that is there, by a journal of the same sizes whose tables use as many units, and the bad lines of metadata.
module _ (h : Machine) (name : List ℕ) (file : File) (on : h.mode ≡ On) (has : has_file file_name name h.files ≡ true) (found : file_of file_name name h.files ≡ Some file)
    (s : JournalState) (m : Medium) (sizes : s.geo ≡ h.geometry) (used : pages_used h.files ≡ used_pages s.tables.pages)
    (meta : metadata_refusal true h.bad_meta ≡ option_map (action_answer name) (refusals.metadata_refusal s.geo m)) where
  abbrev together_fate : Option Answer → List Page → List Span → List ℕ → Fate
  together_fate named pages ranges bytes =
      unless_refused h
      (first_there named (first_there (option_map (action_answer name) (together_refusal (length pages) ranges)) (first_there (if_full h (holes_touched ranges (presence_of pages)))
      (first_there (metadata_refusal true h.bad_meta) (option_map (action_answer name) (poisoned_at (first_lost ranges pages)))))))
      (Works Done (record h { files = written_together name ranges bytes h.files }))

  pub fate_together : (action : Action) (ranges : List Span) (bytes : List ℕ) → meaning action ≡ fmulti name ranges bytes
      → fate h action ≡ unless_refused h (option_map (action_answer name) (write_refusal s m file.pages ranges)) (Works Done (record h { files = written_together name ranges bytes h.files }))
  fate_together action ranges bytes row =
      let holes = holes_touched ranges (presence_of file.pages) in
      let extent = together_refusal (length file.pages) ranges in
      let bad = refusals.metadata_refusal s.geo m in
      let poison = poisoned_at (first_lost ranges file.pages) in
      let answer : ActionRefusal → Answer = action_answer name in
      let comes : Fate = Works Done (record h { files = written_together name ranges bytes h.files }) in
      fate_usable h action (ap (λ (t : Meaning). t.needs) row) on
      ∙ ap (λ (t : Meaning). unless_refused h (first_reason None h.bad_meta (t.reasons h)) (t.comes h)) row
      ∙ ap₂ (λ o pages. together_fate o pages ranges bytes) (there h name file on has found) (pages_are h name file on has found)
      ∙ ap (λ o. unless_refused h o comes)
      (ap₂ (λ full meta. first_there (option_map answer extent) (first_there full (first_there meta (option_map answer poison)))) (full_seen h s (action_answer name) Full refl sizes used holes) meta
      ∙ ap (λ o. first_there (option_map answer extent) (first_there (option_map answer (full_refusal s holes)) o)) (mapped_first answer bad poison)
      ∙ ap (first_there (option_map answer extent)) (mapped_first answer (full_refusal s holes) (first_there bad poison))
      ∙ mapped_first answer extent (first_there (full_refusal s holes) (first_there bad poison)))

  by_span : (past empty : Bool) (rest : Option ActionRefusal)
      → first_there (option_map Refused (if past then Some because.Range else (if empty then Some because.Length else None))) (first_there (option_map (action_answer name) rest) None)
      ≡ option_map (action_answer name) (first_there (first_there (refused_if past Range) (refused_if empty Length)) rest)
  by_span true empty rest = refl
  by_span false true rest = refl
  by_span false false None = refl
  by_span false false (Some why) = refl

  abbrev discard_fate : Option Answer → List Page → Span → Fate
  discard_fate named pages span =
      unless_refused h
      (first_there named (first_there (option_map Refused (span_refusal (length pages) span.start span.len)) (first_there (metadata_refusal true h.bad_meta) None)))
      (Works Done (record h { files = discarded_in name span.start span.len h.files }))

  pub fate_discard : (span : Span)
      → fate h (FDiscard name span.start span.len) ≡ unless_refused h (option_map (action_answer name) (discard_refusal s m file.pages span)) (Works Done (record h { files = discarded_in name span.start span.len h.files }))
  fate_discard span =
      let comes : Fate = Works Done (record h { files = discarded_in name span.start span.len h.files }) in
      fate_usable h (FDiscard name span.start span.len) refl on
      ∙ ap₂ (λ o pages. discard_fate o pages span) (there h name file on has found) (pages_are h name file on has found)
      ∙ ap (λ o. unless_refused h o comes)
      (ap (λ meta. first_there (option_map Refused (span_refusal (length file.pages) span.start span.len)) (first_there meta None)) meta
      ∙ by_span (nat_lt (length file.pages) (span.start + span.len)) (span.len == 0) (refusals.metadata_refusal s.geo m))
