-- What comes of the commands on the bytes of files, by what the pages of the file refuse.
use Rattle.std.proofs.Common.{◌≡◌, ◌+◌, ◌-◌, ◌*◌, ◌==◌, ◌≤◌, ℕ, Bool, true, false, Option, Some, None, option_map, List, [], length, nat_lt, if◌then◌else◌, refl, sym, ap, ap₂, ◌∙◌, arith}
use Rattle.std.proofs.lemmas.Bool.{le-ltb, ne_eqb}
use Rattle.line_device.specs.Medium.{Medium}
use Rattle.word_tables.specs.declared.geometry.Geometry.{Geometry}
use Rattle.page_table.specs.Pages.{used_pages}
use Rattle.nvm_model.specs.Blocks.{first_there}
use Rattle.nvm_model.specs.Listing.{file_name, file_of, has_file}
use Rattle.nvm_model.specs.Page.{Page, absent_touched, first_bad_line, first_uncovered_line, look, presence_of, touches_absent}
use Rattle.nvm_model.specs.Storage.{File}
use Rattle.file_journal.specs.Object.{JournalState}
use Rattle.file_pages.specs.Refusals.{PageRefusal, bytes_refusal, full_refusal, metadata_refusal_if, poisoned_at, read_refusal, refused_if, store_refusal}
use Rattle.file_pages.specs.Refusals.PageRefusal.{Range, Length, Full}
use Rattle.reply_text.specs.declared.reply.Why.{Why}
use Rattle.reply_text.specs.declared.reply.Why.TheVariants as because
use Rattle.reply_text.specs.Answer.{Answer}
use Rattle.reply_text.specs.Answer.Answer.{Done, Bytes, Refused}
use Rattle.script_text.specs.Action.{Action}
use Rattle.script_text.specs.Action.Action.{FRead, FWrite}
use Rattle.machine_model.specs.declared.mode.Mode.TheVariants.{On}
use Rattle.machine_model.specs.declared.needs.Needs.TheVariants.{Usable}
use Rattle.machine_model.specs.Machine.{Machine, Fate}
use Rattle.machine_model.specs.Machine.Fate.{Gives, Works}
use Rattle.machine_model.specs.Meaning.{metadata_refusal, most_refusal}
use Rattle.machine_model.specs.Commands.{fate, meaning, unless_refused}
use Rattle.machine_model.specs.OnFiles.{if_missing}
use Rattle.machine_model.specs.OnPages.{if_full, page_answer, pages_named, pages_used, stored_in}
use Rattle.machine_model.proofs.RefusalLemmas.{fate_usable, mapped_first, read_right}

-- what a command names is missing
pub fate_unnamed : (h : Machine) (action : Action) (answer : Answer) → (meaning action).needs ≡ Usable → h.mode ≡ On → ((meaning action).reasons h).named ≡ Some answer → fate h action ≡ Gives answer h
fate_unnamed h action answer needs on named =
    let r = (meaning action).reasons h in
    fate_usable h action needs on
    ∙ ap (λ o. unless_refused h (first_there o (first_there r.places (first_there r.full (first_there (metadata_refusal r.changes_metadata h.bad_meta) r.unreadable)))) ((meaning action).comes h)) named

-- bytes that are there
pub bytes_right : (pages offset len : ℕ) → 1 ≤ len → offset + len ≤ 4096 * pages → bytes_refusal pages offset len ≡ None
bytes_right pages offset len some within =
    ap (λ b. first_there (refused_if b Range) (refused_if (len == 0) Length)) (le-ltb (4096 * pages) (offset + len) within)
    ∙ ap (λ b. refused_if b Length) (ne_eqb len 0 (λ e. omega arith))

-- too few units would be left, by a journal of the same sizes whose tables use as many
pub full_seen : {R : Type 0} (h : Machine) (s : JournalState) (answer : R → Answer) (full : R) → answer full ≡ Refused because.Full → s.geo ≡ h.geometry → pages_used h.files ≡ used_pages s.tables.pages → (holes : ℕ)
    → if_full h holes ≡ option_map answer (if nat_lt (s.geo.fpages - 16) (used_pages s.tables.pages + holes) then Some full else None)
full_seen h s answer full is sizes used holes =
    ap₂ (λ (g : Geometry) (n : ℕ). if nat_lt (g.fpages - 16) (n + holes) then Some (Refused because.Full) else None) (sym sizes) used
    ∙ by_test (nat_lt (s.geo.fpages - 16) (used_pages s.tables.pages + holes))
  where
    by_test : (test : Bool) → (if test then Some (Refused because.Full) else None) ≡ option_map answer (if test then Some full else None)
    by_test true = ap Some (sym is)
    by_test false = refl

-- Of a file that is there.
module _ (h : Machine) (name : List ℕ) (file : File) (on : h.mode ≡ On) (has : has_file file_name name h.files ≡ true) (found : file_of file_name name h.files ≡ Some file) where
  pub there : if_missing name h.files ≡ None
  there = ap (λ b. if b then None else Some (Refused because.Missing)) has

  pub pages_are : pages_named name h.files ≡ file.pages
  pages_are = ap (λ (o : Option File). elim o [ None ↦ [] | Some f ↦ f.pages ]) found

  abbrev read_fate : Option Answer → List Page → ℕ → ℕ → Fate
  read_fate named pages offset len =
      unless_refused h
      (first_there named (first_there (option_map Refused (most_refusal 65536 (4096 * length pages) offset len)) (option_map (page_answer name) (poisoned_at (first_bad_line pages offset len)))))
      (Works (Bytes (look pages offset len)) h)

  fate_fread : (offset len : ℕ) → fate h (FRead name offset len) ≡ read_fate None file.pages offset len
  fate_fread offset len = fate_usable h (FRead name offset len) refl on ∙ ap₂ (λ o pages. read_fate o pages offset len) there pages_are

  -- it has no such bytes, or they are too many for one read
  pub fate_misread : (offset len : ℕ) (why : Why) → most_refusal 65536 (4096 * length file.pages) offset len ≡ Some why → fate h (FRead name offset len) ≡ Gives (Refused why) h
  fate_misread offset len why is =
      fate_fread offset len
      ∙ ap (λ o. unless_refused h (first_there (option_map Refused o) (option_map (page_answer name) (poisoned_at (first_bad_line file.pages offset len)))) (Works (Bytes (look file.pages offset len)) h)) is

  -- it has them
  pub fate_read_within : (offset len : ℕ) → 1 ≤ len → offset + len ≤ 4096 * length file.pages → len ≤ 65536
      → fate h (FRead name offset len) ≡ unless_refused h (option_map (page_answer name) (read_refusal file.pages offset len)) (Works (Bytes (look file.pages offset len)) h)
  fate_read_within offset len some within few =
      let poison = poisoned_at (first_bad_line file.pages offset len) in
      let comes : Fate = Works (Bytes (look file.pages offset len)) h in
      fate_fread offset len
      ∙ ap (λ o. unless_refused h (first_there (option_map Refused o) (option_map (page_answer name) poison)) comes) (read_right 65536 (4096 * length file.pages) offset len some within few)
      ∙ ap (λ o. unless_refused h (option_map (page_answer name) (first_there o poison)) comes) (sym (bytes_right (length file.pages) offset len some within))

  -- By a journal of the same sizes whose tables use as many units, and the bad lines of metadata.
  module _ (s : JournalState) (m : Medium) (sizes : s.geo ≡ h.geometry) (used : pages_used h.files ≡ used_pages s.tables.pages)
      (meta : (changes : Bool) → metadata_refusal changes h.bad_meta ≡ option_map (page_answer name) (metadata_refusal_if changes s.geo m)) where
    abbrev write_fate : Option Answer → List Page → ℕ → List ℕ → Fate
    write_fate named pages offset bytes =
        let len = length bytes in
        unless_refused h
        (first_there named (first_there (option_map (page_answer name) (bytes_refusal (length pages) offset len)) (first_there (if_full h (absent_touched offset len (presence_of pages)))
        (first_there (metadata_refusal (touches_absent offset len (presence_of pages)) h.bad_meta) (option_map (page_answer name) (poisoned_at (first_uncovered_line pages offset len)))))))
        (Works Done (record h { files = stored_in name offset bytes h.files }))

    pub fate_fwrite : (offset : ℕ) (bytes : List ℕ)
        → fate h (FWrite name offset bytes)
        ≡ unless_refused h (option_map (page_answer name) (store_refusal s m file.pages offset (length bytes))) (Works Done (record h { files = stored_in name offset bytes h.files }))
    fate_fwrite offset bytes =
        let len = length bytes in
        let holes = absent_touched offset len (presence_of file.pages) in
        let touches = touches_absent offset len (presence_of file.pages) in
        let extent = bytes_refusal (length file.pages) offset len in
        let poison = poisoned_at (first_uncovered_line file.pages offset len) in
        let answer : PageRefusal → Answer = page_answer name in
        let comes : Fate = Works Done (record h { files = stored_in name offset bytes h.files }) in
        fate_usable h (FWrite name offset bytes) refl on
        ∙ ap₂ (λ o pages. write_fate o pages offset bytes) there pages_are
        ∙ ap (λ o. unless_refused h o comes)
        (ap₂ (λ full meta. first_there (option_map answer extent) (first_there full (first_there meta (option_map answer poison)))) (full_seen h s (page_answer name) Full refl sizes used holes) (meta touches)
        ∙ ap (λ o. first_there (option_map answer extent) (first_there (option_map answer (full_refusal s holes)) o)) (mapped_first answer (metadata_refusal_if touches s.geo m) poison)
        ∙ ap (first_there (option_map answer extent)) (mapped_first answer (full_refusal s holes) (first_there (metadata_refusal_if touches s.geo m) poison))
        ∙ mapped_first answer extent (first_there (full_refusal s holes) (first_there (metadata_refusal_if touches s.geo m) poison)))
