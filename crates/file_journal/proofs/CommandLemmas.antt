-- What the calls that change which files there are make of the files that a device stands for.
use Rattle.std.proofs.Common.{◌≡◌, ◌≢◌, ◌⊎◌, ◌==◌, ◌≤◌, ℕ, Bool, true, false, nat_lt, List, Option, Some, None, Result, Ok, Err, OnOk, refl, sym, subst, ◌∙◌}
use Rattle.std.proofs.lemmas.Bool.{eq-eqb, false≢true, ltb-false}
use Rattle.line_device.specs.Medium.{Medium}
use Rattle.line_words.specs.Told.{Answers, OnWorked}
use Rattle.nvm_base.specs.Names.{is_name}
use Rattle.nvm_base.proofs.FirstLemmas.{neither_there}
use Rattle.word_tables.specs.declared.geometry.Geometry.{Geometry}
use Rattle.word_tables.specs.Layout.{file_pages, HasLine}
use Rattle.inode_table.specs.Slots.{file_count}
use Rattle.nvm_model.specs.Blocks.{first_there}
use Rattle.nvm_model.specs.Files.{new_file, with_name, with_pages}
use Rattle.nvm_model.specs.Listing.{change_file, file_name, put_file, rename_file, without_file}
use Rattle.nvm_model.specs.Storage.{File}
use Rattle.nvm_model.proofs.KeptLemmas.{LineKept}
use Rattle.file_journal.specs.declared.fault.JournalFault.{JournalFault}
use Rattle.file_journal.specs.Changes.{created, deleted, renamed, resized}
use Rattle.file_journal.specs.Images.{EachReadsTables, IsEither}
use Rattle.file_journal.specs.Object.{JournalState}
use Rattle.file_journal.specs.Refusals.{JournalRefusal, create_refusal, delete_refusal, exists_refusal, journal_says, limit_refusal, metadata_refusal, missing_refusal, refused_if, rename_refusal, resize_refusal, slots_refusal}
use Rattle.file_journal.specs.Standing.{EachReadsFiles, FilesStand}
use Rattle.file_journal.specs.Tables.{AreTables, Tables, has_file}
use Rattle.file_journal.proofs.FileChangeLemmas.{Becomes, changed_images, created_becomes, deleted_becomes, renamed_becomes, resized_becomes}
use Rattle.file_journal.proofs.StandingLemmas.{files-kept}

-- a condition that refuses nothing does not hold
not_refused : (holds : Bool) (why : JournalRefusal) → refused_if holds why ≡ None → holds ≡ false
not_refused true why is = cc is
not_refused false why is = refl

not_limit : (pages : ℕ) → limit_refusal pages ≡ None → pages ≤ 256
not_limit pages is = ltb-false 256 pages (not_refused (nat_lt 256 pages) _ is)

not_full : (count : ℕ) → (count == 64) ≡ false → count ≢ 64
not_full count other same = false≢true (sym other ∙ eq-eqb count 64 same)

module _ (s : JournalState) (m : Medium) (name : List ℕ) (are : AreTables s.geo.fpages s.tables) where
  -- each call that is not refused
  pub create_becomes : (pages : ℕ) → is_name name ≡ true → create_refusal s m name pages ≡ None → Becomes s.geo s.tables (created name pages s.tables) (put_file file_name (new_file name pages))
  create_becomes pages good none =
      let later = first_there (limit_refusal pages) (first_there (slots_refusal s) (metadata_refusal s.geo m)) in
      let first = neither_there (exists_refusal s name) later none in
      let second = neither_there (limit_refusal pages) (first_there (slots_refusal s) (metadata_refusal s.geo m)) first.1 in
      let third = neither_there (slots_refusal s) (metadata_refusal s.geo m) second.1 in
      created_becomes s.geo s.tables are name pages good
      (not_limit pages second.0)
      (not_refused (has_file s.tables name) _ first.0)
      (not_full (file_count s.tables.files) (not_refused (file_count s.tables.files == 64) _ third.0))

  pub delete_becomes : delete_refusal s m name ≡ None → Becomes s.geo s.tables (deleted name s.tables) (without_file file_name name)
  delete_becomes none = deleted_becomes s.geo s.tables are name

  pub rename_becomes : (to : List ℕ) → is_name to ≡ true → rename_refusal s m name to ≡ None → Becomes s.geo s.tables (renamed name to s.tables) (rename_file file_name name (with_name to))
  rename_becomes to good none =
      let first = neither_there (missing_refusal s name) (first_there (exists_refusal s to) (metadata_refusal s.geo m)) none in
      renamed_becomes s.geo s.tables are name to good (not_refused (has_file s.tables to) _ (neither_there (exists_refusal s to) (metadata_refusal s.geo m) first.1).0)

  pub resize_becomes : (pages : ℕ) → resize_refusal s m name pages ≡ None → Becomes s.geo s.tables (resized name pages s.tables) (change_file file_name name (with_pages pages))
  resize_becomes pages none =
      let first = neither_there (missing_refusal s name) (first_there (limit_refusal pages) (metadata_refusal s.geo m)) none in
      resized_becomes s.geo s.tables are name pages (not_limit pages (neither_there (limit_refusal pages) (metadata_refusal s.geo m) first.1).0)

-- What is known of a call that was not refused, and of one that ended well.
pub on_worked-answers : {T P Q : Type 0} (refusal : Option JournalRefusal) (r : Result T JournalFault) → Answers journal_says refusal r → (refusal ≡ None → P → Q)
    → OnWorked journal_says r P → OnWorked journal_says r Q
on_worked-answers None (Ok x) answers then holds = then refl holds
on_worked-answers None (Err fault) answers then holds = λ stop. then refl (holds stop)
on_worked-answers (Some why) (Ok x) answers then holds = absurd answers
on_worked-answers (Some why) (Err fault) answers then holds = λ stop. cc (answers, stop)

pub on_ok-answers : {T P Q : Type 0} (refusal : Option JournalRefusal) (r : Result T JournalFault) → Answers journal_says refusal r → (refusal ≡ None → P → Q) → OnOk r P → OnOk r Q
on_ok-answers None (Ok x) answers then holds = then refl holds
on_ok-answers None (Err fault) answers then holds = holds
on_ok-answers (Some why) (Ok x) answers then holds = absurd answers
on_ok-answers (Some why) (Err fault) answers then holds = holds

-- Such a call leaves, of the files that journal and device stood for, these or those after it; and those after it once it is done.
module _ {T : Type 0} (geo : Geometry) (old new : Medium) (t after : Tables) (f : List File → List File) (refusal : Option JournalRefusal) (r : Result T JournalFault)
    (answers : Answers journal_says refusal r) (are : AreTables geo.fpages t) (becomes : refusal ≡ None → Becomes geo t after f)
    (kept : (n : ℕ) → HasLine geo file_pages n → LineKept old new n) (files : List File) (stand : FilesStand geo old t files) where
  pub called_images : OnWorked journal_says r (EachReadsTables geo new (IsEither t after)) → OnWorked journal_says r (EachReadsFiles geo new (λ x. (x ≡ files) ⊎ (x ≡ f files)))
  called_images images = on_worked-answers refusal r answers (λ none each. changed_images geo old new t after f files are (becomes none) stand kept each) images

  pub called_stands : (now : Tables) → OnOk r (now ≡ after) → OnOk r (AreTables geo.fpages now × FilesStand geo new now (f files))
  called_stands now ok =
      on_ok-answers refusal r answers
      (λ none same.
      let next = becomes none in
      let stands = next.keeps new files (files-kept geo old new t files are kept stand) in
      subst (λ (x : Tables). AreTables geo.fpages x × FilesStand geo new x (f files)) (sym same) (next.right, stands))
      ok
