-- What comes of the commands on files, by what their journal refuses.
use Rattle.std.proofs.Common.{◌≡◌, ◌==◌, ◌≤◌, ℕ, Bool, true, false, not, Option, Some, None, option_map, List, length, nat_lt, if◌then◌else◌, refl, sym, ap, ap₂, ◌∙◌, arith}
use Rattle.std.proofs.lemmas.Bool.Decides.{nat_tests}
use Rattle.line_device.specs.Medium.{Medium}
use Rattle.nvm_base.specs.Names.{is_name}
use Rattle.inode_table.specs.Slots.{file_count}
use Rattle.nvm_model.specs.Blocks.{first_there}
use Rattle.nvm_model.specs.Files.{new_file, with_name, with_pages}
use Rattle.nvm_model.specs.Listing.{change_file, file_name, has_file, put_file, rename_file, without_file}
use Rattle.nvm_model.specs.Mappings.{is_mapped}
use Rattle.nvm_model.specs.Storage.{File, Mapping}
use Rattle.file_journal.specs.Changes.{created, deleted, renamed, resized}
use Rattle.file_journal.specs.Object.{JournalState}
use Rattle.file_journal.specs.Refusals as journal
use Rattle.file_journal.specs.Refusals.{JournalRefusal, create_refusal, delete_refusal, exists_refusal, limit_refusal, missing_refusal, refused_if, rename_refusal, resize_refusal, slots_refusal}
use Rattle.file_journal.specs.Refusals.JournalRefusal.{Missing, Exists, Limit, Slots}
use Rattle.file_journal.specs.Tables as tables
use Rattle.file_journal.specs.Tables.{AreTables}
use Rattle.file_journal.specs.Device.{device_files}
use Rattle.file_journal.proofs.AgreeLemmas.{has_file-stands}
use Rattle.file_journal.proofs.DeviceFileLemmas.{device_files-stand}
use Rattle.file_journal.proofs.FileChangeLemmas.{Becomes, created_becomes, deleted_becomes, renamed_becomes, resized_becomes}
use Rattle.reply_text.specs.Answer.{Answer}
use Rattle.reply_text.specs.Answer.Answer.{Done, Refused}
use Rattle.reply_text.specs.declared.reply.Why.TheVariants as because
use Rattle.script_text.specs.Action.Action.{Create, Delete, Rename, Resize}
use Rattle.machine_model.specs.declared.mode.Mode.TheVariants.{On}
use Rattle.machine_model.specs.Machine.{Machine, Fate}
use Rattle.machine_model.specs.Machine.Fate.{Works}
use Rattle.machine_model.specs.Meaning.{metadata_refusal}
use Rattle.machine_model.specs.Commands.{fate, unless_refused}
use Rattle.machine_model.specs.OnFiles.{if_exists, if_many_files, if_many_pages, if_mapped, if_missing, journal_answer}
use Rattle.machine_host.proofs.MappedLemmas.{Spares, spares-create, spares-rename}
use Rattle.machine_model.proofs.RefusalLemmas.{fate_usable, first_alone, first_assoc, mapped_first}

-- a file that has no mapping is not refused for one
unmapped : (name : List ℕ) (mappings : List Mapping) (o : Option Answer) → is_mapped name mappings ≡ false → first_there o (if_mapped name mappings) ≡ o
unmapped name mappings o free = ap (λ b. first_there o (if b then Some (Refused because.Mapped) else None)) free ∙ first_alone o

-- one reason and the later ones, as the journal finds them
then_ : (a b : Option Answer) (x y : Option JournalRefusal) → a ≡ option_map journal_answer x → b ≡ option_map journal_answer y → first_there a b ≡ option_map journal_answer (first_there x y)
then_ a b x y first rest = ap₂ first_there first rest ∙ mapped_first journal_answer x y

-- a reason by its test
if_true : (test : Bool) (w : JournalRefusal) → (if test then Some (journal_answer w) else None) ≡ option_map journal_answer (refused_if test w)
if_true true w = refl
if_true false w = refl

if_false : (test : Bool) (w : JournalRefusal) → (if test then None else Some (journal_answer w)) ≡ option_map journal_answer (refused_if (not test) w)
if_false true w = refl
if_false false w = refl

-- The power is on, and what a journal sees of metadata, names and files is the machine's.
pub record SeesFiles (h : Machine) (s : JournalState) (m : Medium) : Type 0 where
  pub on : h.mode ≡ On
  pub meta : metadata_refusal true h.bad_meta ≡ option_map journal_answer (journal.metadata_refusal s.geo m)
  pub names : (name : List ℕ) → has_file file_name name h.files ≡ tables.has_file s.tables name
  pub count : length h.files ≡ file_count s.tables.files

module _ (h : Machine) (s : JournalState) (m : Medium) (sees : SeesFiles h s m) where
  abbrev by_reason : Option JournalRefusal → List File → Fate
  by_reason why files = unless_refused h (option_map journal_answer why) (Works Done (record h { files = files }))

  missing : (name : List ℕ) → if_missing name h.files ≡ option_map journal_answer (missing_refusal s name)
  missing name = ap (λ b. if b then None else Some (Refused because.Missing)) (sees.names name) ∙ if_false (tables.has_file s.tables name) Missing

  exists : (name : List ℕ) → if_exists name h.files ≡ option_map journal_answer (exists_refusal s name)
  exists name = ap (λ b. if b then Some (Refused because.Exists) else None) (sees.names name) ∙ if_true (tables.has_file s.tables name) Exists

  limit : (pages : ℕ) → if_many_pages pages ≡ option_map journal_answer (limit_refusal pages)
  limit pages = if_true (nat_lt 256 pages) Limit

  slots : if_many_files h.files ≡ option_map journal_answer (slots_refusal s)
  slots = ap (λ n. if n == 64 then Some (Refused because.Slots) else None) sees.count ∙ if_true (file_count s.tables.files == 64) Slots

  last : first_there (metadata_refusal true h.bad_meta) None ≡ option_map journal_answer (journal.metadata_refusal s.geo m)
  last = first_alone (metadata_refusal true h.bad_meta) ∙ sees.meta

  pub fate_create : (name : List ℕ) (pages : ℕ) → fate h (Create name pages) ≡ by_reason (create_refusal s m name pages) (put_file file_name (new_file name pages) h.files)
  fate_create name pages =
      fate_usable h (Create name pages) refl sees.on
      ∙ ap (λ o. unless_refused h o (Works Done (record h { files = put_file file_name (new_file name pages) h.files })))
      (then_ _ _ (exists_refusal s name) _ (exists name) (then_ _ _ (limit_refusal pages) _ (limit pages) (then_ _ _ (slots_refusal s) (journal.metadata_refusal s.geo m) slots last)))

  pub fate_delete : (name : List ℕ) → is_mapped name h.mappings ≡ false → fate h (Delete name) ≡ by_reason (delete_refusal s m name) (without_file file_name name h.files)
  fate_delete name free =
      fate_usable h (Delete name) refl sees.on
      ∙ ap (λ o. unless_refused h o (Works Done (record h { files = without_file file_name name h.files })))
      (ap (λ n. first_there n (first_there (metadata_refusal true h.bad_meta) None)) (unmapped name h.mappings (if_missing name h.files) free) ∙ then_ _ _ (missing_refusal s name) (journal.metadata_refusal s.geo m) (missing name) last)

  pub fate_rename : (name to : List ℕ) → is_mapped name h.mappings ≡ false → fate h (Rename name to) ≡ by_reason (rename_refusal s m name to) (rename_file file_name name (with_name to) h.files)
  fate_rename name to free =
      fate_usable h (Rename name to) refl sees.on
      ∙ ap (λ o. unless_refused h o (Works Done (record h { files = rename_file file_name name (with_name to) h.files })))
      (ap (λ n. first_there (first_there (if_missing name h.files) n) (first_there (metadata_refusal true h.bad_meta) None)) (unmapped name h.mappings (if_exists to h.files) free)
      ∙ first_assoc (if_missing name h.files) (if_exists to h.files) (first_there (metadata_refusal true h.bad_meta) None)
      ∙ then_ _ _ (missing_refusal s name) _ (missing name) (then_ _ _ (exists_refusal s to) (journal.metadata_refusal s.geo m) (exists to) last))

  pub fate_resize : (name : List ℕ) (pages : ℕ) → is_mapped name h.mappings ≡ false → fate h (Resize name pages) ≡ by_reason (resize_refusal s m name pages) (change_file file_name name (with_pages pages) h.files)
  fate_resize name pages free =
      fate_usable h (Resize name pages) refl sees.on
      ∙ ap (λ o. unless_refused h o (Works Done (record h { files = change_file file_name name (with_pages pages) h.files })))
      (ap (λ n. first_there n (first_there (if_many_pages pages) (first_there (metadata_refusal true h.bad_meta) None))) (unmapped name h.mappings (if_missing name h.files) free)
      ∙ then_ _ _ (missing_refusal s name) _ (missing name) (then_ _ _ (limit_refusal pages) (journal.metadata_refusal s.geo m) (limit pages) last))

-- no reason is none of both
none_of : {A : Type 0} (a b : Option A) → first_there a b ≡ None → (a ≡ None) × (b ≡ None)
none_of None b none = (refl, none)
none_of (Some x) b none = cc none

test_failed : (test : Bool) (w : JournalRefusal) → refused_if test w ≡ None → test ≡ false
test_failed true w none = cc none
test_failed false w none = refl

few_pages : (pages : ℕ) → limit_refusal pages ≡ None → pages ≤ 256
few_pages pages none = let few = test_failed (nat_lt 256 pages) Limit none in grind (arith, nat_tests)

-- What a change makes of the tables where nothing refuses it.
module _ (s : JournalState) (m : Medium) (are : AreTables s.geo.fpages s.tables) (name : List ℕ) where
  pub create_becomes : (pages : ℕ) → is_name name ≡ true → create_refusal s m name pages ≡ None → Becomes s.geo s.tables (created name pages s.tables) (put_file file_name (new_file name pages))
  create_becomes pages good none =
      let first = none_of (exists_refusal s name) (first_there (limit_refusal pages) (first_there (slots_refusal s) (journal.metadata_refusal s.geo m))) none in
      let second = none_of (limit_refusal pages) (first_there (slots_refusal s) (journal.metadata_refusal s.geo m)) first.1 in
      let third = none_of (slots_refusal s) (journal.metadata_refusal s.geo m) second.1 in
      created_becomes s.geo s.tables are name pages good (few_pages pages second.0) (test_failed (tables.has_file s.tables name) Exists first.0)
      (λ full. let room = test_failed (file_count s.tables.files == 64) Slots third.0 in cc (ap (λ n. n == 64) full, room))

  pub delete_becomes : Becomes s.geo s.tables (deleted name s.tables) (without_file file_name name)
  delete_becomes = deleted_becomes s.geo s.tables are name

  pub rename_becomes : (to : List ℕ) → is_name to ≡ true → rename_refusal s m name to ≡ None → Becomes s.geo s.tables (renamed name to s.tables) (rename_file file_name name (with_name to))
  rename_becomes to good none =
      let first = none_of (missing_refusal s name) (first_there (exists_refusal s to) (journal.metadata_refusal s.geo m)) none in
      let second = none_of (exists_refusal s to) (journal.metadata_refusal s.geo m) first.1 in
      renamed_becomes s.geo s.tables are name to good (test_failed (tables.has_file s.tables to) Exists second.0)

  pub resize_becomes : (pages : ℕ) → resize_refusal s m name pages ≡ None → Becomes s.geo s.tables (resized name pages s.tables) (change_file file_name name (with_pages pages))
  resize_becomes pages none =
      let first = none_of (missing_refusal s name) (first_there (limit_refusal pages) (journal.metadata_refusal s.geo m)) none in
      let second = none_of (limit_refusal pages) (journal.metadata_refusal s.geo m) first.1 in
      resized_becomes s.geo s.tables are name pages (few_pages pages second.0)

  -- and the files of mappings it leaves
  abbrev pub files_here : List File
  files_here = device_files s.geo m s.tables

  unlisted : (other : List ℕ) → tables.has_file s.tables other ≡ false → has_file file_name other files_here ≡ false
  unlisted other none = sym (has_file-stands s.geo m s.tables files_here (device_files-stand s.geo m s.tables) s.geo.fpages other are) ∙ none

  pub create_spares : (pages : ℕ) (mappings : List Mapping) → create_refusal s m name pages ≡ None → Spares (put_file file_name (new_file name pages)) files_here mappings
  create_spares pages mappings none =
      let first = none_of (exists_refusal s name) (first_there (limit_refusal pages) (first_there (slots_refusal s) (journal.metadata_refusal s.geo m))) none in
      spares-create files_here name pages mappings (unlisted name (test_failed (tables.has_file s.tables name) Exists first.0))

  pub rename_spares : (to : List ℕ) (mappings : List Mapping) → is_mapped name mappings ≡ false → rename_refusal s m name to ≡ None → Spares (rename_file file_name name (with_name to)) files_here mappings
  rename_spares to mappings free none =
      let first = none_of (missing_refusal s name) (first_there (exists_refusal s to) (journal.metadata_refusal s.geo m)) none in
      let second = none_of (exists_refusal s to) (journal.metadata_refusal s.geo m) first.1 in
      spares-rename files_here name to mappings free (unlisted to (test_failed (tables.has_file s.tables to) Exists second.0))
