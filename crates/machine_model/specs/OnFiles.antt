-- The commands on files.
use Rattle.std.specs.Prelude.{◌+◌, ◌*◌, ◌==◌, ℕ, true, List, Option, Some, None, length, map, nat_lt, if◌then◌else◌}
use Rattle.word_log.specs.Changes.{commit_calls, commit_persists}
use Rattle.nvm_model.specs.Blocks.{first_there}
use Rattle.nvm_model.specs.Files.{entry_of_file, new_file, with_name, with_pages}
use Rattle.nvm_model.specs.Listing.{change_file, file_name, has_file, put_file, rename_file, without_file}
use Rattle.nvm_model.specs.Mappings.{is_mapped}
use Rattle.nvm_model.specs.Storage.{File, Mapping}
use Rattle.file_journal.specs.Refusals.{JournalRefusal}
use Rattle.file_journal.specs.Refusals.JournalRefusal.{Missing, Exists, Limit, Slots, Full, Meta}
use Rattle.reply_text.specs.declared.reply.Why.TheVariants as because
use Rattle.reply_text.specs.Answer.{Answer}
use Rattle.reply_text.specs.Answer.Answer.{Done, Files, Refused, RefusedMeta}
use Rattle.machine_model.specs.Machine.{Machine}
use Rattle.machine_model.specs.Machine.Fate.{Gives, Works}
use Rattle.machine_model.specs.Meaning.{Meaning, Reasons, anywhere, no_reasons, quiet}
use Rattle.machine_model.specs.Meaning.FilesLeft.{OldOrNew}
use Rattle.machine_model.specs.declared.needs.Needs.TheVariants.{Usable}

-- how a refusal by the journal is answered
abbrev pub journal_answer : JournalRefusal → Answer
journal_answer Missing = Refused because.Missing
journal_answer Exists = Refused because.Exists
journal_answer Limit = Refused because.Limit
journal_answer Slots = Refused because.Slots
journal_answer Full = Refused because.Full
journal_answer (Meta line) = RefusedMeta line

-- a file that is named has to be there, and a new name may not be
abbrev pub if_missing : List ℕ → List File → Option Answer
if_missing name files = if has_file file_name name files then None else Some (Refused because.Missing)

abbrev pub if_exists : List ℕ → List File → Option Answer
if_exists name files = if has_file file_name name files then Some (Refused because.Exists) else None

-- a file that is mapped keeps its name and its pages
abbrev pub if_mapped : List ℕ → List Mapping → Option Answer
if_mapped name mappings = if is_mapped name mappings then Some (Refused because.Mapped) else None

-- a file has 256 pages at most, and a device 64 files
abbrev pub if_many_pages : ℕ → Option Answer
if_many_pages pages = if nat_lt 256 pages then Some (Refused because.Limit) else None

abbrev pub if_many_files : List File → Option Answer
if_many_files files = if length files == 64 then Some (Refused because.Slots) else None

-- a change of files, by one commit of at most so many words
abbrev pub changing_files : (Machine → Reasons) → (List File → List File) → ℕ → Meaning
changing_files reasons to words = record (quiet Usable anywhere (λ h. Works Done (record h { files = to h.files }))) {
  reasons = λ h. record (reasons h) { changes_metadata = true };
  files = λ mappings. to;
  files_left = λ mappings. OldOrNew;
  spends = λ h. record { calls = commit_calls words; persists = commit_persists words };
}

abbrev pub create : List ℕ → ℕ → Meaning
create name pages =
    changing_files (λ h. record no_reasons { named = if_exists name h.files; places = if_many_pages pages; full = if_many_files h.files })
    (put_file file_name (new_file name pages)) 5

abbrev pub delete : List ℕ → Meaning
delete name =
    changing_files (λ h. record no_reasons { named = first_there (if_missing name h.files) (if_mapped name h.mappings) })
    (without_file file_name name) 261

abbrev pub rename : List ℕ → List ℕ → Meaning
rename name to =
    changing_files (λ h. record no_reasons {
      named = first_there (if_missing name h.files) (first_there (if_exists to h.files) (if_mapped name h.mappings));
    })
    (rename_file file_name name (with_name to)) 5

abbrev pub resize : List ℕ → ℕ → Meaning
resize name pages =
    changing_files (λ h. record no_reasons {
      named = first_there (if_missing name h.files) (if_mapped name h.mappings);
      places = if_many_pages pages;
    })
    (change_file file_name name (with_pages pages)) 261

-- name and page count of each
abbrev pub list_files : Meaning
list_files = record (quiet Usable anywhere (λ h. Gives (Files (map entry_of_file h.files)) h)) {
  wants_memory = true;
  room = 64 + 54 * 64;
}
