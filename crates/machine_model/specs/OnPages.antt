-- The commands on the bytes of files.
use Rattle.std.specs.Prelude.{◌+◌, ◌-◌, ◌*◌, ℕ, List, [], Option, Some, None, count_by, length, min, nat_lt, option_map, sum_by, if◌then◌else◌}
use Rattle.nvm_base.specs.Units.{units_of}
use Rattle.nvm_model.specs.Files.{on_pages}
use Rattle.nvm_model.specs.Listing.{change_file, file_name, file_of}
use Rattle.nvm_model.specs.Page.{Page, absent_touched, fill, first_bad_line, first_uncovered_line, is_present, look, presence_of, put, touches_absent}
use Rattle.nvm_model.specs.Storage.{File}
use Rattle.file_pages.specs.Costs.{filling_persists, storing_calls}
use Rattle.file_pages.specs.Refusals.{PageRefusal, bytes_refusal, poisoned_at}
use Rattle.file_pages.specs.Refusals.PageRefusal.{Range, Length, Full, Meta, Poison}
use Rattle.reply_text.specs.declared.reply.Why.TheVariants as because
use Rattle.reply_text.specs.Answer.{Answer}
use Rattle.reply_text.specs.Answer.Answer.{Done, Bytes, PoisonFile, Refused, RefusedMeta}
use Rattle.machine_model.specs.Machine.{Machine}
use Rattle.machine_model.specs.Machine.Fate.{Works}
use Rattle.machine_model.specs.Meaning.{Meaning, anywhere, most_refusal, no_reasons, quiet}
use Rattle.machine_model.specs.Meaning.FilesLeft.{StoredInPart}
use Rattle.machine_model.specs.OnFiles.{if_missing}
use Rattle.machine_model.specs.declared.needs.Needs.TheVariants.{Usable}

-- how a refusal by the pages of a file of that name is answered
abbrev pub page_answer : List ℕ → PageRefusal → Answer
page_answer name Range = Refused because.Range
page_answer name Length = Refused because.Length
page_answer name Full = Refused because.Full
page_answer name (Meta line) = RefusedMeta line
page_answer name (Poison offset) = PoisonFile name offset

-- the pages of the file of that name, none where there is none
abbrev pub pages_named : List ℕ → List File → List Page
pages_named name files = elim (file_of file_name name files) [ None ↦ [] | Some file ↦ file.pages ]

-- how many pages of a file are no holes, and of all files
abbrev pub pages_used_in : File → ℕ
pages_used_in file = count_by is_present file.pages

abbrev pub pages_used : List File → ℕ
pages_used files = sum_by pages_used_in files

-- more than all but 16 pages would be used, once so many holes are filled
abbrev pub if_full : Machine → ℕ → Option Answer
if_full h holes = if nat_lt (h.geometry.fpages - 16) (pages_used h.files + holes) then Some (Refused because.Full) else None

-- a call for each line that it touches; a read gives at most 65,536 bytes
abbrev pub fread : List ℕ → ℕ → ℕ → Meaning
fread name offset len = record (quiet Usable anywhere (λ h. Works (Bytes (look (pages_named name h.files) offset len)) h)) {
  reasons = λ h. record no_reasons {
    named = if_missing name h.files;
    places = option_map Refused (most_refusal 65536 (4096 * length (pages_named name h.files)) offset len);
    unreadable = option_map (page_answer name) (poisoned_at (first_bad_line (pages_named name h.files) offset len));
  };
  spends = λ h. record { calls = (units_of 64 (record { start = offset; len = len })).len; persists = 0 };
  room = 72 + 3 * min len 65536;
}

-- the files with bytes stored in that one
abbrev pub stored_in : List ℕ → ℕ → List ℕ → List File → List File
stored_in name offset bytes files = change_file file_name name (on_pages (λ pages. put offset bytes (fill offset (length bytes) pages))) files

-- where it touches no hole, it changes no metadata
abbrev pub fwrite : List ℕ → ℕ → List ℕ → Meaning
fwrite name offset bytes = record (quiet Usable anywhere (λ h. Works Done (record h { files = stored_in name offset bytes h.files }))) {
  reasons = λ h. record no_reasons {
    named = if_missing name h.files;
    places = option_map (page_answer name) (bytes_refusal (length (pages_named name h.files)) offset (length bytes));
    full = if_full h (absent_touched offset (length bytes) (presence_of (pages_named name h.files)));
    changes_metadata = touches_absent offset (length bytes) (presence_of (pages_named name h.files));
    unreadable = option_map (page_answer name) (poisoned_at (first_uncovered_line (pages_named name h.files) offset (length bytes)));
  };
  files = λ mappings. stored_in name offset bytes;
  files_left = λ mappings. StoredInPart name offset bytes;
  spends = λ h. record {
    calls = storing_calls (presence_of (pages_named name h.files)) offset (length bytes);
    persists = filling_persists (presence_of (pages_named name h.files)) offset (length bytes);
  };
}
