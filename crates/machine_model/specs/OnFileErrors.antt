-- Media errors of files: lines that go bad or weak, bad lines that are made good again, and those that are told.
use Rattle.std.specs.Prelude.{◌+◌, ◌*◌, ◌/◌, ◌++◌, ℕ, Bool, true, false, List, [], ◌∷◌, length, min, Option, Some, None, option_map}
use Rattle.nvm_base.specs.declared.units.Span.{Span}
use Rattle.nvm_model.specs.Cell.{Cell, clear_cell, lose_cell, weaken_cell}
use Rattle.nvm_model.specs.Events.{is_weak_cell, offsets_of}
use Rattle.nvm_model.specs.Files.{on_pages}
use Rattle.nvm_model.specs.Listing.{change_file, file_name}
use Rattle.nvm_model.specs.Page.{cell_of, change_line}
use Rattle.nvm_model.specs.Storage.{File}
use Rattle.nvm_model.specs.Touched.{bad_touched}
use Rattle.marked_lines.specs.Refusals.{file_clear_refusal, file_refusal}
use Rattle.reply_text.specs.Answer.Answer.{BadLines, Done, Refused}
use Rattle.machine_model.specs.Machine.{Machine}
use Rattle.machine_model.specs.Machine.Fate.{Gives, Works}
use Rattle.machine_model.specs.Meaning.{Meaning, anywhere, no_reasons, quiet, span_refusal}
use Rattle.machine_model.specs.Meaning.FilesLeft.{OldOrNew}
use Rattle.machine_model.specs.Meaning.Starved.{WrittenBack}
use Rattle.machine_model.specs.declared.needs.Needs.TheVariants.{Usable}
use Rattle.machine_model.specs.OnEvents.{taken_events}
use Rattle.machine_model.specs.OnFiles.{if_missing}
use Rattle.machine_model.specs.OnMedia.{line_answer}
use Rattle.machine_model.specs.OnPages.{pages_named}

-- the files with the line of a byte of one changed
abbrev pub marked_in : (Cell → Cell) → List ℕ → ℕ → List File → List File
marked_in mark name offset files = change_file file_name name (on_pages (change_line mark (offset / 64))) files

-- a line is marked, which needs no counted call
abbrev pub marking_file : (Cell → Cell) → List ℕ → ℕ → Meaning
marking_file mark name offset = record (quiet Usable anywhere (λ h. Gives Done (record h { files = marked_in mark name offset h.files }))) {
  reasons = λ h. record no_reasons {
    named = if_missing name h.files;
    places = option_map line_answer (file_refusal (pages_named name h.files) offset);
  };
}

-- the state with a line lost, and an event of it
abbrev pub with_poisoned : List ℕ → ℕ → Machine → Machine
with_poisoned name offset h = record h {
  files = marked_in lose_cell name offset h.files;
  events = h.events ++ taken_events h.mappings name (offset / 64) (pages_named name h.files);
}

abbrev pub poison_file : List ℕ → ℕ → Meaning
poison_file name offset = record (marking_file lose_cell name offset) {
  comes = λ h. Gives Done (with_poisoned name offset h);
  wants_memory = true;
}

abbrev pub weaken_file : List ℕ → ℕ → Meaning
weaken_file name offset = record (marking_file weaken_cell name offset) {
  starved = WrittenBack;
  wants_memory = true;
}

-- one call of the device
abbrev pub clear_file : List ℕ → ℕ → Meaning
clear_file name offset = record (quiet Usable anywhere (λ h. Works Done (record h { files = marked_in clear_cell name offset h.files }))) {
  reasons = λ h. record no_reasons {
    named = if_missing name h.files;
    places = option_map line_answer (file_clear_refusal (pages_named name h.files) offset);
  };
  files = λ mappings. marked_in clear_cell name offset;
  files_left = λ mappings. OldOrNew;
  spends = λ h. record { calls = 1; persists = 0 };
}

-- a span of so many bytes touches no more lines than these, and a file has 16,384
abbrev pub check_file : List ℕ → ℕ → ℕ → Meaning
check_file name offset len =
    let span : Span = record { start = offset; len = len } in
    record (quiet Usable anywhere (λ h. Gives (BadLines (offsets_of (bad_touched (span ∷ []) (pages_named name h.files)))) h)) {
      reasons = λ h. record no_reasons {
        named = if_missing name h.files;
        places = option_map Refused (span_refusal (4096 * length (pages_named name h.files)) offset len);
      };
      wants_memory = true;
      room = 72 + 21 * min (len / 64 + 2) 16384;
    }

-- a line is there and weak, and so is one of the file of a name
abbrev pub is_weak_line : Option Cell → Bool
is_weak_line None = false
is_weak_line (Some cell) = is_weak_cell cell

abbrev pub is_weak_there : List ℕ → ℕ → List File → Bool
is_weak_there name line files = is_weak_line (cell_of (pages_named name files) line)
