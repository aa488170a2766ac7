-- The commands of native files that leave one old or new as a whole, and the one that makes a whole file durable.
use Rattle.std.specs.Prelude.{◌+◌, ◌*◌, true, ℕ, List, [], ◌∷◌, length, option_map}
use Rattle.nvm_base.specs.declared.units.Span.{Span}
use Rattle.word_log.specs.Changes.{commit_calls, commit_persists}
use Rattle.nvm_model.specs.Files.{on_pages}
use Rattle.nvm_model.specs.Listing.{change_file, file_name}
use Rattle.nvm_model.specs.Page.{discard, presence_of}
use Rattle.nvm_model.specs.Storage.{File}
use Rattle.file_actions.specs.Costs.{write_calls, write_persists}
use Rattle.file_actions.specs.Refusals.{ActionRefusal, all_bytes, holes_touched, poisoned_at, together_refusal}
use Rattle.file_actions.specs.Refusals.ActionRefusal.{Range, Length, Limit, Overlap, Full, Meta, Poison}
use Rattle.file_actions.specs.Rewriting.{first_lost, pages_touched, rewritten}
use Rattle.reply_text.specs.declared.reply.Why.TheVariants as because
use Rattle.reply_text.specs.Answer.{Answer}
use Rattle.reply_text.specs.Answer.Answer.{Done, PoisonFile, Refused, RefusedMeta}
use Rattle.machine_model.specs.Costs.{lines_persisted}
use Rattle.machine_model.specs.Machine.Fate.{Works}
use Rattle.machine_model.specs.Meaning.{Meaning, anywhere, no_reasons, quiet, span_refusal}
use Rattle.machine_model.specs.Meaning.FilesLeft.{OldOrNew}
use Rattle.machine_model.specs.declared.look.Look.TheVariants.{Once}
use Rattle.machine_model.specs.declared.needs.Needs.TheVariants.{Usable}
use Rattle.machine_model.specs.OnFiles.{if_missing}
use Rattle.machine_model.specs.OnFlushes.{flush_file}
use Rattle.machine_model.specs.OnPages.{if_full, pages_named}

-- how a refusal by the actions on a file of that name is answered
abbrev pub action_answer : List ℕ → ActionRefusal → Answer
action_answer name Range = Refused because.Range
action_answer name Length = Refused because.Length
action_answer name Limit = Refused because.Limit
action_answer name Overlap = Refused because.Overlap
action_answer name Full = Refused because.Full
action_answer name (Meta line) = RefusedMeta line
action_answer name (Poison offset) = PoisonFile name offset

-- the files with ranges of one written together
abbrev pub written_together : List ℕ → List Span → List ℕ → List File → List File
written_together name ranges bytes files = change_file file_name name (on_pages (rewritten ranges bytes)) files

-- a bad line of the pages that they touch refuses them, but where one range covers it
abbrev pub fmulti : List ℕ → List Span → List ℕ → Meaning
fmulti name ranges bytes = record (quiet Usable anywhere (λ h. Works Done (record h { files = written_together name ranges bytes h.files }))) {
  reasons = λ h. record no_reasons {
    named = if_missing name h.files;
    places = option_map (action_answer name) (together_refusal (length (pages_named name h.files)) ranges);
    full = if_full h (holes_touched ranges (presence_of (pages_named name h.files)));
    changes_metadata = true;
    unreadable = option_map (action_answer name) (poisoned_at (first_lost ranges (pages_named name h.files)));
  };
  files = λ mappings. written_together name ranges bytes;
  files_left = λ mappings. OldOrNew;
  spends = λ h. record {
    calls = write_calls (pages_touched ranges (length (pages_named name h.files)));
    persists = write_persists (pages_touched ranges (length (pages_named name h.files)));
  };
}

-- the same of one range
abbrev pub fatomic : List ℕ → ℕ → List ℕ → Meaning
fatomic name offset bytes = fmulti name (record { start = offset; len = length bytes } ∷ []) bytes

-- the files with so many pages of one made holes
abbrev pub discarded_in : List ℕ → ℕ → ℕ → List File → List File
discarded_in name page count files = change_file file_name name (on_pages (discard page count)) files

abbrev pub fdiscard : List ℕ → ℕ → ℕ → Meaning
fdiscard name page count = record (quiet Usable anywhere (λ h. Works Done (record h { files = discarded_in name page count h.files }))) {
  reasons = λ h. record no_reasons {
    named = if_missing name h.files;
    places = option_map Refused (span_refusal (length (pages_named name h.files)) page count);
    changes_metadata = true;
  };
  files = λ mappings. discarded_in name page count;
  files_left = λ mappings. OldOrNew;
  spends = λ h. record { calls = commit_calls (5 + count); persists = commit_persists (5 + count) };
}

-- a flush of all its bytes, which may be none
abbrev pub fsync : List ℕ → Meaning
fsync name = record (flush_file Once name all_bytes) {
  reasons = λ h. record ((flush_file Once name all_bytes).reasons h) { named = if_missing name h.files };
  spends = λ h. lines_persisted (64 * length (pages_named name h.files));
}
