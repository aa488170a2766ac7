-- The commands that make bytes of mapped files durable. Through a private mapping they do nothing.
use Rattle.std.specs.Prelude.{◌+◌, ◌*◌, ◌==◌, ◌||◌, ◌++◌, ℕ, List, [], ◌∷◌, length, map, nat_lt, sum_by, Option, Some, None, option_map, if◌then◌else◌}
use Rattle.std.specs.List.{list_any}
use Rattle.nvm_base.specs.Units.{units_of}
use Rattle.nvm_base.specs.declared.units.Span.{Span}
use Rattle.nvm_model.specs.Blocks.{first_there}
use Rattle.nvm_model.specs.Files.{on_pages}
use Rattle.nvm_model.specs.Listing.{change_file, file_name}
use Rattle.nvm_model.specs.Mappings.{is_shared}
use Rattle.nvm_model.specs.Page.{Page}
use Rattle.nvm_model.specs.Storage.{File, Mapping}
use Rattle.nvm_model.specs.Touched.{next_bad_touched, persist_spans}
use Rattle.reply_text.specs.declared.reply.Why.{Why}
use Rattle.reply_text.specs.declared.reply.Why.TheVariants as because
use Rattle.reply_text.specs.Answer.{Answer}
use Rattle.reply_text.specs.Answer.Answer.{Done, PoisonFile, Refused, VerifyFile}
use Rattle.machine_model.specs.Costs.{lines_persisted}
use Rattle.machine_model.specs.Machine.{Machine}
use Rattle.machine_model.specs.Machine.Fate.{Gives, Works}
use Rattle.machine_model.specs.Meaning.{Meaning, anywhere, no_reasons, quiet}
use Rattle.machine_model.specs.Meaning.FilesLeft.{SyncedInPart}
use Rattle.machine_model.specs.declared.look.Look.{Look}
use Rattle.machine_model.specs.declared.look.Look.TheVariants.{Once, Again}
use Rattle.machine_model.specs.declared.needs.Needs.TheVariants.{Usable}
use Rattle.machine_model.specs.OnEvents.{lost_events}
use Rattle.machine_model.specs.OnMappings.{by_handle, within_mapping}
use Rattle.machine_model.specs.OnPages.{pages_named}

-- why spans of something of this size are refused: one ends past it, one has no bytes, or there are none or more than 8
abbrev pub spans_refusal : ℕ → List Span → Option Why
spans_refusal size spans =
    first_there (if list_any (λ (s : Span). nat_lt size (s.start + s.len)) spans then Some because.Range else None)
    (first_there (if list_any (λ (s : Span). s.len == 0) spans then Some because.Length else None)
    (if length spans == 0 || nat_lt 8 (length spans) then Some because.Limit else None))

-- a span so much further on, and spans
abbrev pub moved : ℕ → Span → Span
moved by span = record { start = by + span.start; len = span.len }

abbrev pub all_moved : ℕ → List Span → List Span
all_moved by spans = map (moved by) spans

-- how many lines they touch, one by one
abbrev pub lines_touched_by : List Span → ℕ
lines_touched_by spans = sum_by (λ (span : Span). (units_of 64 span).len) spans

-- the files with these spans of one made durable
abbrev pub synced_in : List ℕ → List Span → List File → List File
synced_in name spans files = change_file file_name name (on_pages (persist_spans spans)) files

-- the answer once they are: where lines are looked at again, it names the lowest that was lost
abbrev pub second_look : Look → List ℕ → Option ℕ → Answer
second_look Once name lost = Done
second_look Again name None = Done
second_look Again name (Some n) = VerifyFile name (64 * n)

abbrev pub flushed_answer : Look → List ℕ → List Span → List Page → Answer
flushed_answer look name spans pages = second_look look name (next_bad_touched spans (persist_spans spans pages) 0)

-- the state with them durable, and an event for each line that was lost by that
abbrev pub with_synced : List ℕ → List Span → Machine → Machine
with_synced name spans h = record h {
  files = synced_in name spans h.files;
  events = h.events ++ lost_events h.mappings name spans (pages_named name h.files);
}

-- a bad line that a span touches refuses all of it
abbrev pub flush_file : Look → List ℕ → List Span → Meaning
flush_file look name spans =
    record (quiet Usable anywhere (λ h. Works (flushed_answer look name spans (pages_named name h.files)) (with_synced name spans h))) {
      reasons = λ h. record no_reasons { unreadable = option_map (λ n. PoisonFile name (64 * n)) (next_bad_touched spans (pages_named name h.files) 0) };
      files = λ mappings. synced_in name spans;
      files_left = λ mappings. SyncedInPart name spans;
      spends = λ h. lines_persisted (lines_touched_by spans);
    }

-- a command that only asks whether it may be done
abbrev pub nothing_done : Meaning
nothing_done = quiet Usable anywhere (λ h. Gives Done h)

abbrev pub flush_through : Look → List Span → Mapping → Meaning
flush_through look spans m =
    within_mapping (option_map Refused (spans_refusal m.len spans)) (if is_shared m.kind then flush_file look m.name (all_moved m.start spans) else nothing_done)

abbrev pub flush_with : Look → ℕ → List Span → Meaning
flush_with look handle spans = by_handle 72 handle (flush_through look spans)

-- There is no domain of persistence beyond the medium, so a deep flush is a flush.
abbrev pub sync : ℕ → ℕ → ℕ → Meaning
sync handle offset len = flush_with Once handle (record { start = offset; len = len } ∷ [])

abbrev pub flush : ℕ → List Span → Meaning
flush handle spans = flush_with Once handle spans

abbrev pub flush_verify : ℕ → List Span → Meaning
flush_verify handle spans = flush_with Again handle spans

abbrev pub deep_flush : ℕ → List Span → Meaning
deep_flush handle spans = flush_with Once handle spans
