-- When actions are refused, and why.
use Rattle.std.specs.Prelude.{◌+◌, ◌-◌, ◌*◌, ◌==◌, ◌||◌, ◌&&◌, ℕ, Bool, not, [], ◌∷◌, List, count_by, length, nat_lt, Option, Some, None, option_map, position, slice_index_or, true, if◌then◌else◌}
use Rattle.std.specs.List.{list_any, range_with_len}
use Rattle.nvm_base.specs.declared.units.Span.{Span}
use Rattle.line_device.specs.Medium.{Medium}
use Rattle.line_words.specs.declared.interruption.Interruption.TheVariants as stop
use Rattle.line_words.specs.Told.{Told}
use Rattle.line_words.specs.Told.Told.{Refuses, Starves, Stops}
use Rattle.word_tables.specs.declared.geometry.Geometry.{Geometry}
use Rattle.word_tables.specs.Layout.{meta_lines}
use Rattle.page_table.specs.Pages.{used_pages}
use Rattle.nvm_model.specs.Blocks.{first_there}
use Rattle.nvm_model.specs.Page.{Page, presence_of}
use Rattle.nvm_model.specs.Touched.{next_bad_touched}
use Rattle.range_sets.specs.Ranges.{is_disjoint}
use Rattle.file_journal.specs.Object.{JournalState}
use Rattle.file_pages.specs.Refusals as pages
use Rattle.file_actions.specs.Rewriting.{first_lost, pages_touched, touches_any_page}
use Rattle.file_actions.specs.declared.fault.ActionFault.{ActionFault}
use Rattle.file_actions.specs.declared.fault.ActionFault.TheVariants as fault

-- why an action is refused; of a bad line its offset in the file is told
pub data ActionRefusal : Type 0 where
  Range : ActionRefusal
  Length : ActionRefusal
  Limit : ActionRefusal
  Overlap : ActionRefusal
  Full : ActionRefusal
  Meta : ℕ → ActionRefusal
  Poison : ℕ → ActionRefusal

-- what a fault tells
abbrev pub action_says : ActionFault → Told ActionRefusal
action_says fault.Range = Refuses Range
action_says fault.Length = Refuses Length
action_says fault.Limit = Refuses Limit
action_says fault.Overlap = Refuses Overlap
action_says fault.Full = Refuses Full
action_says (fault.Meta line) = Refuses (Meta line.0)
action_says (fault.Poison offset) = Refuses (Poison offset)
action_says fault.Device = Stops stop.Failed
action_says fault.PowerLost = Stops stop.PowerLost

-- why a call on pages is refused, of an action that makes it
abbrev pub action_refusal : pages.PageRefusal → ActionRefusal
action_refusal pages.PageRefusal.Range = Range
action_refusal pages.PageRefusal.Length = Length
action_refusal pages.PageRefusal.Full = Full
action_refusal (pages.PageRefusal.Meta line) = Meta line
action_refusal (pages.PageRefusal.Poison offset) = Poison offset

-- what the fault of such a call tells of the action
abbrev pub told_of_pages : Told pages.PageRefusal → Told ActionRefusal
told_of_pages (Refuses why) = Refuses (action_refusal why)
told_of_pages (Stops stop) = Stops stop
told_of_pages Starves = Starves

-- one refusal where a condition holds
abbrev pub refused_if : Bool → ActionRefusal → Option ActionRefusal
refused_if holds why = if holds then Some why else None

-- of a file of so many pages: a range ends past it, or one has no bytes
abbrev pub extents_refusal : ℕ → List Span → Option ActionRefusal
extents_refusal pages ranges =
    first_there (refused_if (list_any (λ (r : Span). nat_lt (4096 * pages) (r.start + r.len)) ranges) Range)
    (refused_if (list_any (λ (r : Span). r.len == 0) ranges) Length)

-- ranges that are written together: at most 8, in at most 16 pages, and no byte twice
abbrev pub together_refusal : ℕ → List Span → Option ActionRefusal
together_refusal pages ranges =
    first_there (extents_refusal pages ranges)
    (first_there (refused_if (nat_lt 16 (pages_touched ranges pages) || nat_lt 8 (length ranges)) Limit)
    (refused_if (not (is_disjoint ranges)) Overlap))

-- how many holes they touch, of pages that are there or not
abbrev pub holes_touched : List Span → List Bool → ℕ
holes_touched ranges there = count_by (λ i. touches_any_page ranges i && not (slice_index_or there i true)) (range_with_len 0 (length there))

-- more than all but 16 units would be used, once so many holes are filled
abbrev pub full_refusal : JournalState → ℕ → Option ActionRefusal
full_refusal s holes = refused_if (nat_lt (s.geo.fpages - 16) (used_pages s.tables.pages + holes)) Full

-- the lowest bad line of metadata
abbrev pub metadata_refusal : Geometry → Medium → Option ActionRefusal
metadata_refusal geo m = option_map Meta (position m.is_bad (range_with_len 0 (meta_lines geo)))

-- the line can't be read
abbrev pub poisoned_at : Option ℕ → Option ActionRefusal
poisoned_at line = option_map (λ n. Poison (64 * n)) line

abbrev pub write_refusal : JournalState → Medium → List Page → List Span → Option ActionRefusal
write_refusal s m pages ranges =
    first_there (together_refusal (length pages) ranges)
    (first_there (full_refusal s (holes_touched ranges (presence_of pages)))
    (first_there (metadata_refusal s.geo m) (poisoned_at (first_lost ranges pages))))

-- of a file of so many pages: a span of them goes past the end, or has none
abbrev pub pages_refusal : ℕ → Span → Option ActionRefusal
pages_refusal pages span = first_there (refused_if (nat_lt pages (span.start + span.len)) Range) (refused_if (span.len == 0) Length)

abbrev pub discard_refusal : JournalState → Medium → List Page → Span → Option ActionRefusal
discard_refusal s m pages span = first_there (pages_refusal (length pages) span) (metadata_refusal s.geo m)

-- all bytes that a file may have
abbrev pub all_bytes : List Span
all_bytes = record { start = 0; len = 1048576 } ∷ []

abbrev pub sync_refusal : List Page → Option ActionRefusal
sync_refusal pages = poisoned_at (next_bad_touched all_bytes pages 0)
