-- When calls are refused, and why.
use Rattle.std.specs.Prelude.{◌+◌, ◌-◌, ◌*◌, ◌==◌, ℕ, Bool, List, length, nat_lt, Option, Some, None, option_map, position, if◌then◌else◌}
use Rattle.std.specs.List.{range_with_len}
use Rattle.line_device.specs.Medium.{Medium}
use Rattle.line_words.specs.declared.interruption.Interruption.TheVariants as stop
use Rattle.line_words.specs.Told.{Told}
use Rattle.line_words.specs.Told.Told.{Refuses, Stops}
use Rattle.word_tables.specs.declared.geometry.Geometry.{Geometry}
use Rattle.word_tables.specs.Layout.{meta_lines}
use Rattle.page_table.specs.Pages.{used_pages}
use Rattle.nvm_model.specs.Blocks.{first_there}
use Rattle.nvm_model.specs.Page.{Page, absent_touched, first_bad_line, first_uncovered_line, presence_of, touches_absent}
use Rattle.file_journal.specs.Object.{JournalState}
use Rattle.file_pages.specs.declared.fault.PageFault.{PageFault}
use Rattle.file_pages.specs.declared.fault.PageFault.TheVariants as fault

-- why a call is refused; of a bad line its offset in the file is told
pub data PageRefusal : Type 0 where
  Range : PageRefusal
  Length : PageRefusal
  Full : PageRefusal
  Meta : ℕ → PageRefusal
  Poison : ℕ → PageRefusal

-- what a fault tells
abbrev pub page_says : PageFault → Told PageRefusal
page_says fault.Range = Refuses Range
page_says fault.Length = Refuses Length
page_says fault.Full = Refuses Full
page_says (fault.Meta line) = Refuses (Meta line.0)
page_says (fault.Poison offset) = Refuses (Poison offset)
page_says fault.Device = Stops stop.Failed
page_says fault.PowerLost = Stops stop.PowerLost

-- one refusal where a condition holds
abbrev pub refused_if : Bool → PageRefusal → Option PageRefusal
refused_if holds why = if holds then Some why else None

-- so many bytes of so many pages: they go past the end, or are none
abbrev pub bytes_refusal : ℕ → ℕ → ℕ → Option PageRefusal
bytes_refusal pages offset len = first_there (refused_if (nat_lt (4096 * pages) (offset + len)) Range) (refused_if (len == 0) Length)

-- more than all but 16 units would be used, once so many holes are filled
abbrev pub full_refusal : JournalState → ℕ → Option PageRefusal
full_refusal s holes = refused_if (nat_lt (s.geo.fpages - 16) (used_pages s.tables.pages + holes)) Full

-- the lowest bad line of metadata, where a call changes some
abbrev pub metadata_refusal_if : Bool → Geometry → Medium → Option PageRefusal
metadata_refusal_if changes geo m = if changes then option_map Meta (position m.is_bad (range_with_len 0 (meta_lines geo))) else None

-- the line can't be read
abbrev pub poisoned_at : Option ℕ → Option PageRefusal
poisoned_at line = option_map (λ n. Poison (64 * n)) line

-- of a load, and of a sync
abbrev pub read_refusal : List Page → ℕ → ℕ → Option PageRefusal
read_refusal pages offset len = first_there (bytes_refusal (length pages) offset len) (poisoned_at (first_bad_line pages offset len))

-- a store changes metadata where it touches a hole
abbrev pub store_refusal : JournalState → Medium → List Page → ℕ → ℕ → Option PageRefusal
store_refusal s m pages offset len =
    first_there (bytes_refusal (length pages) offset len)
    (first_there (full_refusal s (absent_touched offset len (presence_of pages)))
    (first_there (metadata_refusal_if (touches_absent offset len (presence_of pages)) s.geo m) (poisoned_at (first_uncovered_line pages offset len))))
