-- When calls are refused, and why.
use Rattle.std.specs.Prelude.{◌+◌, ◌-◌, ◌==◌, ℕ, Bool, not, List, nat_lt, Option, Some, None, option_map, position, if◌then◌else◌}
use Rattle.std.specs.List.{range_with_len}
use Rattle.line_device.specs.Medium.{Medium}
use Rattle.line_words.specs.declared.interruption.Interruption.TheVariants as stop
use Rattle.line_words.specs.Told.{Told}
use Rattle.line_words.specs.Told.Told.{Refuses, Stops}
use Rattle.word_tables.specs.declared.geometry.Geometry.{Geometry}
use Rattle.word_tables.specs.Layout.{meta_lines}
use Rattle.inode_table.specs.Slots.{file_count}
use Rattle.page_table.specs.Pages.{used_pages}
use Rattle.nvm_model.specs.Blocks.{first_there}
use Rattle.file_journal.specs.declared.fault.JournalFault.{JournalFault}
use Rattle.file_journal.specs.declared.fault.JournalFault.TheVariants as fault
use Rattle.file_journal.specs.Changes.{filled_holes}
use Rattle.file_journal.specs.Object.{JournalState}
use Rattle.file_journal.specs.Tables.{has_file}

-- why a call is refused
pub data JournalRefusal : Type 0 where
  Missing : JournalRefusal
  Exists : JournalRefusal
  Limit : JournalRefusal
  Slots : JournalRefusal
  Full : JournalRefusal
  Meta : ℕ → JournalRefusal

-- what a fault tells
abbrev pub journal_says : JournalFault → Told JournalRefusal
journal_says fault.Missing = Refuses Missing
journal_says fault.Exists = Refuses Exists
journal_says fault.Limit = Refuses Limit
journal_says fault.Slots = Refuses Slots
journal_says fault.Full = Refuses Full
journal_says (fault.Meta line) = Refuses (Meta line.0)
journal_says fault.Device = Stops stop.Failed
journal_says fault.PowerLost = Stops stop.PowerLost

-- one refusal where a condition holds
abbrev pub refused_if : Bool → JournalRefusal → Option JournalRefusal
refused_if holds why = if holds then Some why else None

-- the lowest bad line of metadata
abbrev pub metadata_refusal : Geometry → Medium → Option JournalRefusal
metadata_refusal geo m = option_map Meta (position m.is_bad (range_with_len 0 (meta_lines geo)))

abbrev pub missing_refusal : JournalState → List ℕ → Option JournalRefusal
missing_refusal s name = refused_if (not (has_file s.tables name)) Missing

abbrev pub exists_refusal : JournalState → List ℕ → Option JournalRefusal
exists_refusal s name = refused_if (has_file s.tables name) Exists

abbrev pub limit_refusal : ℕ → Option JournalRefusal
limit_refusal pages = refused_if (nat_lt 256 pages) Limit

abbrev pub slots_refusal : JournalState → Option JournalRefusal
slots_refusal s = refused_if (file_count s.tables.files == 64) Slots

abbrev pub create_refusal : JournalState → Medium → List ℕ → ℕ → Option JournalRefusal
create_refusal s m name pages =
    first_there (exists_refusal s name) (first_there (limit_refusal pages) (first_there (slots_refusal s) (metadata_refusal s.geo m)))

abbrev pub delete_refusal : JournalState → Medium → List ℕ → Option JournalRefusal
delete_refusal s m name = first_there (missing_refusal s name) (metadata_refusal s.geo m)

abbrev pub rename_refusal : JournalState → Medium → List ℕ → List ℕ → Option JournalRefusal
rename_refusal s m name to = first_there (missing_refusal s name) (first_there (exists_refusal s to) (metadata_refusal s.geo m))

abbrev pub resize_refusal : JournalState → Medium → List ℕ → ℕ → Option JournalRefusal
resize_refusal s m name pages = first_there (missing_refusal s name) (first_there (limit_refusal pages) (metadata_refusal s.geo m))

-- more than all but 16 units would be used
abbrev pub full_refusal : JournalState → ℕ → List (ℕ × Option ℕ) → Option JournalRefusal
full_refusal s inode switches =
    refused_if (nat_lt (s.geo.fpages - 16) (used_pages s.tables.pages + filled_holes s.tables inode switches)) Full

abbrev pub switch_refusal : JournalState → Medium → ℕ → List (ℕ × Option ℕ) → Option JournalRefusal
switch_refusal s m inode switches = first_there (full_refusal s inode switches) (metadata_refusal s.geo m)
