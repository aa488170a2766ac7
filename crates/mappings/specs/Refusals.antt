-- When a mapping is refused, and why.
use Rattle.std.specs.Prelude.{◌+◌, ◌*◌, ◌==◌, ℕ, Bool, List, length, nat_lt, Option, Some, None, option_map, if◌then◌else◌}
use Rattle.line_words.specs.declared.interruption.Interruption.TheVariants as stop
use Rattle.line_words.specs.Told.{Told}
use Rattle.line_words.specs.Told.Told.{Refuses, Stops, Starves}
use Rattle.nvm_base.specs.declared.files.Kind.{Kind}
use Rattle.nvm_base.specs.declared.units.Span.{Span}
use Rattle.inode_table.specs.Slots.{inode_of, pages_at}
use Rattle.nvm_model.specs.Blocks.{first_there}
use Rattle.nvm_model.specs.Listing.{file_name, file_of}
use Rattle.nvm_model.specs.Mappings.{is_full, is_shared}
use Rattle.nvm_model.specs.Page.{Page, first_bad_line}
use Rattle.nvm_model.specs.Storage.{File}
use Rattle.file_journal.specs.Tables.{Tables}
use Rattle.file_pages.specs.Refusals as pages
use Rattle.mappings.specs.declared.fault.MapFault.{MapFault}
use Rattle.mappings.specs.declared.fault.MapFault.TheVariants as fault
use Rattle.mappings.specs.Object.{MappingsState}

-- why a mapping is not made, or not ended; of a bad line its offset in the file is told
pub data MapRefusal : Type 0 where
  Missing : MapRefusal
  Handle : MapRefusal
  Range : MapRefusal
  Length : MapRefusal
  Limit : MapRefusal
  Poison : ℕ → MapRefusal

-- what a fault tells
abbrev pub map_says : MapFault → Told MapRefusal
map_says fault.Missing = Refuses Missing
map_says fault.Handle = Refuses Handle
map_says fault.Range = Refuses Range
map_says fault.Length = Refuses Length
map_says fault.Limit = Refuses Limit
map_says (fault.Poison offset) = Refuses (Poison offset)
map_says fault.Device = Stops stop.Failed
map_says fault.PowerLost = Stops stop.PowerLost
map_says fault.Memory = Starves

-- of why bytes are not loaded; a load is refused neither for room nor for metadata
abbrev pub load_refusal : pages.PageRefusal → MapRefusal
load_refusal pages.PageRefusal.Range = Range
load_refusal pages.PageRefusal.Length = Length
load_refusal pages.PageRefusal.Full = Limit
load_refusal (pages.PageRefusal.Meta line) = Limit
load_refusal (pages.PageRefusal.Poison offset) = Poison offset

-- what the fault of a load tells of a mapping
abbrev pub told_of_load : Told pages.PageRefusal → Told MapRefusal
told_of_load (Refuses why) = Refuses (load_refusal why)
told_of_load (Stops stop) = Stops stop
told_of_load Starves = Starves

-- one refusal where a condition holds
abbrev pub refused_if : Bool → MapRefusal → Option MapRefusal
refused_if holds why = if holds then Some why else None

-- of so many bytes: they go past the end, or are none
abbrev pub extent_refusal : ℕ → Span → Option MapRefusal
extent_refusal size span = first_there (refused_if (nat_lt size (span.start + span.len)) Range) (refused_if (span.len == 0) Length)

abbrev pub limit_refusal : MappingsState → Option MapRefusal
limit_refusal s = refused_if (is_full s.mappings s.next) Limit

-- the lowest bad line that a copy would have
abbrev pub copy_refusal : Kind → List Page → Span → Option MapRefusal
copy_refusal kind pages span = if is_shared kind then None else option_map (λ n. Poison (64 * n)) (first_bad_line pages span.start span.len)

-- of a stretch of a file with these pages
abbrev pub file_refusal : MappingsState → List Page → Span → Kind → Option MapRefusal
file_refusal s pages span kind = first_there (extent_refusal (4096 * length pages) span) (first_there (limit_refusal s) (copy_refusal kind pages span))

abbrev pub found_refusal : MappingsState → Option File → Span → Kind → Option MapRefusal
found_refusal s None span kind = Some Missing
found_refusal s (Some file) span kind = file_refusal s file.pages span kind

abbrev pub map_refusal : MappingsState → List File → List ℕ → Span → Kind → Option MapRefusal
map_refusal s files name span kind = found_refusal s (file_of file_name name files) span kind

-- the same before the device is asked
abbrev pub inode_refusal : MappingsState → Tables → Option ℕ → Span → Option MapRefusal
inode_refusal s t None span = Some Missing
inode_refusal s t (Some inode) span = first_there (extent_refusal (4096 * pages_at t.files inode) span) (limit_refusal s)

abbrev pub early_refusal : MappingsState → Tables → List ℕ → Span → Option MapRefusal
early_refusal s t name span = inode_refusal s t (inode_of name t.files) span
