-- Parts of storage, byte by byte.
use Rattle.std.specs.Prelude.{◌+◌, ◌/◌, ◌==◌, ◌&&◌, ◌||◌, ℕ, Bool, true, false, List, Option, Some, None, if◌then◌else◌}
use Rattle.std.specs.List.{list_any}
use Rattle.std.specs.Str.{bytes_eq}
use Rattle.nvm_base.specs.declared.units.Span.{Span}
use Rattle.nvm_model.specs.Cell.{touches}
use Rattle.nvm_model.specs.Mappings.{is_shared, mapping_of}
use Rattle.nvm_model.specs.Numbered.{is_among}
use Rattle.nvm_model.specs.Storage.{Mapping}
use Rattle.nvm_model.specs.Touched.{touches_any}
use Rattle.file_actions.specs.Rewriting.{touches_any_page}
use Rattle.machine_model.specs.OnFlushes.{all_moved}
use Rattle.durable.specs.Place.{Place}
use Rattle.durable.specs.Place.Place.{of_volume, of_blocks, of_file}

-- a part of storage: which bytes of the volume, which of the blocks, and which of the file of a name
pub record Region : Type 0 where
  pub volume : ℕ → Bool
  pub blocks : ℕ → Bool
  pub files : List ℕ → ℕ → Bool

abbrev pub nothing : Region
nothing = record { volume = λ i. false; blocks = λ i. false; files = λ name i. false }

abbrev pub everything : Region
everything = record { volume = λ i. true; blocks = λ i. true; files = λ name i. true }

-- the bytes of blocks of some spans
abbrev pub spanned : List Span → Region
spanned spans = record nothing { blocks = λ i. list_any (λ (span : Span). is_among span.start span.len (i / 512)) spans }

-- bytes of the volume, and those of pages
abbrev pub stored_bytes : ℕ → ℕ → Region
stored_bytes offset len = record nothing { volume = is_among offset len }

abbrev pub discarded_pages : ℕ → ℕ → Region
discarded_pages page count = record nothing { volume = λ i. is_among page count (i / 4096) }

-- all bytes of the file of a name, of two names, and some bytes of one
abbrev pub whole_file : List ℕ → Region
whole_file file = record nothing { files = λ name i. bytes_eq file name }

abbrev pub two_files : List ℕ → List ℕ → Region
two_files file other = record nothing { files = λ name i. bytes_eq file name || bytes_eq other name }

abbrev pub file_bytes : List ℕ → ℕ → ℕ → Region
file_bytes file offset len = record nothing { files = λ name i. bytes_eq file name && is_among offset len i }

-- those that some of several ranges have, and those of pages
abbrev pub ranges_bytes : List ℕ → List Span → Region
ranges_bytes file ranges = record nothing { files = λ name i. bytes_eq file name && list_any (λ (range : Span). is_among range.start range.len i) ranges }

abbrev pub pages_bytes : List ℕ → ℕ → ℕ → Region
pages_bytes file page count = record nothing { files = λ name i. bytes_eq file name && is_among page count (i / 4096) }

-- all bytes of the pages that ranges of a file touch
abbrev pub rewritten_bytes : List ℕ → List Span → Region
rewritten_bytes file ranges = record nothing { files = λ name i. bytes_eq file name && touches_any_page ranges (i / 4096) }

-- all bytes of a line of the volume, of the blocks, or of the file of a name
abbrev pub line_of_volume : ℕ → Region
line_of_volume n = record nothing { volume = λ i. i / 64 == n }

abbrev pub line_of_blocks : ℕ → Region
line_of_blocks n = record nothing { blocks = λ i. i / 64 == n }

abbrev pub line_of_file : List ℕ → ℕ → Region
line_of_file file n = record nothing { files = λ name i. bytes_eq file name && (i / 64 == n) }

-- all bytes of the lines that a span of the volume touches
abbrev pub touched_lines : ℕ → ℕ → Region
touched_lines offset len = record nothing { volume = λ i. touches offset len (i / 64) }

-- the same where a span of addresses begins at this offset
abbrev pub touched_lines_at : Option ℕ → ℕ → Region
touched_lines_at None len = nothing
touched_lines_at (Some offset) len = touched_lines offset len

-- all bytes of the lines that one or more spans of a file touch
abbrev pub flushed_lines : List ℕ → List Span → Region
flushed_lines file spans = record nothing { files = λ name i. bytes_eq file name && touches_any spans (i / 64) }

-- the same of spans of a mapping that shows its file; nothing where it is a copy, or there is none
abbrev pub flushed_by : List Span → Option Mapping → Region
flushed_by spans None = nothing
flushed_by spans (Some m) = if is_shared m.kind then flushed_lines m.name (all_moved m.start spans) else nothing

-- and of the mapping that has a handle
abbrev pub flushed_through : List Mapping → ℕ → List Span → Region
flushed_through mappings handle spans = flushed_by spans (mapping_of handle mappings)

-- the bytes of its file that a store through a mapping changes; none where it is a copy, or there is none
abbrev pub stored_by : ℕ → ℕ → Option Mapping → Region
stored_by offset len None = nothing
stored_by offset len (Some m) = if is_shared m.kind then file_bytes m.name (m.start + offset) len else nothing

abbrev pub stored_through : List Mapping → ℕ → ℕ → ℕ → Region
stored_through mappings handle offset len = stored_by offset len (mapping_of handle mappings)

abbrev pub holds : Region → Place → Bool
holds region (of_volume i) = region.volume i
holds region (of_blocks i) = region.blocks i
holds region (of_file name i) = region.files name i
