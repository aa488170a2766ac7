-- Mappings of files, in order of handle.
use Rattle.std.specs.Prelude.{◌+◌, ◌==◌, ◌&&◌, ◌||◌, ◌++◌, ℕ, Bool, true, false, not, List, [], length, map, take, drop, Option, Some, None, option_and_then, if◌then◌else◌}
use Rattle.std.specs.List.{filter, find, list_any}
use Rattle.std.specs.Str.{bytes_eq}
use Rattle.nvm_base.specs.Units.{overlap}
use Rattle.nvm_base.specs.declared.files.Kind.{Kind}
use Rattle.nvm_base.specs.declared.files.Kind.TheVariants.{Shared, Private}
use Rattle.nvm_base.specs.declared.units.Span.{Span}
use Rattle.nvm_model.specs.Page.{Page, look}
use Rattle.nvm_model.specs.Storage.{Mapping}

-- it shows its file; else it is a copy
abbrev pub is_shared : Kind → Bool
is_shared Shared = true
is_shared Private = false

-- the stretch of its file that a mapping has
abbrev pub span_of : Mapping → Span
span_of m = record { start = m.start; len = m.len }

-- a mapping has that handle
abbrev pub has_handle : ℕ → Mapping → Bool
has_handle handle m = handle == m.handle

-- the mapping with that handle
abbrev pub mapping_of : ℕ → List Mapping → Option Mapping
mapping_of handle mappings = find (has_handle handle) mappings

-- the mappings without that one
abbrev pub without_mapping : ℕ → List Mapping → List Mapping
without_mapping handle mappings = filter (λ m. not (has_handle handle m)) mappings

-- whether a file of that name has a mapping
abbrev pub is_mapped : List ℕ → List Mapping → Bool
is_mapped name mappings = list_any (λ m. bytes_eq m.name name) mappings

-- whether a shared mapping of that file has a byte of the span
abbrev pub shows : List ℕ → Span → Mapping → Bool
shows name span m = is_shared m.kind && (bytes_eq m.name name && overlap (span_of m) span)

abbrev pub is_shown : List ℕ → Span → List Mapping → Bool
is_shown name span mappings = list_any (shows name span) mappings

-- the bytes of a private mapping
abbrev pub own_bytes : Mapping → Option (List ℕ)
own_bytes m = if is_shared m.kind then None else Some m.copy

-- the bytes of the private mapping with that handle
abbrev pub copy_of : ℕ → List Mapping → Option (List ℕ)
copy_of handle mappings = option_and_then own_bytes (mapping_of handle mappings)

-- a mapping with its copy changed by f, where it is that one
abbrev pub recopied : ℕ → (List ℕ → List ℕ) → Mapping → Mapping
recopied handle f m = record m { copy = if has_handle handle m then f m.copy else m.copy }

-- the mappings with the copy of that one changed
abbrev pub change_copy : ℕ → (List ℕ → List ℕ) → List Mapping → List Mapping
change_copy handle f mappings = map (recopied handle f) mappings

-- bytes with others put at an offset
abbrev pub overwritten : ℕ → List ℕ → List ℕ → List ℕ
overwritten offset bytes old = take offset old ++ (bytes ++ drop (offset + length bytes) old)

-- no more mappings can be made: there are 256, or the handles are used up
abbrev pub is_full : List Mapping → ℕ → Bool
is_full mappings next = length mappings == 256 || next == 4294967296

-- a mapping of a file with these pages; a private one is a copy of their bytes
abbrev pub new_mapping : ℕ → List ℕ → Span → Kind → List Page → Mapping
new_mapping handle name span kind pages = record {
  handle = handle;
  name = name;
  start = span.start;
  len = span.len;
  kind = kind;
  copy = if is_shared kind then [] else look pages span.start span.len;
}
