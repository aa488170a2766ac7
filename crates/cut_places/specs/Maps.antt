-- Mappings as they are held: as the machine has them, but for their copies.
use Rattle.std.specs.Prelude.{◌^◌, ℕ, List, [], nat_lt, Option, Some, None, option_and_then, option_map, if◌then◌else◌}
use Rattle.nvm_model.specs.Mappings.{is_shared, mapping_of}
use Rattle.nvm_model.specs.Storage.{Mapping}
use Rattle.mappings.specs.declared.info.MapInfo.{MapInfo}
use Rattle.mappings.specs.Object.{MappingsState, info_of, with_mapping}
use Rattle.cut_places.specs.declared.map.MapSeen.{MapSeen}
use Rattle.cut_places.specs.declared.map.Stretch.{Stretch}

-- a mapping of a handle
abbrev pub mapping_under : ℕ → MapInfo → Mapping
mapping_under handle info = record { handle = handle; name = info.name; start = info.span.start; len = info.span.len; kind = info.kind; copy = [] }

-- a stretch and a mapping as they are held
abbrev pub stretch_held : Stretch → MapInfo
stretch_held s = record { name = s.name; span = record { start = s.start; len = s.len }; kind = s.kind }

abbrev pub mapping_held : MapSeen → Mapping
mapping_held m = mapping_under m.handle (stretch_held m.stretch)

-- a mapping without its copy
abbrev pub uncopied : Mapping → Mapping
uncopied m = record m { copy = [] }

-- what a mapping shows, which a copy does not
abbrev pub if_shared : MapInfo → Option MapInfo
if_shared info = if is_shared info.kind then Some info else None

abbrev pub shown : ℕ → List Mapping → Option MapInfo
shown handle mappings = option_and_then if_shared (option_map info_of (mapping_of handle mappings))

-- one mapping more, unless handles are used up
abbrev pub mapped : MapInfo → MappingsState → MappingsState
mapped info s = if nat_lt s.next (2 ^ 32) then with_mapping (mapping_under s.next info) s else s
