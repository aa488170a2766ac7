-- The attributes of the modes, by name.
use Rattle.std.specs.Prelude.{ℕ, ◌-◌, ◌*◌, ◌==◌, List, [], ◌∷◌, ◌++◌, Option, Some, None, if◌then◌else◌, codes}
use Rattle.std.specs.Str.{bytes_eq}
use Rattle.word_tables.specs.declared.geometry.Geometry.{Geometry}

-- an attribute: its name and what it tells
pub record Attribute : Type 0 where
  pub name : List ℕ
  pub value : ℕ

-- the attribute of that name, which tells that value
abbrev pub tells : List ℕ → ℕ → Attribute
tells name value = record { name = name; value = value }

-- of blocks; sizes are in bytes
abbrev pub block_attributes : Geometry → List Attribute
block_attributes geo =
    tells (codes "block.size") 512
    ∷ tells (codes "block.count") geo.blocks
    ∷ tells (codes "block.write_atomicity") 512
    ∷ tells (codes "block.atomic_blocks") 64
    ∷ tells (codes "block.atomic_ranges") 8
    ∷ tells (codes "block.discard_zeros") 1
    ∷ []

-- of the volume
abbrev pub volume_attributes : Geometry → List Attribute
volume_attributes geo =
    tells (codes "volume.size") (geo.vpages * 4096)
    ∷ tells (codes "volume.ranges") 2
    ∷ tells (codes "volume.sync_unit") 64
    ∷ []

-- of files: 16 of the pages are room for writes that are done whole or not at all
abbrev pub file_attributes : Geometry → List Attribute
file_attributes geo =
    tells (codes "file.pages") (geo.fpages - 16)
    ∷ tells (codes "file.max_pages") 256
    ∷ tells (codes "file.max_files") 64
    ∷ tells (codes "file.atomic_pages") 16
    ∷ tells (codes "file.atomic_ranges") 8
    ∷ []

-- of mapped files, on a medium of this survival unit: an aligned word is kept whole, or each of its bytes is
abbrev pub mapping_attributes : ℕ → List Attribute
mapping_attributes unit =
    tells (codes "pm.store_atomicity") unit
    ∷ tells (codes "pm.interrupted_store_atomicity") (if unit == 8 then 1 else 0)
    ∷ tells (codes "pm.error_range") 64
    ∷ tells (codes "pm.error_offset") 0
    ∷ tells (codes "pm.flush_ranges") 8
    ∷ tells (codes "pm.domains") 1
    ∷ []

-- the table
abbrev pub attributes : Geometry → ℕ → List Attribute
attributes geo unit = block_attributes geo ++ volume_attributes geo ++ file_attributes geo ++ mapping_attributes unit

-- what the first attribute of that name tells, None where there is none
abbrev pub value_in : List Attribute → List ℕ → Option ℕ
value_in [] name = None
value_in (attribute ∷ rest) name = if bytes_eq name attribute.name then Some attribute.value else value_in rest name

-- what the attribute of that name tells, None where the table has none
unfoldable pub attribute : List ℕ → Geometry → ℕ → Option ℕ
attribute name geo unit = value_in (attributes geo unit) name
