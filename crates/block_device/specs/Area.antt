-- Which lines of a medium are the blocks'.
use Rattle.std.specs.Prelude.{◌⊎◌, ◌*◌, ◌/◌, ℕ}
use Rattle.word_tables.specs.declared.geometry.Geometry.{Geometry}
use Rattle.word_tables.specs.Layout.{block_log, block_map, blocks, first_line, lines_in, HasLine}
use Rattle.word_log.specs.declared.area.LogArea.{LogArea}

-- the log of the block map, which takes 64 changes at once
abbrev pub block_area : Geometry → LogArea
block_area geo = record { log = lines_in geo block_log; cap = 64; home = record { start = 8 * first_line geo block_map; len = geo.blocks } }

-- a line of the log, of the map, or of a unit
abbrev pub IsBlockLine : Geometry → ℕ → Type 0
IsBlockLine geo n = HasLine geo block_log n ⊎ HasLine geo block_map n ⊎ HasLine geo blocks n

-- a word of such a line
abbrev pub IsBlockPlace : Geometry → ℕ → Type 0
IsBlockPlace geo p = IsBlockLine geo (p / 8)
