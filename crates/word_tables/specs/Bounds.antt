-- Which sizes a medium may have.
use Rattle.std.specs.Prelude.{◌≡◌, ◌≤◌, ◌%◌}
use Rattle.word_tables.specs.declared.geometry.Geometry.{Geometry}

-- within the limits
pub record IsValid (geo : Geometry) : Type 0 where
  pub least_blocks : 8 ≤ geo.blocks
  pub most_blocks : geo.blocks ≤ 4096
  pub whole_lines : geo.blocks % 8 ≡ 0
  pub least_vpages : 2 ≤ geo.vpages
  pub most_vpages : geo.vpages ≤ 256
  pub least_fpages : 32 ≤ geo.fpages
  pub most_fpages : geo.fpages ≤ 1024
