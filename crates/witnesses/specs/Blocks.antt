-- What is kept of blocks.
use Rattle.std.specs.Prelude.{ℕ, not, List, map, Option, option_and_then}
use Rattle.word_tables.specs.declared.geometry.Geometry.{Geometry}
use Rattle.cut_places.specs.SightsSeen.BlockTelling.{same_sight}
use Rattle.script_text.specs.Action.{Action}
use Rattle.cut_places.specs.Outcomes.Blocks.{BlockRead}
use Rattle.cut_places.specs.AskedReads.Fitting.{sight_fits}
use Rattle.cut_places.specs.SightsSeen.declared.block_seen.BlockSeen.{BlockSeen}
use Rattle.cut_places.specs.SightsSeen.Units.{block_once_done}
use Rattle.cut_places.specs.SightsSeen.Ways.{blocks_way}
use Rattle.witnesses.specs.declared.block_kept.BlockKept.{BlockKept}
use Rattle.witnesses.specs.Leaving.{made_by, mixing, unit_left}

-- a block as the command makes it, if there is one
abbrev pub block_made : Geometry → Option Action → BlockSeen → BlockSeen
block_made geo inside seen = made_by (block_once_done geo) inside seen

-- and as a cut inside it may leave the block beside that
abbrev pub block_mixed : Geometry → Option Action → BlockSeen → BlockSeen
block_mixed geo inside seen = block_made geo (mixing (option_and_then blocks_way inside) inside) seen

-- a block as it is left
abbrev pub block_left : Geometry → Option Action → List BlockRead → List BlockSeen → BlockSeen → BlockSeen
block_left geo inside reads units seen =
    unit_left (option_and_then blocks_way inside) (λ (s : BlockSeen). sight_fits reads s.number s.block) (block_made geo inside) (λ (s : BlockSeen). s.number) units seen

-- what is kept of a block that is left so
abbrev pub kept_block : BlockSeen → BlockSeen → BlockSeen → BlockKept
kept_block now made left = record { number = now.number; block = left.block; free = not (same_sight now.block made.block); reach = now.reach }

-- and of each
abbrev pub block_kept : Geometry → Option Action → List BlockRead → List BlockSeen → BlockSeen → BlockKept
block_kept geo inside reads units seen = kept_block seen (block_mixed geo inside seen) (block_left geo inside reads units seen)

-- the numbers of those that are kept
abbrev pub numbers_of_blocks : List BlockKept → List ℕ
numbers_of_blocks units = map (λ k. k.number) units
