-- The lines and blocks that a question looks at: whether they may be as it asks, and what a command makes of them.
use Rattle.std.specs.Prelude.{◌≡◌, ◌*◌, ◌<◌, ℕ, Bool, List, [], ◌∷◌, map}
use Rattle.word_tables.specs.declared.geometry.Geometry.{Geometry}
use Rattle.nvm_model.specs.Cell.{Cell}
use Rattle.block_sights.specs.Sights.{Sight}
use Rattle.script_text.specs.Action.{Action}
use Rattle.asked_reads.specs.declared.question.Question.{Question}
use Rattle.sights.specs.declared.line_seen.LineSeen.{LineSeen}
use Rattle.sights.specs.declared.block_seen.BlockSeen.{BlockSeen}
use Rattle.asked_reads.specs.Asking.{blocks_of, volume_asked}
use Rattle.sights.specs.Changing.{line_changed, volume_change}
use Rattle.sights.specs.ChangingBlocks.{block_changed}
use Rattle.asked_reads.specs.Fitting.{cell_fits, sight_fits}

abbrev pub line_may_fit : Question → LineSeen → Bool
line_may_fit q seen = cell_fits (volume_asked q) seen.number seen.line

abbrev pub line_once_done : Geometry → Action → LineSeen → LineSeen
line_once_done geo action seen = record seen { line = line_changed (volume_change geo action) seen.number seen.line }

abbrev pub block_may_fit : Question → BlockSeen → Bool
block_may_fit q seen = sight_fits (blocks_of q) seen.number seen.block

abbrev pub block_once_done : Geometry → Action → BlockSeen → BlockSeen
block_once_done geo action seen = record seen { block = block_changed action seen.number seen.block }

-- these are the lines of f, and these the blocks
abbrev pub AreLines : (ℕ → Cell) → List LineSeen → Type 0
AreLines f [] = Unit {0}
AreLines f (seen ∷ lines) = (seen.line ≡ f seen.number) × AreLines f lines

abbrev pub AreBlocks : (ℕ → Sight) → List BlockSeen → Type 0
AreBlocks f [] = Unit {0}
AreBlocks f (seen ∷ blocks) = (seen.block ≡ f seen.number) × AreBlocks f blocks

-- their numbers
abbrev pub line_numbers : List LineSeen → List ℕ
line_numbers lines = map (λ seen. seen.number) lines

abbrev pub block_numbers : List BlockSeen → List ℕ
block_numbers blocks = map (λ seen. seen.number) blocks

-- they are lines of the volume of a device of these sizes, and these its blocks
abbrev pub AreWithin : Geometry → List LineSeen → Type 0
AreWithin geo [] = Unit {0}
AreWithin geo (seen ∷ lines) = (seen.number < 64 * geo.vpages) × AreWithin geo lines

abbrev pub AreAmong : Geometry → List BlockSeen → Type 0
AreAmong geo [] = Unit {0}
AreAmong geo (seen ∷ blocks) = (seen.number < geo.blocks) × AreAmong geo blocks
