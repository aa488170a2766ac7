-- Changes that are prepared: blocks written to units that the map doesn't name yet.
use Rattle.std.specs.Prelude.{◌≡◌, ◌≤◌, ◌+◌, ◌%◌, ◌==◌, ◌||◌, ◌++◌, ℕ, true, false, not, List, [], ◌∷◌, map, sum_by, nat_lt}
use Rattle.std.specs.List.{list_any}
use Rattle.nvm_base.specs.declared.units.Span.{Span}
use Rattle.range_sets.specs.Ranges.{is_disjoint}
use Rattle.nvm_model.specs.Numbered.{list_from}
use Rattle.block_device.specs.Refusals.{block_spans}
use Rattle.line_device.specs.Medium.{Medium, last_image}
use Rattle.line_words.specs.Words.{WritesBackBeside}
use Rattle.nvm_model.specs.Storage.{Block}
use Rattle.block_device.specs.declared.change.Change.{Change}
use Rattle.block_device.specs.Area.{IsBlockLine}
use Rattle.block_device.specs.Reading.{map_read}
use Rattle.block_device.specs.Object.{BlocksState, BlocksServe, AreDurable, HasGoodMetadata, IsInStep, blocks_of}
use Rattle.block_device.specs.Changes.{changed_map, units_named, MayChange, AreTaken}

-- a map may take the changes together, and the units of these are taken and durable
pub record ArePrepared (s : BlocksState) (m : Medium) (changes : List Change) : Type 0 where
  pub may : MayChange s.map changes
  pub taken : AreTaken s.free changes
  pub in_step : IsInStep s.map s.free (units_named changes)
  pub durable : AreDurable s.geo m (changed_map changes s.map)

-- the blocks once they are made
abbrev pub blocks_with : List Change → BlocksState → Medium → List Block
blocks_with changes s m = map_read s.geo m.is_bad (last_image m) (changed_map changes s.map)

-- the blocks that change, by number
abbrev pub numbers_of : List Change → List ℕ
numbers_of changes = map (λ (c : Change). c.block) changes

-- Units may have been taken and written, but the blocks are as they were before.
pub record AreAsBefore (s t : BlocksState) (m n : Medium) : Type 0 where
  pub geo : t.geo ≡ s.geo
  pub map : t.map ≡ s.map
  pub quiet : t.quiet ≡ s.quiet
  pub unsettled : t.settled ≡ false
  pub blocks : blocks_of t n ≡ blocks_of s m
  pub serves : BlocksServe t n
  pub good : HasGoodMetadata t.geo n
  pub outside : WritesBackBeside (IsBlockLine s.geo) m n

-- spans of blocks that are there, none empty
pub record AreThere (blocks : ℕ) (spans : List Span) : Type 0 where
  pub within : list_any (λ (s : Span). nat_lt blocks (s.start + s.len)) spans ≡ false
  pub full : list_any (λ (s : Span). s.len == 0) spans ≡ false

-- few of them, and no two share a block
pub record AreTogether (blocks : ℕ) (spans : List Span) : Type 0 where
  pub there : AreThere blocks spans
  pub few : sum_by (λ (s : Span). s.len) spans ≤ 64
  pub disjoint : is_disjoint spans ≡ true

-- ranges of whole blocks that are there, few and apart
pub record AreApart (count : ℕ) (ranges : List Span) : Type 0 where
  pub whole : list_any (λ (r : Span). r.len == 0 || not (r.len % 512 == 0)) ranges ≡ false
  pub within : list_any (λ (s : Span). nat_lt count (s.start + s.len)) (block_spans ranges) ≡ false
  pub few : sum_by (λ (s : Span). s.len) (block_spans ranges) ≤ 64
  pub disjoint : is_disjoint (block_spans ranges) ≡ true

-- the numbers of the blocks of spans
abbrev pub numbers_in : List Span → List ℕ
numbers_in [] = []
numbers_in (span ∷ spans) = list_from (λ b. b) span.start span.len ++ numbers_in spans
