-- How a pool is kept: every unit in one order, the free ones first, and the place of each.
use Rattle.std.specs.Prelude.{◌≡◌, ◌<◌, ℕ, List, Bool, length, map, nat_lt, slice_index}
use Rattle.free_pool.specs.Units.{free_count}

-- the pool whose free units are the first in the order
abbrev pub pool_of : List ℕ → ℕ → List Bool
pool_of places free = map (λ place. nat_lt place free) places

-- `places` has the place in `order` of each unit
pub record IsIndex (order places : List ℕ) : Type 0 where
  pub lengths : length places ≡ length order
  pub placed : (unit : ℕ) → unit < length places → (slice_index places unit < length order) × (slice_index order (slice_index places unit) ≡ unit)
  pub ordered : (place : ℕ) → place < length order → (slice_index order place < length places) × (slice_index places (slice_index order place) ≡ place)

-- what is true of every pool
pub record IsPool (order places : List ℕ) (free : ℕ) : Type 0 where
  pub index : IsIndex order places
  pub count : free_count (pool_of places free) ≡ free
