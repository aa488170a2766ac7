-- A free unit: where its lines are, and what they read as once they hold a block's bytes.
use Rattle.std.proofs.Common.{◌≡◌, inl, inr, ℕ, Bool, true, false, ◌+◌, ◌-◌, ◌*◌, ◌/◌, ◌%◌, ◌<◌, ◌≤◌, List, Some, length, get_or, set, take, drop, ◌∙◌, ap, subst, arith, length-set}
use Rattle.std.proofs.lemmas.Option.{slice_get_within}
use Rattle.line_device.specs.Medium.{Medium, IsSound, last_image}
use Rattle.line_words.specs.Words.{HoldsLine, IsOnly}
use Rattle.word_tables.specs.declared.geometry.Geometry.{Geometry}
use Rattle.word_tables.specs.Bounds.{IsValid}
use Rattle.word_tables.specs.Layout.{blocks, block_line, first_line, size, HasLine}
use Rattle.word_log.specs.Area.{IsOf}
use Rattle.block_map.specs.declared.state.BlockState.{BlockState}
use Rattle.block_map.specs.declared.state.BlockState.TheVariants.{Absent, Scarred, At}
use Rattle.block_map.specs.States.{IsAt}
use Rattle.free_pool.specs.Units.{IsFree, IsTaken}
use Rattle.free_pool.proofs.BesideLemmas as pool
use Rattle.free_pool.proofs.BesideLemmas.{known-taken, slice_get-set_same, taken_beside}
use Rattle.nvm_model.specs.Numbered.{list_from}
use Rattle.nvm_model.specs.Storage.Block.{Data}
use Rattle.nvm_model.specs.Blocks.{data_from}
use Rattle.block_device.specs.Area.{block_area, IsBlockLine}
use Rattle.block_device.specs.Object.{AreDurable, IsInStep, units_of}
use Rattle.block_device.specs.Reading.{block_read, line_read}
use Rattle.block_device.proofs.ReadLemmas.{IsNamed}
use Rattle.block_device.proofs.PlaceLemmas.{area_in_metadata, data_behind_metadata}
use Rattle.block_device.proofs.UnitsOfLemmas.{on_unit}
use Rattle.block_device.proofs.ChangeLemmas.{is_at-set}
use Rattle.block_device.proofs.ByteLemmas.{list_from-shift, is_only-newest, line_read-holds}

-- the eight lines of a unit
abbrev pub IsUnitLine : Geometry → ℕ → ℕ → Type 0
IsUnitLine geo unit n = (block_line geo unit ≤ n) × (n < block_line geo unit + 8)

pub is_unit_line : (geo : Geometry) (unit first count n : ℕ) → first ≡ block_line geo unit → count ≡ 8 → (first ≤ n) × (n < first + count) → IsUnitLine geo unit n
is_unit_line geo unit first count n at many h = (omega (arith, h.0), omega (arith, h.1))

-- a free unit has no block on it
pub free_is_vacant : (states : List BlockState) (free : List Bool) (unnamed unit : ℕ) → IsInStep states free unnamed → IsFree free unit → (block : ℕ) → IsAt states block unit → ⊥
free_is_vacant states free unnamed unit step is_free block at = pool.free_is_vacant (units_of states) free unit is_free step.taken block (on_unit states block unit at)

-- once it is taken, one unit more is taken and not named
pub in_step-taken : (states : List BlockState) (free : List Bool) (unit unnamed : ℕ) → IsInStep states free unnamed → IsFree free unit → IsInStep states (set free unit false) (unnamed + 1)
in_step-taken states free unit unnamed step is_free = record {
  taken = taken_beside (units_of states) free unit is_free step.taken;
  count = omega (arith, known-taken (units_of states) free unit is_free, length-set free unit false, step.count);
}

pub taken-set : (free : List Bool) (unit other : ℕ) → IsFree free unit → At unit ≡ At other → IsTaken (set free unit false) other
taken-set free unit other is_free same =
    subst (IsTaken (set free unit false)) (unit_of same) (slice_get-set_same free unit false (slice_get_within free unit true is_free))
  where
    of_state : BlockState → ℕ
    of_state Absent = 0
    of_state Scarred = 0
    of_state (At u) = u

    unit_of : At unit ≡ At other → unit ≡ other
    unit_of e = ap of_state e

module _ (geo : Geometry) (valid : IsValid geo) (unit : ℕ) (within : unit < geo.blocks + 64) where
  -- its lines are the blocks'
  pub unit_is_data : (n : ℕ) → IsUnitLine geo unit n → HasLine geo blocks n
  unfolding first_line size
  unit_is_data n h = let from = h.0 in let to = h.1 in (omega arith, omega arith)

  pub unit_is_block : (n : ℕ) → IsUnitLine geo unit n → IsBlockLine geo n
  unit_is_block n h = inr (inr (unit_is_data n h))

  -- and apart from log and map, and from what the map names
  pub unit_off_area : (p : ℕ) → IsOf (block_area geo) p → IsUnitLine geo unit (p / 8) → ⊥
  unit_off_area p of h =
      let behind = data_behind_metadata geo valid (p / 8) (unit_is_data (p / 8) h) in
      let before = area_in_metadata geo valid p of in
      omega arith

pub unit_off_named : (geo : Geometry) (states : List BlockState) (unit : ℕ) → ((block : ℕ) → IsAt states block unit → ⊥) → (n : ℕ) → IsNamed geo states n → IsUnitLine geo unit n → ⊥
unit_off_named geo states unit vacant n named h =
    let from = named.from in
    let to = named.to in
    let start = h.0 in
    let end = h.1 in
    let same : named.unit ≡ unit = omega arith in
    vacant named.block (subst (IsAt states named.block) same named.at)

-- its lines hold a block's bytes
abbrev pub HoldsBlock : Geometry → Medium → ℕ → List ℕ → Type 0
HoldsBlock geo m unit bytes = (k : ℕ) → k < 8 → HoldsLine m (block_line geo unit + k) (take 64 (drop (64 * k) bytes))

pub holds_block : (geo : Geometry) (m : Medium) (unit first count : ℕ) (bytes : List ℕ) → first ≡ block_line geo unit → count ≡ 8 → ((k : ℕ) → k < count → HoldsLine m (first + k) (take 64 (drop (64 * k) bytes))) → HoldsBlock geo m unit bytes
holds_block geo m unit first count bytes at many holds k less =
    subst (λ n. HoldsLine m (n + k) (take 64 (drop (64 * k) bytes))) at (holds k (omega arith))

-- it reads as that block
pub unit_reads : (geo : Geometry) (m : Medium) (unit : ℕ) (bytes : List ℕ) → IsSound m → ((k : ℕ) → get_or bytes k 0 < 256) → HoldsBlock geo m unit bytes → block_read geo m.is_bad (last_image m) (At unit) ≡ data_from bytes 0
unit_reads geo m unit bytes sound small holds =
    ap Data
    (list_from-shift (line_read m.is_bad (last_image m)) (λ n. Some (list_from (λ i. get_or bytes i 0) (64 * n) 64)) (block_line geo unit) (8 * 0) 8
    (λ k less. line_read-holds m (block_line geo unit + k) k bytes sound (holds k less) small ∙ ap (λ n. Some (list_from (λ i. get_or bytes i 0) (64 * n) 64)) (at k)))
  where
    at : (k : ℕ) → k ≡ 8 * 0 + k
    at k = omega arith

-- and is durable
unit_durable : (geo : Geometry) (m : Medium) (unit : ℕ) (bytes : List ℕ) → HoldsBlock geo m unit bytes → (p : ℕ) → block_line geo unit ≤ p / 8 → p / 8 < block_line geo unit + 8 → IsOnly (last_image m p) (m.history p)
unit_durable geo m unit bytes holds p from to =
    let k : ℕ = p / 8 - block_line geo unit in
    let place : 8 * (block_line geo unit + k) + p % 8 ≡ p = omega arith in
    subst (λ q. IsOnly (last_image m q) (m.history q)) place
    (is_only-newest _ _ ((holds k (omega arith)).words (p % 8) (omega arith)))

-- so are all units that the map names with it
pub durable-set : (geo : Geometry) (old new : Medium) (states : List BlockState) (b unit : ℕ) (bytes : List ℕ) → b < length states → AreDurable geo new states → HoldsBlock geo new unit bytes → AreDurable geo new (set states b (At unit))
durable-set geo old new states b unit bytes there durable holds block other at p from to =
    elim (is_at-set states b block other (At unit) there at) as (λ _. IsOnly (last_image new p) (new.history p)) [
      | inl here ↦
          let same : unit ≡ other = unit_of here.1 in
          unit_durable geo new unit bytes holds p (omega arith) (omega arith)
      | inr else_ ↦ durable block other else_.1 p from to
    ]
  where
    of_state : BlockState → ℕ
    of_state Absent = 0
    of_state Scarred = 0
    of_state (At u) = u

    unit_of : At unit ≡ At other → unit ≡ other
    unit_of e = ap of_state e
