-- When calls are refused, and why.
use Rattle.std.specs.Prelude.{◌≡◌, ◌+◌, ◌/◌, ◌%◌, ◌==◌, ◌||◌, ℕ, Bool, not, List, [], ◌∷◌, length, map, sum_by, nat_lt, Option, Some, None, option_map, position, Result, if◌then◌else◌}
use Rattle.std.specs.List.{list_any, range_with_len}
use Rattle.nvm_base.specs.declared.units.Span.{Span}
use Rattle.line_device.specs.Medium.{Medium}
use Rattle.line_device.specs.Panel.{Outcome}
use Rattle.line_words.specs.declared.interruption.Interruption.TheVariants as stop
use Rattle.line_words.specs.Told as all
use Rattle.line_words.specs.Told.{Told, refusal_of}
use Rattle.line_words.specs.Told.Told.{Refuses, Stops}
use Rattle.word_tables.specs.declared.geometry.Geometry.{Geometry}
use Rattle.word_tables.specs.Layout.{meta_lines}
use Rattle.range_sets.specs.Ranges.{is_disjoint}
use Rattle.nvm_model.specs.Blocks.{Obstacle, first_there, first_obstacle}
use Rattle.nvm_model.specs.Blocks.Obstacle.{scar, bad_line}
use Rattle.block_device.specs.declared.fault.BlockFault.{BlockFault}
use Rattle.block_device.specs.declared.fault.BlockFault.TheVariants as fault
use Rattle.block_device.specs.Object.{BlocksState, blocks_of}

-- why a call is refused
pub data Refusal : Type 0 where
  Range : Refusal
  Length : Refusal
  Limit : Refusal
  Overlap : Refusal
  Meta : ℕ → Refusal
  Unreadable : Obstacle → Refusal

-- what a fault tells
abbrev pub block_says : BlockFault → Told Refusal
block_says fault.Range = Refuses Range
block_says fault.Length = Refuses Length
block_says fault.Limit = Refuses Limit
block_says fault.Overlap = Refuses Overlap
block_says (fault.Meta line) = Refuses (Meta line.0)
block_says (fault.Scarred block) = Refuses (Unreadable (scar block))
block_says (fault.Poison block line) = Refuses (Unreadable (bad_line block line))
block_says fault.Device = Stops stop.Failed
block_says fault.PowerLost = Stops stop.PowerLost

-- the reason that it tells, if any; and of an answer what line_words says of all faults
abbrev pub told : BlockFault → Option Refusal
told f = refusal_of (block_says f)

abbrev pub Answers : {T : Type 0} → Option Refusal → Result T BlockFault → Type 0
Answers why result = all.Answers block_says why result

abbrev pub Checks : {T : Type 0} → Option Refusal → Result T BlockFault → Type 0
Checks why result = all.Checks block_says why result

abbrev pub OnRefused : {T : Type 0} → Result T BlockFault → Type 0 → Type 0
OnRefused result P = all.OnRefused block_says result P

abbrev pub OnWorked : {T : Type 0} → Result T BlockFault → Type 0 → Type 0
OnWorked result P = all.OnWorked block_says result P

abbrev pub block_outcome : {T : Type 0} → Result T BlockFault → Outcome
block_outcome result = all.outcome_by block_says result

-- this fault tells that reason, and there is none where there is no reason
abbrev pub Obstructs : Option Refusal → Option BlockFault → Type 0
Obstructs None None = Unit {0}
Obstructs None (Some f) = ⊥
Obstructs (Some why) None = ⊥
Obstructs (Some why) (Some f) = told f ≡ Some why

-- one refusal where a condition holds
abbrev pub where_ : Bool → Refusal → Option Refusal
where_ holds why = if holds then Some why else None

-- blocks that so many bytes touch, from the first one on
abbrev pub blocks_touched : ℕ → ℕ
blocks_touched len = (len + 511) / 512

-- so many bytes from a block on: they go past the last block, or are no whole blocks
abbrev pub bytes_refusal : ℕ → ℕ → ℕ → Option Refusal
bytes_refusal count block len =
    first_there (where_ (nat_lt count (block + blocks_touched len)) Range) (where_ (len == 0 || not (len % 512 == 0)) Length)

-- the lowest line of metadata that is bad
abbrev pub meta_refusal : Geometry → Medium → Option Refusal
meta_refusal geo m = option_map Meta (position m.is_bad (range_with_len 0 (meta_lines geo)))

abbrev pub read_refusal : BlocksState → Medium → ℕ → ℕ → Option Refusal
read_refusal s m block len =
    first_there (bytes_refusal s.geo.blocks block len) (option_map Unreadable (first_obstacle (blocks_of s m) block (len / 512)))

abbrev pub write_refusal : BlocksState → Medium → ℕ → ℕ → Option Refusal
write_refusal s m block len = first_there (bytes_refusal s.geo.blocks block len) (meta_refusal s.geo m)

-- the same of blocks that are written together, at most 64 of them
abbrev pub atomic_refusal : BlocksState → Medium → ℕ → ℕ → Option Refusal
atomic_refusal s m block len =
    first_there (bytes_refusal s.geo.blocks block len) (first_there (where_ (nat_lt 64 (len / 512)) Limit) (meta_refusal s.geo m))

-- spans of blocks: one goes past the last block, or one is empty
abbrev pub spans_refusal : ℕ → List Span → Option Refusal
spans_refusal count spans =
    first_there (where_ (list_any (λ (s : Span). nat_lt count (s.start + s.len)) spans) Range)
    (where_ (list_any (λ (s : Span). s.len == 0) spans) Length)

-- spans of blocks that change together: at most 64 blocks in at most 8 spans, none of them twice
abbrev pub together_refusal : ℕ → List Span → Option Refusal
together_refusal count spans =
    first_there (spans_refusal count spans)
    (first_there (where_ (nat_lt 64 (sum_by (λ (s : Span). s.len) spans) || nat_lt 8 (length spans)) Limit)
    (where_ (not (is_disjoint spans)) Overlap))

-- the blocks of ranges, which have their lengths in bytes
abbrev pub block_spans : List Span → List Span
block_spans ranges = map (λ (r : Span). record { start = r.start; len = r.len / 512 }) ranges

-- Ranges of bytes that are written together: one goes past the last block, or has no whole blocks; or their blocks can't
-- change together.
abbrev pub ranges_refusal : ℕ → List Span → Option Refusal
ranges_refusal count ranges =
    first_there (where_ (list_any (λ (r : Span). nat_lt count (r.start + blocks_touched r.len)) ranges) Range)
    (first_there (where_ (list_any (λ (r : Span). r.len == 0 || not (r.len % 512 == 0)) ranges) Length) (together_refusal count (block_spans ranges)))

abbrev pub multiwrite_refusal : BlocksState → Medium → List Span → Option Refusal
multiwrite_refusal s m ranges = first_there (ranges_refusal s.geo.blocks ranges) (meta_refusal s.geo m)

abbrev pub change_refusal : BlocksState → Medium → List Span → Option Refusal
change_refusal s m spans = first_there (together_refusal s.geo.blocks spans) (meta_refusal s.geo m)

abbrev pub hint_refusal : BlocksState → Medium → Span → Option Refusal
hint_refusal s m span = first_there (spans_refusal s.geo.blocks (span ∷ [])) (meta_refusal s.geo m)
