-- What is always true of a module's memory, and what its write-backs come to.
use Rattle.std.specs.Prelude.{◌≡◌, ◌⊎◌, ◌/◌, ℕ, false, not, ◌&&◌, List, length, drop, take, Option, Some, None, slice_get, if◌then◌else◌}
use Rattle.line_device.specs.History.{latest}
use Rattle.line_module.specs.Memory.{Memory, has, is_dirty_line, memory_after_store, memory_after_evict}
use Rattle.line_module.specs.Order.{EachOnce}
use Rattle.line_module.specs.declared.cells.Cells.{Cells}

-- the order lists exactly the dirty lines that are not weak, each once
pub record IsInOrder (s : Memory) : Type 0 where
  pub dirty : (n : ℕ) → has n s.order ≡ (is_dirty_line s.medium n && not (s.medium.is_weak n))
  pub once : EachOnce s.order

-- no bytes are held of the line
abbrev pub IsBareLine : Option Cells → ℕ → Type 0
IsBareLine None line = Unit {0}
IsBareLine (Some cells) line = (slice_get cells.durable line ≡ Some None) × (slice_get cells.cached line ≡ Some None)

-- A store changes a word of another line only by writing it back, and only where that line is the oldest of 1,024 dirty ones
-- and the stored line is neither dirty nor weak.
abbrev pub StoresApart : Memory → ℕ → ℕ → List ℕ → Type 0
StoresApart s line at bytes =
    (p : ℕ) → (p / 8 ≡ line → ⊥)
    → ((memory_after_store s line at bytes).medium.history p ≡ s.medium.history p)
    ⊎ (((memory_after_store s line at bytes).medium.history p ≡ latest (s.medium.history p))
    × (slice_get s.order 0 ≡ Some (p / 8)) × (length s.order ≡ 1024)
    × (has line s.order ≡ false) × (s.medium.is_weak line ≡ false))

-- so many lines of the order are written back, the first ones, and the others stay
pub record EvictsOldest (s : Memory) (n : ℕ) : Type 0 where
  pub order : (memory_after_evict s n).order ≡ drop n s.order
  pub words : (p : ℕ) → (memory_after_evict s n).medium.history p ≡ (if has (p / 8) (take n s.order) then latest (s.medium.history p) else s.medium.history p)
