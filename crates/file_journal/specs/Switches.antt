-- Pages of one inode that are switched together, each to a unit or to none.
use Rattle.std.specs.Prelude.{◌≡◌, ◌<◌, ◌≤◌, ℕ, Bool, List, Option, Some, length, slice_get}
use Rattle.free_pool.specs.Units.{IsTaken}
use Rattle.file_journal.specs.Tables.{IsVacant}

-- switch i is that of a page to a unit or to none
abbrev pub IsSwitch : List (ℕ × Option ℕ) → ℕ → ℕ → Option ℕ → Type 0
IsSwitch switches i page unit = slice_get switches i ≡ Some (page, unit)

-- at most 256 pages that differ, and units that differ
pub record AreSwitches (units : ℕ) (switches : List (ℕ × Option ℕ)) : Type 0 where
  pub few : length switches ≤ 256
  pub within : (i page : ℕ) (unit : Option ℕ) → IsSwitch switches i page unit → page < 256
  pub below : (i page unit : ℕ) → IsSwitch switches i page (Some unit) → unit < units
  pub distinct : (i j page : ℕ) (a b : Option ℕ) → IsSwitch switches i page a → IsSwitch switches j page b → i ≡ j
  pub own : (i j p q unit : ℕ) → IsSwitch switches i p (Some unit) → IsSwitch switches j q (Some unit) → i ≡ j

-- their units are taken, and no page's
abbrev pub AreHeld : List (Option ℕ) → List Bool → List (ℕ × Option ℕ) → Type 0
AreHeld pages free switches = (i page unit : ℕ) → IsSwitch switches i page (Some unit) → IsTaken free unit × IsVacant pages unit

-- they are pages below a count
abbrev pub ArePagesOf : ℕ → List (ℕ × Option ℕ) → Type 0
ArePagesOf count switches = (i page : ℕ) (unit : Option ℕ) → IsSwitch switches i page unit → page < count
