-- Units for holes.
use Rattle.std.specs.Prelude.{◌≡◌, [], ◌∷◌, ◌≢◌, ◌+◌, ◌<◌, ◌≤◌, ℕ, Bool, false, List, Option, Some, None, length, map, slice_index_or, slice_set}
use Rattle.line_device.specs.Word.{word_at}
use Rattle.free_pool.specs.Units.{IsFree}
use Rattle.word_tables.specs.declared.geometry.Geometry.{Geometry}
use Rattle.nvm_model.specs.Cell.{Cell}
use Rattle.nvm_model.specs.Cell.Cell.{Kept}
use Rattle.nvm_model.specs.Numbered.{list_from}
use Rattle.nvm_model.specs.Page.{absent_among}
use Rattle.file_journal.specs.Object.{JournalState}
use Rattle.file_journal.specs.Switches.{AreHeld, IsSwitch}
use Rattle.file_journal.specs.Tables.{IsVacant, unit_at}
use Rattle.file_pages.specs.Object.{pages_there, unit_place}

-- a line among the 64 from one on, as those of a unit from its first one
abbrev pub IsOfUnit : ℕ → ℕ → Type 0
IsOfUnit first n = (first ≤ n) × (n < first + 64)

-- a line of these bytes, healthy, not weak and durable
abbrev pub durable_cell : List ℕ → Cell
durable_cell bytes = Kept false (list_from (λ w. word_at bytes w ∷ []) 0 8)

-- units are the device's, and each is listed once
pub record AreOwn (size : ℕ) (units : List (Option ℕ)) : Type 0 where
  pub below : (k u : ℕ) → slice_index_or units k None ≡ Some u → u < size
  pub once : (k j u : ℕ) → slice_index_or units k None ≡ Some u → slice_index_or units j None ≡ Some u → k ≡ j

-- the units of switches
abbrev pub switch_units : List (ℕ × Option ℕ) → List (Option ℕ)
switch_units switches = map (λ c. c.1) switches

-- a line of one of these units
abbrev pub IsUnitLine : Geometry → List (Option ℕ) → ℕ → Type 0
IsUnitLine geo units line = (n : ℕ) × (unit_place geo units n ≡ Some line)

-- a unit that was free, and no page's, is taken
pub record Takes (old new : JournalState) (unit : ℕ) : Type 0 where
  pub free : IsFree old.free unit
  pub vacant : IsVacant old.tables.pages unit
  pub below : unit < old.geo.fpages
  pub after : new ≡ record old { free = slice_set old.free unit false }

-- a page that is no hole needs none
pub record NeedsNone (old new : JournalState) (inode page : ℕ) : Type 0 where
  pub on : unit_at old.tables inode page ≢ None
  pub same : new ≡ old

-- a hole gets one
pub record GetsUnit (old new : JournalState) (inode page unit : ℕ) : Type 0 where
  pub hole : unit_at old.tables inode page ≡ None
  pub takes : Takes old new unit

-- Each hole among so many pages of an inode, and no other page, gets a unit of its own, which is taken then and no page's.
pub record AreFresh (s : JournalState) (inode first count : ℕ) (fresh : List (ℕ × Option ℕ)) (free : List Bool) : Type 0 where
  pub few : length fresh ≤ count
  pub number : length fresh ≡ absent_among (pages_there s inode) first count
  pub hole : (i page : ℕ) (unit : Option ℕ) → IsSwitch fresh i page unit → (first ≤ page) × (page < first + count) × (unit_at s.tables inode page ≡ None)
  pub unit : (i page : ℕ) (unit : Option ℕ) → IsSwitch fresh i page unit → (u : ℕ) × (unit ≡ Some u) × (u < s.geo.fpages)
  pub each : (page : ℕ) → first ≤ page → page < first + count → unit_at s.tables inode page ≡ None → (i : ℕ) × (u : ℕ) × IsSwitch fresh i page (Some u)
  pub distinct : (i j page : ℕ) (a b : Option ℕ) → IsSwitch fresh i page a → IsSwitch fresh j page b → i ≡ j
  pub own : (i j p q u : ℕ) → IsSwitch fresh i p (Some u) → IsSwitch fresh j q (Some u) → i ≡ j
  pub held : AreHeld s.tables.pages free fresh
