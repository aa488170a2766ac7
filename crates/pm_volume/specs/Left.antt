-- What a store, a sync or a restart may leave of lines of pages.
use Rattle.std.specs.Prelude.{◌≡◌, ◌⊎◌, ℕ, true, false, List, [], ◌∷◌, length, map, slice_get, Option, Some, None}
use Rattle.line_device.specs.History.{MayKeep, latest}
use Rattle.line_device.specs.Medium.{Medium}
use Rattle.word_tables.specs.declared.geometry.Geometry.{Geometry}
use Rattle.nvm_model.specs.Cell.{Cell, zero_cell}
use Rattle.nvm_model.specs.Cell.Cell.{Bad, Kept}
use Rattle.nvm_model.specs.Interrupted.{LineByLine}
use Rattle.nvm_model.specs.Page.{Page}
use Rattle.pm_volume.specs.Images.{EachReadsPages}

-- the line is as it was, or its page was absent and is filled
abbrev pub IsKeptLine : Option Cell → Option Cell → Type 0
IsKeptLine old new = (new ≡ old) ⊎ ((old ≡ None) × (new ≡ Some zero_cell))

-- the line survives a sync: its page is absent, or it is neither bad nor weak
abbrev pub IsSoundLine : Option Cell → Type 0
IsSoundLine None = Unit {0}
IsSoundLine (Some Bad) = ⊥
IsSoundLine (Some (Kept true words)) = ⊥
IsSoundLine (Some (Kept false words)) = Unit {0}

-- a line that is there has eight words, unless it is bad
abbrev pub HasWords : Option Cell → Type 0
HasWords None = Unit {0}
HasWords (Some Bad) = Unit {0}
HasWords (Some (Kept weak words)) = length words ≡ 8

-- no value of the line waits to be made durable
abbrev pub IsDurable : Option Cell → Type 0
IsDurable None = Unit {0}
IsDurable (Some Bad) = Unit {0}
IsDurable (Some (Kept weak words)) = map latest words ≡ words

-- a word that has one value, which this unit may keep of these
pub record IsKeptOf (unit : ℕ) (history word : List ℕ) : Type 0 where
  pub value : ℕ
  pub was : MayKeep unit value history
  pub is : word ≡ value ∷ []

-- what a restart of this survival unit may leave of a line, and of pages: one value of each word
abbrev pub LeavesCell : ℕ → Cell → Cell → Type 0
LeavesCell unit Bad new = new ≡ Bad
LeavesCell unit (Kept weak words) Bad = ⊥
LeavesCell unit (Kept weak words) (Kept mark left) =
    (mark ≡ weak) × (length left ≡ length words)
    × ((w : ℕ) (history word : List ℕ) → slice_get words w ≡ Some history → slice_get left w ≡ Some word → IsKeptOf unit history word)

abbrev pub MayLeave : ℕ → List Page → List Page → Type 0
MayLeave unit old new = LineByLine (λ n. LeavesCell unit) old new

-- in each image this holds of all pages that a restart of this unit may leave
abbrev pub EachLeft : ℕ → Geometry → Medium → (List Page → Type 0) → Type 0
EachLeft unit geo m P = EachReadsPages geo m (λ pages. (left : List Page) → MayLeave unit pages left → P left)
