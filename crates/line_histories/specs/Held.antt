-- The cell that is kept of a line.
use Rattle.std.specs.Prelude.{◌≡◌, ℕ, Bool, List, [], slice_index_or, if◌then◌else◌}
use Rattle.nvm_model.specs.Numbered.{list_from}
use Rattle.nvm_model.specs.Cell.{Cell}
use Rattle.nvm_model.specs.Cell.Cell.{Bad, Kept}
use Rattle.line_histories.specs.declared.log.Stored.{Stored}
use Rattle.line_histories.specs.Log.{history}

-- the histories of eight words
unfoldable pub histories : List ℕ → List Stored → List (List ℕ)
histories durable log = list_from (history durable log) 0 8

-- the cell of a line that is bad or not, and weak or not
abbrev pub held : Bool → Bool → List ℕ → List Stored → Cell
held bad weak durable log = if bad then Bad else Kept weak (histories durable log)

-- word w of the line, if it isn't bad, has this history
abbrev pub HasHistory : Cell → ℕ → List ℕ → Type 0
HasHistory Bad w values = Unit {0}
HasHistory (Kept weak words) w values = slice_index_or words w [] ≡ values
