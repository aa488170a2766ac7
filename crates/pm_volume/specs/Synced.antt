-- What a sync of a span comes to whose place in the volume may be unknown, as by addresses; None where it has no place.
use Rattle.std.specs.Prelude.{ℕ, List, Option, Some, None}
use Rattle.nvm_model.specs.Interrupted.{MaySync}
use Rattle.nvm_model.specs.Page.{Page, persist}
use Rattle.page_lines.specs.Placed.{IsPlaced}

-- its lines durable
abbrev pub persist_at : Option ℕ → ℕ → List Page → List Page
persist_at None len pages = pages
persist_at (Some start) len pages = persist start len pages

-- what an interruption leaves of it
abbrev pub MaySyncAt : Option ℕ → ℕ → List Page → List Page → Type 0
MaySyncAt None len old new = MaySync 0 0 old new
MaySyncAt (Some start) len old new = MaySync start len old new

-- a line of the device that it touches
abbrev pub IsPlacedAt : (ℕ → Option ℕ) → Option ℕ → ℕ → ℕ → Type 0
IsPlacedAt place None len line = ⊥
IsPlacedAt place (Some start) len line = IsPlaced place start len line
