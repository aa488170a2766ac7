-- The number of outcomes, from what stands alone.
use Rattle.std.specs.Prelude.{◌+◌, ◌*◌, ℕ, List, [], ◌∷◌, Option, Some, None, option_map, slice_get}
use Rattle.outcome_walk.specs.declared.crowd.Crowd.{Crowd}
use Rattle.outcome_walk.specs.declared.level.Rows.{Rows}
use Rattle.outcome_walk.specs.declared.sides.Sides.{Sides}
use Rattle.outcome_walk.specs.Steps.{Move, all_stepped, if_standing, moves}
use Rattle.outcome_walk.specs.Walking.{Part}

-- what a function gives of sides; nothing where none stand
abbrev pub some_counted : (List Sides → ℕ) → Option (List Sides) → ℕ
some_counted f None = 0
some_counted f (Some sides) = f sides

-- what it gives of the sides after each move, together
abbrev pub below : (List Sides → ℕ) → List Move → List Sides → ℕ
below f [] sides = 0
below f (m ∷ ms) sides = some_counted f (if_standing (all_stepped m.steps sides)) + below f ms sides

-- how many outcomes of all parts come of an outcome of those before, where that stands so
abbrev pub completions : List Rows → List Part → List Sides → ℕ
completions places [] sides = 1
completions places (part ∷ parts) sides = below (completions places parts) (moves places part.links part.ways) sides

-- what it gives of crowds: of each so many times as there are outcomes
abbrev pub weighed : (List Sides → ℕ) → List Crowd → ℕ
weighed f [] = 0
weighed f (c ∷ crowds) = c.number * f c.sides.items + weighed f crowds

-- the sides of the crowd of that number
abbrev pub sides_at : ℕ → List Crowd → Option (List Sides)
sides_at k crowds = option_map (λ (c : Crowd). c.sides.items) (slice_get crowds k)
