-- What is walked, as it is printed: each outcome with the first place that leaves it.
use Rattle.std.specs.Prelude.{◌++◌, ℕ, List, [], ◌∷◌, codes, flat_map, length, map, nat_lt, Option, Some, None, if◌then◌else◌}
use Rattle.outcome_walk.specs.declared.level.Rows.{Rows}
use Rattle.outcome_walk.specs.declared.sides.Sides.{Sides}
use Rattle.outcome_walk.specs.Numbers.{numeral}
use Rattle.outcome_walk.specs.Walking.{Part, Trail, begun, stands, walked}
use Rattle.explorer.specs.CutPlaces.declared.place.CutPlace.{CutPlace}
use Rattle.outcome_lists.specs.declared.place.Place.{Place}
use Rattle.outcome_lists.specs.Lists.{place_text}
use Rattle.outcome_lists.specs.Outcomes.{Outcome}

-- the first place of which a side stands
abbrev pub first_place : List Place → List Sides → Option CutPlace
first_place [] sides = None
first_place (place ∷ places) [] = None
first_place (place ∷ places) (s ∷ sides) = if stands s then Some place.at else first_place places sides

-- the states of each place
abbrev pub rows_of : List Place → List Rows
rows_of places = map (λ (place : Place). place.rows) places

-- all outcomes of parts
abbrev pub walk_of : List Place → List Part → List Trail
walk_of places parts = walked (rows_of places) (begun (rows_of places) ∷ []) parts

-- the line of one
abbrev pub line_at : Option CutPlace → List ℕ → List ℕ
line_at None text = []
line_at (Some place) text = place_text place ++ (text ++ 10 ∷ [])

abbrev pub trail_line : List Place → Trail → List ℕ
trail_line places t = line_at (first_place places t.sides) t.text

abbrev pub trail_lines : List Place → List Trail → List ℕ
trail_lines places ts = flat_map (trail_line places) ts

-- what an outcome tells, as it is walked and as it is found: its text and its place
abbrev pub trail_told : List Place → Trail → List ℕ × Option CutPlace
trail_told places t = (t.text, first_place places t.sides)

abbrev pub outcome_told : Outcome → List ℕ × Option CutPlace
outcome_told o = (o.text, Some o.place)

-- those lines, where they are few enough, and the number of outcomes
abbrev pub few_lines : List Place → List Trail → List ℕ
few_lines places ts = if nat_lt 65536 (length ts) then [] else trail_lines places ts

abbrev pub walk_text : List Place → List Part → List ℕ
walk_text places parts =
    let ts = walk_of places parts in few_lines places ts ++ (codes "outcomes " ++ (numeral (length ts) ++ 10 ∷ []))
