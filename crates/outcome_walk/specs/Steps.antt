-- The choices of a part, place by place.
use Rattle.std.specs.Prelude.{◌++◌, ◌&&◌, ℕ, Bool, List, [], ◌∷◌, Option, Some, None, map, if◌then◌else◌}
use Rattle.std.specs.List.{list_any}
use Rattle.outcome_walk.specs.declared.level.Link.{Link}
use Rattle.outcome_walk.specs.declared.level.Link.TheVariants.{Alone, Opens, Joins}
use Rattle.outcome_walk.specs.declared.level.Rows.{Rows}
use Rattle.outcome_walk.specs.declared.sides.Sides.{Sides}
use Rattle.outcome_walk.specs.declared.steps.Move.{Move as MoveHeld}
use Rattle.outcome_walk.specs.declared.steps.Step.{Step}
use Rattle.outcome_walk.specs.Walking.{Trail, Way, both, is_shown, stands}

-- a choice at a place
abbrev pub step_at : Rows → Link → List Bool → Step
step_at rows link fits = record { link = link; shown = record { old = is_shown fits rows.old; new = is_shown fits rows.new } }

-- at each place, as far as both lists go
abbrev pub steps : List Rows → List Link → List Bool → List Step
steps [] links fits = []
steps (rows ∷ places) [] fits = []
steps (rows ∷ places) (link ∷ links) fits = step_at rows link fits ∷ steps places links fits

-- its text, and its steps
pub record Move : Type 0 where
  pub text : List ℕ
  pub steps : List Step

abbrev pub move_at : List Rows → List Link → Way → Move
move_at places links way = record { text = way.text; steps = steps places links way.fits }

abbrev pub moves : List Rows → List Link → List Way → List Move
moves places links ways = map (move_at places links) ways

abbrev pub move_held : MoveHeld → Move
move_held m = record { text = m.text.items; steps = m.steps.items }

abbrev pub moves_held : List MoveHeld → List Move
moves_held ms = map move_held ms

-- what stands at a place after a step, and at each
abbrev pub by_link : Link → Sides → Sides → Sides
by_link Alone shown sides = both (stands sides && shown.old)
by_link Opens shown sides = record { old = stands sides && shown.old; new = stands sides && shown.new }
by_link Joins shown sides = record { old = sides.old && shown.old; new = sides.new && shown.new }

abbrev pub stepped : Step → Sides → Sides
stepped s sides = by_link s.link s.shown sides

abbrev pub all_stepped : List Step → List Sides → List Sides
all_stepped [] sides = []
all_stepped (s ∷ steps) [] = []
all_stepped (s ∷ steps) (x ∷ sides) = stepped s x ∷ all_stepped steps sides

-- what stands, where that is somewhere
abbrev pub if_standing : List Sides → Option (List Sides)
if_standing sides = if list_any stands sides then Some sides else None

-- an outcome with a move, where some place leaves that
abbrev pub with_move : Trail → Move → List Trail
with_move t m =
    if list_any stands (all_stepped m.steps t.sides) then record { text = t.text ++ m.text; sides = all_stepped m.steps t.sides } ∷ [] else []
