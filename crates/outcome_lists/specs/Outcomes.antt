-- The outcomes of a look: what its parts may be found to be together.
use Rattle.std.specs.Prelude.{◌++◌, ℕ, List, [], ◌∷◌, map, Option, Some, None, option_map}
use Rattle.script_text.specs.Script.{Input}
use Rattle.explorer.specs.MachineModel.Machine.{Machine}
use Rattle.explorer.specs.Outcomes.Blocks.{BlockRead}
use Rattle.explorer.specs.Outcomes.Files.{FileRead}
use Rattle.explorer.specs.Outcomes.Pages.{PageRead}
use Rattle.explorer.specs.Outcomes.Seen.{Seen, may_show}
use Rattle.explorer.specs.Outcomes.Seen.Seen.{of_blocks, of_file, of_volume}
use Rattle.explorer.specs.AskedReads.declared.read.Read.{Read}
use Rattle.explorer.specs.CutPlaces.declared.place.CutPlace.{CutPlace}
use Rattle.explorer.specs.CutPlaces.Places.{Stop, cut_places, first_stop}
use Rattle.outcome_lists.specs.Choices.{Choice, choices, states}
use Rattle.outcome_lists.specs.Parts.{parts_of}

-- reads with their replies, by their kinds
pub record Asked : Type 0 where
  pub volume : List PageRead
  pub blocks : List BlockRead
  pub files : List FileRead

abbrev pub nothing : Asked
nothing = record { volume = []; blocks = []; files = [] }

-- one more
abbrev pub and_seen : Asked → Seen → Asked
and_seen a (of_volume r) = record a { volume = a.volume ++ r ∷ [] }
and_seen a (of_blocks r) = record a { blocks = a.blocks ++ r ∷ [] }
and_seen a (of_file r) = record a { files = a.files ++ r ∷ [] }

-- all of them, as a look
abbrev pub look_of : Asked → List Seen
look_of a = map of_volume a.volume ++ (map of_blocks a.blocks ++ map of_file a.files)

-- how the parts up to some place are found, the text of that, and the first place of a cut that leaves it so
pub record Outcome : Type 0 where
  pub asked : Asked
  pub text : List ℕ
  pub place : CutPlace

-- where some place leaves it
abbrev pub if_found : Asked → List ℕ → Option CutPlace → List Outcome
if_found asked text None = []
if_found asked text (Some place) = record { asked = asked; text = text; place = place } ∷ []

-- one outcome with one choice more, if that may be found, with each of some, and each outcome with each
abbrev pub with_choice : (List Seen → Option CutPlace) → Outcome → Choice → List Outcome
with_choice at o c = if_found (and_seen o.asked c.seen) (o.text ++ c.text) (at (look_of (and_seen o.asked c.seen)))

abbrev pub with_choices : (List Seen → Option CutPlace) → Outcome → List Choice → List Outcome
with_choices at o [] = []
with_choices at o (c ∷ cs) = with_choice at o c ++ with_choices at o cs

abbrev pub grown : (List Seen → Option CutPlace) → List Outcome → List Choice → List Outcome
grown at [] cs = []
grown at (o ∷ os) cs = with_choices at o cs ++ grown at os cs

-- those of all parts, where these are those of the parts before
abbrev pub outcomes_from : (List Seen → Option CutPlace) → (Read → List Choice) → List Outcome → List Read → List Outcome
outcomes_from at ways os [] = os
outcomes_from at ways os (part ∷ parts) = outcomes_from at ways (grown at os (ways part)) parts

-- of no part: nothing is asked
abbrev pub begun : (List Seen → Option CutPlace) → List Outcome
begun at = if_found nothing [] (at (look_of nothing))

-- the first place of a cut that may show a look
abbrev pub place_of : List Stop → List Seen → Option CutPlace
place_of stops look = option_map (λ stop. stop.place) (first_stop (may_show look) stops)

-- the outcomes of parts, through a program from that state on
abbrev pub outcomes_of : Machine → List Input → List Read → List Outcome
outcomes_of h program parts = let at = place_of (cut_places 1 h program) in outcomes_from at (choices (states h program)) (begun at) parts

-- those of a look's reads
abbrev pub outcomes : Machine → List Input → List Read → List Outcome
outcomes h program look = outcomes_of h program (parts_of h.geometry look)
