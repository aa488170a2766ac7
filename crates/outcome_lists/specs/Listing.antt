-- What a list of outcomes is to have: what some choices are found to be together, one of each part.
use Rattle.std.specs.Prelude.{◌≡◌, ℕ, Contains, List, [], ◌∷◌, Some, flat_map}
use Rattle.std.specs.List.{AllByRecursion, AllZip}
use Rattle.script_text.specs.Script.{Input}
use Rattle.explorer.specs.MachineModel.Machine.{Machine}
use Rattle.explorer.specs.AskedReads.declared.read.Read.{Read}
use Rattle.explorer.specs.CutPlaces.declared.place.CutPlace.{CutPlace}
use Rattle.explorer.specs.CutPlaces.Places.{cut_places}
use Rattle.outcome_lists.specs.Choices.{Choice, choices, states}
use Rattle.outcome_lists.specs.Outcomes.{Asked, Outcome, and_seen, look_of, nothing, place_of}

-- one way of each part, part by part
abbrev pub Picks : (Read → List Choice) → List Read → List Choice → Type 0
Picks ways parts cs = AllZip (λ part c. Contains (ways part) c) parts cs

-- reads with those of these choices behind them, and the text of these
abbrev pub asked_with : Asked → List Choice → Asked
asked_with a [] = a
asked_with a (c ∷ cs) = asked_with (and_seen a c.seen) cs

abbrev pub text_of : List Choice → List ℕ
text_of cs = flat_map (λ (c : Choice). c.text) cs

-- these choices together, found at that place
abbrev pub outcome_at : CutPlace → List Choice → Outcome
outcome_at place cs = record { asked = asked_with nothing cs; text = text_of cs; place = place }

-- It is of one choice of each part, and its place is the first of a cut that may show them together.
pub record IsFound (h : Machine) (program : List Input) (parts : List Read) (o : Outcome) : Type 0 where
  pub picked : List Choice
  pub ways : Picks (choices (states h program)) parts picked
  pub place : CutPlace
  pub first : place_of (cut_places 1 h program) (look_of (asked_with nothing picked)) ≡ Some place
  pub is : o ≡ outcome_at place picked

-- each of them so beside each that stands behind it
abbrev pub Pairwise : {A : Type 0} → (A → A → Type 0) → List A → Type 0
Pairwise R [] = Unit {0}
Pairwise R (x ∷ xs) = AllByRecursion (R x) xs × Pairwise R xs

-- no two of them are the same look
abbrev pub StandOnce : List Outcome → Type 0
StandOnce os = Pairwise (λ o other. look_of o.asked ≡ look_of other.asked → ⊥) os
