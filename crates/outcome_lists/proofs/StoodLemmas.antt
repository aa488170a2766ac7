-- Which sides of places stand, with a part more.
use Rattle.std.proofs.Common.{◌≡◌, ◌||◌, Bool, true, false, List, [], ◌∷◌, ◌++◌, Option, Some, None, is_some, map, refl, sym, ap, ◌∙◌}
use Rattle.std.specs.Prelude.{Contains, if◌then◌else◌}
use Rattle.std.specs.List.{list_any}
use Rattle.explorer.specs.MachineModel.Machine.{Machine}
use Rattle.explorer.specs.AskedReads.declared.read.Read.{Read}
use Rattle.outcome_walk.specs.declared.level.Rows.{Rows}
use Rattle.outcome_walk.specs.declared.sides.Sides.{Sides}
use Rattle.outcome_walk.specs.Walking.{all_moved, both, moved, stands}
use Rattle.outcome_lists.specs.declared.place.Place.{Place}
use Rattle.outcome_lists.specs.declared.ways.Ways.{Ways}
use Rattle.outcome_lists.specs.Choices.{Choice, choices}
use Rattle.outcome_lists.specs.Levels.{shows_alone}
use Rattle.outcome_lists.specs.Listing.{Picks, asked_with}
use Rattle.outcome_lists.specs.Mixing.{link}
use Rattle.outcome_lists.specs.Outcomes.{Asked, and_seen}
use Rattle.outcome_lists.specs.Together.{fitted_pairs, stood, stood_at}
use Rattle.outcome_lists.specs.Walks.{first_place, rows_of}

-- the last of some parts behind that one, and of pairs
abbrev pub last_part : Option Read → List Read → Option Read
last_part before [] = before
last_part before (p ∷ ps) = last_part (Some p) ps

abbrev last_paired : Option Read → List (Read × List Bool) → Option Read
last_paired before [] = before
last_paired before (x ∷ xs) = last_paired (Some x.0) xs

pub last_more : (before : Option Read) (parts : List Read) (p : Read) → last_part before (parts ++ p ∷ []) ≡ Some p
last_more before [] p = refl
last_more before (q ∷ parts) p = last_more (Some q) parts p

-- choices with one more
pub asked_more : (a : Asked) (cs : List Choice) (c : Choice) → asked_with a (cs ++ c ∷ []) ≡ and_seen (asked_with a cs) c.seen
asked_more a [] c = refl
asked_more a (d ∷ cs) c = asked_more (and_seen a d.seen) cs c

pub picks_more : (ways : Read → List Choice) (parts : List Read) (cs : List Choice) (p : Read) (c : Choice) → Picks ways parts cs → Contains (ways p) c
    → Picks ways (parts ++ p ∷ []) (cs ++ c ∷ [])
picks_more ways [] [] p c picks among = (among, tt)
picks_more ways [] (d ∷ cs) p c picks among = absurd picks
picks_more ways (q ∷ parts) [] p c picks among = absurd picks
picks_more ways (q ∷ parts) (d ∷ cs) p c picks among = (picks.0, picks_more ways parts cs p c picks.1 among)

-- at one place
stood_more : (rows : Rows) (ways : Ways) (before : Option Read) (s : Sides) (xs : List (Read × List Bool)) (p : Read) (fits : List Bool)
    → stood rows ways before s (xs ++ (p, fits) ∷ []) ≡ moved rows (link ways (last_paired before xs) p) (stood rows ways before s xs) fits
stood_more rows ways before s [] p fits = refl
stood_more rows ways before s (x ∷ xs) p fits = stood_more rows ways (Some x.0) (moved rows (link ways before x.0) s x.1) xs p fits

-- at each
places_moved : (before : Option Read) (p : Read) (fits : List Bool) (f g : Place → Sides) (places : List Place)
    → ((place : Place) → moved place.rows (link place.ways before p) (f place) fits ≡ g place)
    → all_moved (rows_of places) (map (λ (place : Place). link place.ways before p) places) (map f places) fits ≡ map g places
places_moved before p fits f g [] each = refl
places_moved before p fits f g (place ∷ places) each =
    ap (λ s. s ∷ all_moved (rows_of places) (map (λ (place : Place). link place.ways before p) places) (map f places) fits) (each place)
    ∙ ap (λ ss. g place ∷ ss) (places_moved before p fits f g places each)

module _ (hs : List Machine) where
  -- parts and choices are as many
  last_fitted : (before : Option Read) (parts : List Read) (cs : List Choice) → Picks (choices hs) parts cs → last_paired before (fitted_pairs hs parts cs) ≡ last_part before parts
  last_fitted before [] cs picks = refl
  last_fitted before (p ∷ parts) [] picks = absurd picks
  last_fitted before (p ∷ parts) (c ∷ cs) picks = last_fitted (Some p) parts cs picks.1

  fitted_more : (parts : List Read) (cs : List Choice) (p : Read) (c : Choice) → Picks (choices hs) parts cs
      → fitted_pairs hs (parts ++ p ∷ []) (cs ++ c ∷ []) ≡ fitted_pairs hs parts cs ++ (p, map (shows_alone c) hs) ∷ []
  fitted_more [] [] p c picks = refl
  fitted_more [] (d ∷ cs) p c picks = absurd picks
  fitted_more (q ∷ parts) [] p c picks = absurd picks
  fitted_more (q ∷ parts) (d ∷ cs) p c picks = ap (λ xs. (q, map (shows_alone d) hs) ∷ xs) (fitted_more parts cs p c picks.1)

  -- which sides of each place stand with a choice more
  pub sides_more : (places : List Place) (parts : List Read) (cs : List Choice) (p : Read) (c : Choice) → Picks (choices hs) parts cs
      → all_moved (rows_of places) (map (λ (place : Place). link place.ways (last_part None parts) p) places) (stood_at places (fitted_pairs hs parts cs)) (map (shows_alone c) hs)
      ≡ stood_at places (fitted_pairs hs (parts ++ p ∷ []) (cs ++ c ∷ []))
  sides_more places parts cs p c picks =
      let xs = fitted_pairs hs parts cs in
      let all = fitted_pairs hs (parts ++ p ∷ []) (cs ++ c ∷ []) in
      let fits = map (shows_alone c) hs in
      places_moved (last_part None parts) p fits (λ place. stood place.rows place.ways None (both true) xs) (λ place. stood place.rows place.ways None (both true) all) places
      (λ place. ap (λ before. moved place.rows (link place.ways before p) (stood place.rows place.ways None (both true) xs) fits) (sym (last_fitted None parts cs picks))
      ∙ sym (stood_more place.rows place.ways None (both true) xs p fits)
      ∙ ap (λ ys. stood place.rows place.ways None (both true) ys) (sym (fitted_more parts cs p c picks)))

-- some side stands where there is a first place
pub some_stands : (f : Place → Sides) (places : List Place) → list_any stands (map f places) ≡ is_some (first_place places (map f places))
some_stands f [] = refl
some_stands f (place ∷ places) = by_test (stands (f place)) (some_stands f places)
  where
    by_test : (b : Bool) → list_any stands (map f places) ≡ is_some (first_place places (map f places))
        → (b || list_any stands (map f places)) ≡ is_some (if b then Some place.at else first_place places (map f places))
    by_test true later = refl
    by_test false later = later
