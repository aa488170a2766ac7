-- What is walked are the outcomes of a look, each with its text and its place.
use Rattle.std.proofs.Common.{◌≡◌, ◌<◌, ℕ, true, List, [], ◌∷◌, ◌++◌, Option, Some, None, is_some, length, map, refl, sym, ap, ap₂, subst, ◌∙◌, append_assoc, arith}
use Rattle.std.specs.Prelude.{Contains, if◌then◌else◌}
use Rattle.std.specs.List.{AllZip, flat_map, list_any}
use Rattle.std.proofs.lemmas.List.{length-map}
use Rattle.std.proofs.lemmas.List.Elements.{Contains-append_right}
use Rattle.explorer.specs.MachineModel.Machine.{Machine}
use Rattle.explorer.specs.Outcomes.Seen.{Seen}
use Rattle.explorer.specs.AskedReads.declared.read.Read.{Read}
use Rattle.explorer.specs.CutPlaces.declared.place.CutPlace.{CutPlace}
use Rattle.outcome_walk.specs.declared.level.Link.{Link}
use Rattle.outcome_walk.specs.declared.sides.Sides.{Sides}
use Rattle.outcome_walk.specs.Walking.{Trail, all_moved, both, stands, walked, with_way}
use Rattle.outcome_walk.specs.Walking.{begun as trail_begun, grown as trails_grown}
use Rattle.outcome_lists.specs.declared.place.Place.{Place}
use Rattle.outcome_lists.specs.Choices.{Choice, choices}
use Rattle.outcome_lists.specs.Levels.{fitted, level, levels, shows_alone}
use Rattle.outcome_lists.specs.Listing.{Picks, asked_with}
use Rattle.outcome_lists.specs.Lists.{outcome_line}
use Rattle.outcome_lists.specs.Mixing.{link}
use Rattle.outcome_lists.specs.Outcomes.{Asked, Outcome, and_seen, begun, grown, if_found, look_of, nothing, outcomes_from, with_choice, with_choices}
use Rattle.outcome_lists.specs.Together.{FirstStands, fitted_pairs, stood, stood_at}
use Rattle.outcome_lists.specs.Walks.{first_place, line_at, outcome_told, rows_of, trail_line, trail_lines, trail_told, walk_of}
use Rattle.outcome_lists.proofs.ListLemmas.{first_of}
use Rattle.outcome_lists.proofs.StoodLemmas.{asked_more, last_more, last_part, picks_more, sides_more, some_stands}

-- items that go together, joined
zip_join : {A B : Type 0} (P : A → B → Type 0) (xs : List A) (ys : List B) (others : List A) (more : List B) → AllZip P xs ys → AllZip P others more
    → AllZip P (xs ++ others) (ys ++ more)
zip_join P [] [] others more all rest = rest
zip_join P [] (y ∷ ys) others more all rest = absurd all
zip_join P (x ∷ xs) [] others more all rest = absurd all
zip_join P (x ∷ xs) (y ∷ ys) others more all rest = (all.0, zip_join P xs ys others more all.1 rest)

-- An outcome that is walked and one that is found, of the same choices.
record AreOne (hs : List Machine) (places : List Place) (parts : List Read) (t : Trail) (o : Outcome) : Type 0 where
  pub picked : List Choice
  pub each : Picks (choices hs) parts picked
  pub asked : o.asked ≡ asked_with nothing picked
  pub text : t.text ≡ o.text
  pub sides : t.sides ≡ stood_at places (fitted_pairs hs parts picked)
  pub place : first_place places t.sides ≡ Some o.place

-- they tell the same
told_alike : (hs : List Machine) (places : List Place) (parts : List Read) (ts : List Trail) (os : List Outcome) → AllZip (AreOne hs places parts) ts os
    → map (trail_told places) ts ≡ map outcome_told os
told_alike hs places parts [] [] all = refl
told_alike hs places parts [] (o ∷ os) all = absurd all
told_alike hs places parts (t ∷ ts) [] all = absurd all
told_alike hs places parts (t ∷ ts) (o ∷ os) all =
    ap₂ (λ text place. (text, place) ∷ map (trail_told places) ts) all.0.text all.0.place ∙ ap (λ xs. outcome_told o ∷ xs) (told_alike hs places parts ts os all.1)

-- Both grow alike.
module _ (at : List Seen → Option CutPlace) (hs : List Machine) (places : List Place) (before : List Read) (part : Read)
    (first : (cs : List Choice) → Picks (choices hs) (before ++ part ∷ []) cs
    → at (look_of (asked_with nothing cs)) ≡ first_place places (stood_at places (fitted_pairs hs (before ++ part ∷ []) cs))) where
  abbrev links : List Link
  links = map (λ (place : Place). link place.ways (last_part None before) part) places

  abbrev AreNext : Trail → Outcome → Type 0
  AreNext = AreOne hs places (before ++ part ∷ [])

  -- by one choice
  module _ (t : Trail) (o : Outcome) (c : Choice) (one : AreOne hs places before t o) (among : Contains (choices hs part) c) where
    abbrev sides : List Sides
    sides = all_moved (rows_of places) links t.sides (map (shows_alone c) hs)

    abbrev next : Trail
    next = record { text = t.text ++ c.text; sides = sides }

    abbrev asked : Asked
    asked = and_seen o.asked c.seen

    abbrev text : List ℕ
    text = o.text ++ c.text

    abbrev picked : List Choice
    picked = one.picked ++ c ∷ []

    each : Picks (choices hs) (before ++ part ∷ []) picked
    each = picks_more (choices hs) before one.picked part c one.each among

    asked_is : asked ≡ asked_with nothing picked
    asked_is = ap (λ a. and_seen a c.seen) one.asked ∙ sym (asked_more nothing one.picked c)

    sides_are : sides ≡ stood_at places (fitted_pairs hs (before ++ part ∷ []) picked)
    sides_are = ap (λ ss. all_moved (rows_of places) links ss (map (shows_alone c) hs)) one.sides ∙ sides_more hs places before one.picked part c one.each

    place_is : at (look_of asked) ≡ first_place places sides
    place_is = ap (λ a. at (look_of a)) asked_is ∙ first picked each ∙ ap (first_place places) (sym sides_are)

    some_is : list_any stands sides ≡ is_some (first_place places sides)
    some_is =
        ap (list_any stands) sides_are
        ∙ some_stands (λ place. stood place.rows place.ways None (both true) (fitted_pairs hs (before ++ part ∷ []) picked)) places
        ∙ ap (λ ss. is_some (first_place places ss)) (sym sides_are)

    by_place : (found : Option CutPlace) → first_place places sides ≡ found → AllZip AreNext (if is_some found then next ∷ [] else []) (if_found asked text found)
    by_place None is = tt
    by_place (Some place) is =
        (record { picked = picked; each = each; asked = asked_is; text = ap (λ xs. xs ++ c.text) one.text; sides = sides_are; place = is }, tt)

    choice_alike : AllZip AreNext (with_way (rows_of places) links t (fitted hs c)) (with_choice at o c)
    choice_alike =
        subst (λ b. AllZip AreNext (if b then next ∷ [] else []) (if_found asked text (at (look_of asked)))) (sym some_is)
        (subst (λ place. AllZip AreNext (if is_some (first_place places sides) then next ∷ [] else []) (if_found asked text place)) (sym place_is)
        (by_place (first_place places sides) refl))

  -- by some of the part's choices
  choices_alike : (t : Trail) (o : Outcome) (cs : List Choice) → AreOne hs places before t o → ((c : Choice) → Contains cs c → Contains (choices hs part) c)
      → AllZip AreNext (flat_map (with_way (rows_of places) links t) (map (fitted hs) cs)) (with_choices at o cs)
  choices_alike t o [] one among = tt
  choices_alike t o (c ∷ cs) one among =
      zip_join AreNext (with_way (rows_of places) links t (fitted hs c)) (with_choice at o c)
      (flat_map (with_way (rows_of places) links t) (map (fitted hs) cs)) (with_choices at o cs)
      (choice_alike t o c one (among c (first_of c cs)))
      (choices_alike t o cs one (λ d is. among d (Contains-append_right (c ∷ []) cs d is)))

  -- by all of them, and each outcome
  outcomes_alike : (ts : List Trail) (os : List Outcome) → AllZip (AreOne hs places before) ts os
      → AllZip AreNext (trails_grown (rows_of places) links (map (fitted hs) (choices hs part)) ts) (grown at os (choices hs part))
  outcomes_alike [] [] all = tt
  outcomes_alike [] (o ∷ os) all = absurd all
  outcomes_alike (t ∷ ts) [] all = absurd all
  outcomes_alike (t ∷ ts) (o ∷ os) all =
      zip_join AreNext (flat_map (with_way (rows_of places) links t) (map (fitted hs) (choices hs part))) (with_choices at o (choices hs part))
      (trails_grown (rows_of places) links (map (fitted hs) (choices hs part)) ts) (grown at os (choices hs part))
      (choices_alike t o (choices hs part) all.0 (λ c is. is)) (outcomes_alike ts os all.1)

-- So they are part by part.
module _ (at : List Seen → Option CutPlace) (hs : List Machine) (places : List Place) (parts : List Read) (first : FirstStands at hs places parts) where
  parts_alike : (before left : List Read) (ts : List Trail) (os : List Outcome) → parts ≡ before ++ left → AllZip (AreOne hs places before) ts os
      → map (trail_told places) (walked (rows_of places) ts (levels places hs (last_part None before) left)) ≡ map outcome_told (outcomes_from at (choices hs) os left)
  parts_alike before [] ts os are all = told_alike hs places before ts os all
  parts_alike before (part ∷ left) ts os are all =
      let now = level places hs (last_part None before) part in
      let next = trails_grown (rows_of places) now.links now.ways ts in
      subst (λ last. map (trail_told places) (walked (rows_of places) next (levels places hs last left))
      ≡ map outcome_told (outcomes_from at (choices hs) (grown at os (choices hs part)) left))
      (last_more None before part)
      (parts_alike (before ++ part ∷ []) left next (grown at os (choices hs part)) joined
      (outcomes_alike at hs places before part (λ cs picks. first (before ++ part ∷ []) left cs joined picks) ts os all))
    where
      joined : parts ≡ (before ++ part ∷ []) ++ left
      joined = are ∙ sym (append_assoc before (part ∷ []) left)

-- of no part both sides stand at each place
begun_sides : (places : List Place) → map (λ _. both true) (rows_of places) ≡ stood_at places []
begun_sides [] = refl
begun_sides (place ∷ places) = ap (λ ss. both true ∷ ss) (begun_sides places)

begun_alike : (at : List Seen → Option CutPlace) (hs : List Machine) (places : List Place) → 0 < length places
    → at (look_of nothing) ≡ first_place places (stood_at places []) → AllZip (AreOne hs places []) (trail_begun (rows_of places) ∷ []) (begun at)
begun_alike at hs [] some is = absurd (omega (arith, some))
begun_alike at hs (place ∷ places) some is =
    subst (λ found. AllZip (AreOne hs (place ∷ places) []) (trail_begun (rows_of (place ∷ places)) ∷ []) (if_found nothing [] found)) (sym is)
    (record { picked = []; each = tt; asked = refl; text = refl; sides = begun_sides (place ∷ places); place = refl }, tt)

-- What is walked through places, of which there are some, are the outcomes with their places.
pub walked_alike : (at : List Seen → Option CutPlace) (hs : List Machine) (places : List Place) (parts : List Read) → 0 < length places → FirstStands at hs places parts
    → map (trail_told places) (walk_of places (levels places hs None parts)) ≡ map outcome_told (outcomes_from at (choices hs) (begun at) parts)
walked_alike at hs places parts some first =
    parts_alike at hs places parts first [] parts (trail_begun (rows_of places) ∷ []) (begun at) refl
    (begun_alike at hs places some (first [] parts [] refl tt))

-- lines are of what is told, and as many are told
abbrev told_line : List ℕ × Option CutPlace → List ℕ
told_line x = line_at x.1 x.0

trails_told : (places : List Place) (ts : List Trail) → trail_lines places ts ≡ flat_map told_line (map (trail_told places) ts)
trails_told places [] = refl
trails_told places (t ∷ ts) = ap (λ xs. trail_line places t ++ xs) (trails_told places ts)

outcomes_told : (os : List Outcome) → flat_map told_line (map outcome_told os) ≡ flat_map outcome_line os
outcomes_told [] = refl
outcomes_told (o ∷ os) = ap (λ xs. outcome_line o ++ xs) (outcomes_told os)

pub walked_lines : (at : List Seen → Option CutPlace) (hs : List Machine) (places : List Place) (parts : List Read) → 0 < length places → FirstStands at hs places parts
    → trail_lines places (walk_of places (levels places hs None parts)) ≡ flat_map outcome_line (outcomes_from at (choices hs) (begun at) parts)
walked_lines at hs places parts some first =
    trails_told places (walk_of places (levels places hs None parts)) ∙ ap (flat_map told_line) (walked_alike at hs places parts some first)
    ∙ outcomes_told (outcomes_from at (choices hs) (begun at) parts)

pub walked_count : (at : List Seen → Option CutPlace) (hs : List Machine) (places : List Place) (parts : List Read) → 0 < length places → FirstStands at hs places parts
    → length (walk_of places (levels places hs None parts)) ≡ length (outcomes_from at (choices hs) (begun at) parts)
walked_count at hs places parts some first =
    sym (length-map (walk_of places (levels places hs None parts)) (trail_told places)) ∙ ap length (walked_alike at hs places parts some first)
    ∙ length-map (outcomes_from at (choices hs) (begun at) parts) outcome_told
