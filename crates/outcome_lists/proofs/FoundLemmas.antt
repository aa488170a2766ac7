-- What is listed is found, and what is found is listed.
use Rattle.std.proofs.Common.{◌≡◌, ℕ, Bool, true, false, Option, Some, None, List, [], ◌∷◌, ◌++◌, is_some, refl, sym, ap, subst, ◌∙◌, append_assoc, append-nil}
use Rattle.std.specs.Prelude.{Contains, option_map, if◌then◌else◌}
use Rattle.script_text.specs.Script.{Input}
use Rattle.explorer.specs.MachineModel.Machine.{Machine}
use Rattle.explorer.specs.Outcomes.Seen.{Seen, may_show}
use Rattle.explorer.specs.AskedReads.declared.read.Read.{Read}
use Rattle.explorer.specs.CutPlaces.declared.place.CutPlace.{CutPlace}
use Rattle.explorer.specs.CutPlaces.Places.{Stop, cut_places, first_stop}
use Rattle.outcome_lists.specs.Choices.{Choice, choices, states}
use Rattle.outcome_lists.specs.Listing.{IsFound, Picks, asked_with, text_of}
use Rattle.outcome_lists.specs.Outcomes.{Asked, Outcome, and_seen, begun, grown, look_of, nothing, outcomes_from, outcomes_of, place_of}
use Rattle.outcome_lists.proofs.ListLemmas.{IsPlaced, choices_there, found_is, found_there, grown_there, made, one_there, placed}
use Rattle.outcome_lists.proofs.ShorterLemmas.{shorter_shown}

-- where a test passes somewhere, one that follows from it does
passes_too : (f g : Machine → Bool) → ((off : Machine) → f off ≡ true → g off ≡ true) → (stops : List Stop) → (place : CutPlace)
    → option_map (λ (stop : Stop). stop.place) (first_stop f stops) ≡ Some place → is_some (option_map (λ (stop : Stop). stop.place) (first_stop g stops)) ≡ true
passes_too f g so [] place is = cc is
passes_too f g so (x ∷ stops) place is = by_test (f x.state) (g x.state) (so x.state) (passes_too f g so stops place) is
  where
    first : (b : Bool) → (Machine → Bool) → Option CutPlace
    first b test = option_map (λ (stop : Stop). stop.place) (if b then Some x else first_stop test stops)

    by_test : (b c : Bool) → (b ≡ true → c ≡ true) → (first false f ≡ Some place → is_some (first false g) ≡ true) → first b f ≡ Some place → is_some (first c g) ≡ true
    by_test b true one rest there = refl
    by_test true false one rest there = cc (one refl)
    by_test false false one rest there = rest there

some_place : (o : Option CutPlace) → is_some o ≡ true → (place : CutPlace) × (o ≡ Some place)
some_place None is = cc is
some_place (Some place) is = (place, refl)

module _ (stops : List Stop) where
  -- what is found with one choice more is found without it, and so it is with more of them
  without : (a : Asked) (c : Choice) (place : CutPlace) → place_of stops (look_of (and_seen a c.seen)) ≡ Some place → (first : CutPlace) × (place_of stops (look_of a) ≡ Some first)
  without a c place is =
      some_place (place_of stops (look_of a)) (passes_too (may_show (look_of (and_seen a c.seen))) (may_show (look_of a)) (λ off. shorter_shown off a c.seen) stops place is)

  without_all : (cs : List Choice) (a : Asked) (place : CutPlace) → place_of stops (look_of (asked_with a cs)) ≡ Some place → (first : CutPlace) × (place_of stops (look_of a) ≡ Some first)
  without_all [] a place is = (place, is)
  without_all (c ∷ cs) a place is = let later = without_all cs (and_seen a c.seen) place is in without a c later.0 later.1

  module _ (ways : Read → List Choice) where
    -- what is found of an outcome that is listed and choices is listed with them
    there : (parts : List Read) (os : List Outcome) (o : Outcome) (cs : List Choice) (place : CutPlace) → Contains os o → IsPlaced (place_of stops) o → Picks ways parts cs
        → place_of stops (look_of (asked_with o.asked cs)) ≡ Some place
        → Contains (outcomes_from (place_of stops) ways os parts) (record { asked = asked_with o.asked cs; text = o.text ++ text_of cs; place = place })
    there [] os o [] place among here picks is =
        subst (λ (x : Outcome). Contains os x) (ap (λ (p : CutPlace). record { asked = o.asked; text = o.text; place = p }) (cc (sym here ∙ is))
        ∙ ap (λ (t : List ℕ). record { asked = o.asked; text = t; place = place }) (sym (append-nil o.text))) among
    there [] os o (c ∷ cs) place among here picks is = absurd picks
    there (part ∷ parts) os o [] place among here picks is = absurd picks
    there (part ∷ parts) os o (c ∷ cs) place among here picks is =
        let a = and_seen o.asked c.seen in
        let before = without_all cs a place is in
        let next : Outcome = record { asked = a; text = o.text ++ c.text; place = before.0 } in
        subst (λ (t : List ℕ). Contains (outcomes_from (place_of stops) ways (grown (place_of stops) os (ways part)) parts) (record { asked = asked_with a cs; text = t; place = place }))
        (append_assoc o.text c.text (text_of cs))
        (there parts (grown (place_of stops) os (ways part)) next cs place
        (grown_there (place_of stops) os (ways part) o next among (choices_there (place_of stops) o (ways part) c next picks.0 (one_there (place_of stops) o c before.0 before.1)))
        before.1 picks.1 is)

module _ (h : Machine) (program : List Input) where
  abbrev at : List Seen → Option CutPlace
  at = place_of (cut_places 1 h program)

  abbrev ways : Read → List Choice
  ways = choices (states h program)

  -- the outcome of no part
  begun_is : (x : Outcome) → Contains (begun at) x → (place : CutPlace) × (at (look_of nothing) ≡ Some place) × (x ≡ record { asked = nothing; text = []; place = place })
  begun_is x has = found_is nothing [] (at (look_of nothing)) x has

  begun_placed : (x : Outcome) → Contains (begun at) x → IsPlaced at x
  begun_placed x has =
      let of = begun_is x has in ap (λ (y : Outcome). at (look_of y.asked)) of.2 ∙ of.1 ∙ sym (ap (λ (y : Outcome). Some y.place) of.2)

  pub found : (parts : List Read) (o : Outcome) → Contains (outcomes_of h program parts) o → IsFound h program parts o
  found parts o has =
      let of = made at ways parts (begun at) o has in
      let is = (begun_is of.before of.among).2 in
      let asked : o.asked ≡ asked_with nothing of.picked = of.asked ∙ ap (λ (x : Outcome). asked_with x.asked of.picked) is in
      let text : o.text ≡ text_of of.picked = of.text ∙ ap (λ (x : Outcome). x.text ++ text_of of.picked) is in record {
        picked = of.picked;
        ways = of.each;
        place = o.place;
        first = ap (λ (a : Asked). at (look_of a)) (sym asked) ∙ placed at ways parts (begun at) o begun_placed has;
        is =
            ap (λ (a : Asked). record { asked = a; text = o.text; place = o.place }) asked
            ∙ ap (λ (t : List ℕ). record { asked = asked_with nothing of.picked; text = t; place = o.place }) text;
      }

  pub listed : (parts : List Read) (o : Outcome) → IsFound h program parts o → Contains (outcomes_of h program parts) o
  listed parts o is =
      let first = without_all (cut_places 1 h program) is.picked nothing is.place is.first in
      let none : Outcome = record { asked = nothing; text = []; place = first.0 } in
      subst (λ (x : Outcome). Contains (outcomes_of h program parts) x) (sym is.is)
      (there (cut_places 1 h program) ways parts (begun at) none is.picked is.place (found_there nothing [] (at (look_of nothing)) first.0 first.1) first.1 is.ways is.first)
