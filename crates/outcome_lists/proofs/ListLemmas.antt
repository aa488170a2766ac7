-- A list of outcomes has those that are found, and no other.
use Rattle.std.proofs.Common.{◌≡◌, inl, inr, ℕ, Option, Some, None, List, [], ◌∷◌, ◌++◌, refl, sym, ap, subst, ◌∙◌, append_assoc, append-nil, arith}
use Rattle.std.specs.Prelude.{Contains}
use Rattle.std.proofs.lemmas.List.Elements.{Contains-append_cases, Contains-append_left, Contains-append_right, Contains-push, Contains-push_cases}
use Rattle.explorer.specs.Outcomes.Seen.{Seen}
use Rattle.explorer.specs.AskedReads.declared.read.Read.{Read}
use Rattle.explorer.specs.CutPlaces.declared.place.CutPlace.{CutPlace}
use Rattle.outcome_lists.specs.Choices.{Choice}
use Rattle.outcome_lists.specs.Listing.{Picks, asked_with, text_of}
use Rattle.outcome_lists.specs.Outcomes.{Asked, Outcome, and_seen, grown, if_found, look_of, outcomes_from, with_choice, with_choices}

-- what a list of one item has, and what the first item is among
pub only_one : {A : Type 0} (x y : A) → Contains (x ∷ []) y → x ≡ y
only_one x y has = elim (Contains-push_cases [] x y has) as (λ _. x ≡ y) [ inl none ↦ absurd (omega (arith, none.1)) | inr is ↦ is ]

pub first_of : {A : Type 0} (x : A) (xs : List A) → Contains (x ∷ xs) x
first_of x xs = Contains-append_left (x ∷ []) xs x (Contains-push [] x)

-- An outcome that is found with a choice more.
pub record IsGrown (at : List Seen → Option CutPlace) (o : Outcome) (c : Choice) (x : Outcome) : Type 0 where
  pub place : CutPlace
  pub first : at (look_of (and_seen o.asked c.seen)) ≡ Some place
  pub is : x ≡ record { asked = and_seen o.asked c.seen; text = o.text ++ c.text; place = place }

pub record IsOfChoice (at : List Seen → Option CutPlace) (o : Outcome) (cs : List Choice) (x : Outcome) : Type 0 where
  pub choice : Choice
  pub among : Contains cs choice
  pub grown : IsGrown at o choice x

pub record IsOfOutcome (at : List Seen → Option CutPlace) (os : List Outcome) (cs : List Choice) (x : Outcome) : Type 0 where
  pub before : Outcome
  pub among : Contains os before
  pub with : IsOfChoice at before cs x

-- what is found where some place leaves it
pub found_is : (asked : Asked) (text : List ℕ) (found : Option CutPlace) (x : Outcome) → Contains (if_found asked text found) x
    → (place : CutPlace) × (found ≡ Some place) × (x ≡ record { asked = asked; text = text; place = place })
found_is asked text None x has = absurd (omega (arith, has.1))
found_is asked text (Some place) x has = (place, refl, sym (only_one _ x has))

pub found_there : (asked : Asked) (text : List ℕ) (found : Option CutPlace) (place : CutPlace) → found ≡ Some place
    → Contains (if_found asked text found) (record { asked = asked; text = text; place = place })
found_there asked text found place is =
    let x : Outcome = record { asked = asked; text = text; place = place } in
    subst (λ (p : Option CutPlace). Contains (if_found asked text p) x) (sym is) (first_of x [])

-- A list that is grown by the choices of a part has those outcomes, and no other.
module _ (at : List Seen → Option CutPlace) where
  with_one : (o : Outcome) (c : Choice) (x : Outcome) → Contains (with_choice at o c) x → IsGrown at o c x
  with_one o c x has =
      let of = found_is (and_seen o.asked c.seen) (o.text ++ c.text) (at (look_of (and_seen o.asked c.seen))) x has in record { place = of.0; first = of.1; is = of.2 }

  pub one_there : (o : Outcome) (c : Choice) (place : CutPlace) → at (look_of (and_seen o.asked c.seen)) ≡ Some place
      → Contains (with_choice at o c) (record { asked = and_seen o.asked c.seen; text = o.text ++ c.text; place = place })
  one_there o c place first = found_there (and_seen o.asked c.seen) (o.text ++ c.text) (at (look_of (and_seen o.asked c.seen))) place first

  of_choices : (o : Outcome) (cs : List Choice) (x : Outcome) → Contains (with_choices at o cs) x → IsOfChoice at o cs x
  of_choices o [] x has = absurd (omega (arith, has.1))
  of_choices o (c ∷ cs) x has = elim (Contains-append_cases (with_choice at o c) (with_choices at o cs) x has) as (λ _. IsOfChoice at o (c ∷ cs) x) [
    | inl here ↦ record { choice = c; among = first_of c cs; grown = with_one o c x here }
    | inr later ↦ let of = of_choices o cs x later in record { choice = of.choice; among = Contains-append_right (c ∷ []) cs of.choice of.among; grown = of.grown }
  ]

  pub choices_there : (o : Outcome) (cs : List Choice) (c : Choice) (x : Outcome) → Contains cs c → Contains (with_choice at o c) x → Contains (with_choices at o cs) x
  choices_there o [] c x among has = absurd (omega (arith, among.1))
  choices_there o (d ∷ cs) c x among has = elim (Contains-append_cases (d ∷ []) cs c among) as (λ _. Contains (with_choices at o (d ∷ cs)) x) [
    | inl here ↦ Contains-append_left (with_choice at o d) (with_choices at o cs) x (subst (λ e. Contains (with_choice at o e) x) (sym (only_one d c here)) has)
    | inr later ↦ Contains-append_right (with_choice at o d) (with_choices at o cs) x (choices_there o cs c x later has)
  ]

  of_outcomes : (os : List Outcome) (cs : List Choice) (x : Outcome) → Contains (grown at os cs) x → IsOfOutcome at os cs x
  of_outcomes [] cs x has = absurd (omega (arith, has.1))
  of_outcomes (o ∷ os) cs x has = elim (Contains-append_cases (with_choices at o cs) (grown at os cs) x has) as (λ _. IsOfOutcome at (o ∷ os) cs x) [
    | inl here ↦ record { before = o; among = first_of o os; with = of_choices o cs x here }
    | inr later ↦ let of = of_outcomes os cs x later in record { before = of.before; among = Contains-append_right (o ∷ []) os of.before of.among; with = of.with }
  ]

  pub grown_there : (os : List Outcome) (cs : List Choice) (o x : Outcome) → Contains os o → Contains (with_choices at o cs) x → Contains (grown at os cs) x
  grown_there [] cs o x among has = absurd (omega (arith, among.1))
  grown_there (p ∷ os) cs o x among has = elim (Contains-append_cases (p ∷ []) os o among) as (λ _. Contains (grown at (p ∷ os) cs) x) [
    | inl here ↦ Contains-append_left (with_choices at p cs) (grown at os cs) x (subst (λ q. Contains (with_choices at q cs) x) (sym (only_one p o here)) has)
    | inr later ↦ Contains-append_right (with_choices at p cs) (grown at os cs) x (grown_there os cs o x later has)
  ]

-- An outcome that came of another one by a choice of each part, and one that has its place.
pub record IsMade (ways : Read → List Choice) (parts : List Read) (os : List Outcome) (x : Outcome) : Type 0 where
  pub before : Outcome
  pub among : Contains os before
  pub picked : List Choice
  pub each : Picks ways parts picked
  pub asked : x.asked ≡ asked_with before.asked picked
  pub text : x.text ≡ before.text ++ text_of picked

abbrev pub IsPlaced : (List Seen → Option CutPlace) → Outcome → Type 0
IsPlaced at x = at (look_of x.asked) ≡ Some x.place

module _ (at : List Seen → Option CutPlace) (ways : Read → List Choice) where
  pub made : (parts : List Read) (os : List Outcome) (x : Outcome) → Contains (outcomes_from at ways os parts) x → IsMade ways parts os x
  made [] os x has = record { before = x; among = has; picked = []; each = tt; asked = refl; text = sym (append-nil x.text) }
  made (part ∷ parts) os x has =
      let later = made parts (grown at os (ways part)) x has in
      let of = of_outcomes at os (ways part) later.before later.among in
      let c = of.with.choice in
      let one = of.with.grown in record {
        before = of.before;
        among = of.among;
        picked = c ∷ later.picked;
        each = (of.with.among, later.each);
        asked = later.asked ∙ ap (λ (o : Outcome). asked_with o.asked later.picked) one.is;
        text = later.text ∙ ap (λ (o : Outcome). o.text ++ text_of later.picked) one.is ∙ append_assoc of.before.text c.text (text_of later.picked);
      }

  grown_placed : (os : List Outcome) (part : Read) (x : Outcome) → Contains (grown at os (ways part)) x → IsPlaced at x
  grown_placed os part x has =
      let one = (of_outcomes at os (ways part) x has).with.grown in
      ap (λ (y : Outcome). at (look_of y.asked)) one.is ∙ one.first ∙ sym (ap (λ (y : Outcome). Some y.place) one.is)

  pub placed : (parts : List Read) (os : List Outcome) (x : Outcome) → ((o : Outcome) → Contains os o → IsPlaced at o) → Contains (outcomes_from at ways os parts) x → IsPlaced at x
  placed [] os x each has = each x has
  placed (part ∷ parts) os x each has = placed parts (grown at os (ways part)) x (grown_placed os part) has
