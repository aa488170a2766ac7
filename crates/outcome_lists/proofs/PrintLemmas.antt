-- The first place that stands, as it is sought.
use Rattle.std.proofs.Common.{◌≡◌, ◌⊎◌, true, List, [], ◌∷◌, Some, None, length, inl, inr, refl, ap, ap₂, ◌∙◌}
use Rattle.std.specs.Prelude.{if◌then◌else◌}
use Rattle.outcome_walk.specs.declared.sides.Sides.{Sides}
use Rattle.outcome_walk.specs.Walking.{stands}
use Rattle.outcome_lists.specs.declared.place.Place.{Place}
use Rattle.outcome_lists.specs.Walks.{first_place}

-- this one
pub first_there : (places others : List Place) (sides more : List Sides) (p : Place) (s : Sides) → places ≡ p ∷ others → sides ≡ s ∷ more → stands s ≡ true
    → first_place places sides ≡ Some p.at
first_there places others sides more p s are there stand = ap₂ first_place are there ∙ ap (λ b. if b then Some p.at else first_place others more) stand

-- none is left
pub none_there : (places : List Place) (sides : List Sides) → (length places ≡ 0) ⊎ (length sides ≡ 0) → first_place places sides ≡ None
none_there [] sides none = refl
none_there (p ∷ places) [] none = refl
none_there (p ∷ places) (s ∷ sides) (inl none) = cc none
none_there (p ∷ places) (s ∷ sides) (inr none) = cc none
