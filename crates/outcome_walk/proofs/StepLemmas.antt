-- The choices of a part, place by place.
use Rattle.std.proofs.Common.{◌≡◌, ◌≤◌, ℕ, zero, suc, Bool, true, false, List, [], ◌∷◌, ◌++◌, drop, length, min, refl, sym, ap, ap₂, ◌∙◌, append-nil, arith, Some, None, option_map, if◌then◌else◌}
use Rattle.std.specs.Bool.{then_some}
use Rattle.std.specs.List.{flat_map, list_any}
use Rattle.outcome_walk.specs.declared.level.Link.{Link}
use Rattle.outcome_walk.specs.declared.level.Link.TheVariants.{Alone, Opens, Joins}
use Rattle.outcome_walk.specs.declared.level.Rows.{Rows}
use Rattle.outcome_walk.specs.declared.sides.Sides.{Sides}
use Rattle.outcome_walk.specs.declared.steps.Step.{Step}
use Rattle.outcome_walk.specs.Steps.{all_stepped, if_standing, move_at, moves, step_at, steps, stepped, with_move}
use Rattle.outcome_walk.specs.Walking.{Trail, Way, all_moved, grown, moved, stands, with_way}

-- a step says what the place and the choice do
one_stepped : (rows : Rows) (link : Link) (fits : List Bool) (s : Sides) → stepped (step_at rows link fits) s ≡ moved rows link s fits
one_stepped rows Alone fits s = refl
one_stepped rows Opens fits s = refl
one_stepped rows Joins fits s = refl

all_stepped_moved : (places : List Rows) (links : List Link) (fits : List Bool) (sides : List Sides) → all_stepped (steps places links fits) sides ≡ all_moved places links sides fits
all_stepped_moved [] links fits sides = refl
all_stepped_moved (p ∷ places) [] fits sides = refl
all_stepped_moved (p ∷ places) (l ∷ links) fits [] = refl
all_stepped_moved (p ∷ places) (l ∷ links) fits (s ∷ sides) = ap₂ (λ x xs. x ∷ xs) (one_stepped p l fits s) (all_stepped_moved places links fits sides)

module _ (places : List Rows) (links : List Link) where
  pub way_moved : (t : Trail) (way : Way) → with_way places links t way ≡ with_move t (move_at places links way)
  way_moved t way =
      ap (λ sides. if list_any stands sides then record { text = t.text ++ way.text; sides = sides } ∷ [] else []) (sym (all_stepped_moved places links way.fits t.sides))

  pub ways_moved : (t : Trail) (ways : List Way) → flat_map (with_way places links t) ways ≡ flat_map (with_move t) (moves places links ways)
  ways_moved t [] = refl
  ways_moved t (way ∷ ways) = ap₂ (λ xs ys. xs ++ ys) (way_moved t way) (ways_moved t ways)

  pub grown_moved : (ways : List Way) (trails : List Trail) → flat_map (λ t. flat_map (with_move t) (moves places links ways)) trails ≡ grown places links ways trails
  grown_moved ways [] = refl
  grown_moved ways (t ∷ trails) = ap₂ (λ xs ys. xs ++ ys) (sym (ways_moved t ways)) (grown_moved ways trails)

-- past the end of one of the lists
no_steps : (places : List Rows) (links : List Link) (fits : List Bool) (i : ℕ) → min (length places) (length links) ≤ i → steps (drop i places) (drop i links) fits ≡ []
no_steps [] links fits zero past = refl
no_steps [] links fits (suc i) past = refl
no_steps (p ∷ places) [] fits zero past = refl
no_steps (p ∷ places) (l ∷ links) fits zero past = absurd (omega (arith, past))
no_steps (p ∷ places) [] fits (suc i) past = ends (drop i places)
  where
    ends : (ps : List Rows) → steps ps [] fits ≡ []
    ends [] = refl
    ends (q ∷ ps) = refl
no_steps (p ∷ places) (l ∷ links) fits (suc i) past = no_steps places links fits i (omega (arith, past))

pub all_steps : (places : List Rows) (links : List Link) (fits : List Bool) (i : ℕ) → min (length places) (length links) ≤ i
    → (items all : List Step) → items ++ steps (drop i places) (drop i links) fits ≡ all → items ≡ all
all_steps places links fits i past items all whole = sym (append-nil items) ∙ ap (λ more. items ++ more) (sym (no_steps places links fits i past)) ∙ whole

none_stepped : (steps : List Step) (sides : List Sides) (i : ℕ) → min (length steps) (length sides) ≤ i → all_stepped (drop i steps) (drop i sides) ≡ []
none_stepped [] sides zero past = refl
none_stepped [] sides (suc i) past = refl
none_stepped (x ∷ steps) [] zero past = refl
none_stepped (x ∷ steps) (s ∷ sides) zero past = absurd (omega (arith, past))
none_stepped (x ∷ steps) [] (suc i) past = ends (drop i steps)
  where
    ends : (xs : List Step) → all_stepped xs [] ≡ []
    ends [] = refl
    ends (y ∷ xs) = refl
none_stepped (x ∷ steps) (s ∷ sides) (suc i) past = none_stepped steps sides i (omega (arith, past))

-- all places stepped, and whether one stands
pub stepped_whole : (steps : List Step) (sides : List Sides) (i : ℕ) → min (length steps) (length sides) ≤ i → (items : List Sides) (any : Bool) → any ≡ list_any stands items
    → items ++ all_stepped (drop i steps) (drop i sides) ≡ all_stepped steps sides → (if any then Some items else None) ≡ if_standing (all_stepped steps sides)
stepped_whole steps sides i past items any is whole =
    let same : items ≡ all_stepped steps sides = sym (append-nil items) ∙ ap (λ more. items ++ more) (sym (none_stepped steps sides i past)) ∙ whole in
    ap (λ b. if b then Some items else None) is ∙ ap if_standing same

pub told_some : {A B : Type 0} (f : A → B) (b : Bool) (x : A) → option_map f (then_some b x) ≡ (if b then Some (f x) else None)
told_some f true x = refl
told_some f false x = refl
