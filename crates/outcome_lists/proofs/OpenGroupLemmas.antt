-- Groups of items, told one item after the other: of the group that is open, so much is known on either side.
use Rattle.std.proofs.Common.{◌≡◌, inl, inr, ◌&&◌, ◌||◌, not, Bool, true, false, List, [], ◌∷◌, refl, sym, ap, ◌∙◌}
use Rattle.std.specs.List.{list_all}
use Rattle.std.proofs.lemmas.Bool.{or_left}
use Rattle.explorer.proofs.CutPlaces.AllLemmas.{same_where}
use Rattle.explorer.proofs.Witnesses.ListLemmas.{IsAmong}
use Rattle.outcome_lists.specs.Apart.{grouped}
use Rattle.outcome_lists.proofs.ApartBlocksLemmas.{all_same}

-- a test more on one side
with_more : (so old all : Bool) → (so && (old && all)) ≡ ((so && old) && all)
with_more true old all = refl
with_more false old all = refl

-- a test of both sides and of what comes after them
with_either : (s old new all every rest : Bool) → (s && (((old && all) || (new && every)) && rest)) ≡ ((((s && old) && all) || ((s && new) && every)) && rest)
with_either true old new all every rest = refl
with_either false old new all every rest = refl

-- Items of which some go together, as those do that have a key in common.
module _ {A : Type 0} (together : A → A → Bool) (own : (x : A) → together x x ≡ true) (back : (x y : A) → together x y ≡ together y x)
    (along : (x y z : A) → together x y ≡ true → together x z ≡ together y z) (old new : A → Bool) where
  -- all that go with x pass
  abbrev pub all_with : (A → Bool) → A → List A → Bool
  all_with f x xs = list_all (λ y. not (together x y) || f y) xs

  -- the group of x is old, or it is new
  abbrev pub group_stands : List A → A → Bool
  group_stands xs x = all_with old x xs || all_with new x xs

  -- so is each but the group of x
  abbrev pub others_stand : A → List A → Bool
  others_stand x xs = list_all (λ y. together x y || group_stands xs y) xs

  -- with so much known of either side, the group of x is old or new with its further items, and the other groups stand
  abbrev pub stands_on : Bool → Bool → A → List A → Bool
  stands_on so anew x xs = ((so && all_with old x xs) || (anew && all_with new x xs)) && others_stand x xs

  -- an item of another group
  beside : (x y : A) (xs : List A) → together x y ≡ false → group_stands (x ∷ xs) y ≡ group_stands xs y
  beside x y xs other = ap (λ b. ((not b || old x) && all_with old y xs) || ((not b || new x) && all_with new y xs)) (sym (back x y) ∙ other)

  -- two items of one group
  with_same : (f : A → Bool) (x y : A) (xs : List A) → together x y ≡ true → all_with f x xs ≡ all_with f y xs
  with_same f x y xs is = all_same (λ z. not (together x z) || f z) (λ z. not (together y z) || f z) xs (λ z among. ap (λ b. not b || f z) (along x y z is))

  same_group : (x y : A) (xs : List A) → together x y ≡ true → group_stands xs x ≡ group_stands xs y
  same_group x y xs is = ap (λ b. b || all_with new x xs) (with_same old x y xs is) ∙ ap (λ b. all_with old y xs || b) (with_same new x y xs is)

  -- the groups, with that of the first item apart
  pub first_group : (x : A) (xs : List A) → grouped together old new (x ∷ xs) ≡ stands_on (old x) (new x) x xs
  first_group x xs =
      same_where (group_stands (x ∷ xs) x) (list_all (group_stands (x ∷ xs)) xs) (others_stand x xs)
      (λ first. all_same (group_stands (x ∷ xs)) (λ y. together x y || group_stands xs y) xs (λ y among. by_group y first (together x y) refl))
      ∙ ap (λ b. (((not b || old x) && all_with old x xs) || ((not b || new x) && all_with new x xs)) && others_stand x xs) (own x)
    where
      by_group : (y : A) → group_stands (x ∷ xs) x ≡ true → (b : Bool) → together x y ≡ b → group_stands (x ∷ xs) y ≡ (b || group_stands xs y)
      by_group y first true is = sym (same_group x y (x ∷ xs) is) ∙ first
      by_group y first false other = beside x y xs other

  -- an item more of the group of p
  pub joined : (so anew : Bool) (p x : A) (xs : List A) → together p x ≡ true → stands_on so anew p (x ∷ xs) ≡ stands_on (so && old x) (anew && new x) x xs
  joined so anew p x xs is =
      ap (λ b. (b || (anew && all_with new p (x ∷ xs))) && others_stand p (x ∷ xs)) (one_more so old)
      ∙ ap (λ b. (((so && old x) && all_with old x xs) || b) && others_stand p (x ∷ xs)) (one_more anew new)
      ∙ ap (λ b. (((so && old x) && all_with old x xs) || ((anew && new x) && all_with new x xs)) && b) others
    where
      one_more : (s : Bool) (f : A → Bool) → (s && all_with f p (x ∷ xs)) ≡ ((s && f x) && all_with f x xs)
      one_more s f = ap (λ b. s && ((not b || f x) && all_with f p xs)) is ∙ ap (λ b. s && (f x && b)) (with_same f p x xs is) ∙ with_more s (f x) (all_with f x xs)

      by_group : (y : A) (b : Bool) → together x y ≡ b → (b || group_stands (x ∷ xs) y) ≡ (b || group_stands xs y)
      by_group y true same = refl
      by_group y false other = beside x y xs other

      others : others_stand p (x ∷ xs) ≡ others_stand x xs
      others =
          ap (λ b. b && list_all (λ y. together p y || group_stands (x ∷ xs) y) xs) (or_left (together p x) (group_stands (x ∷ xs) x) is)
          ∙ all_same (λ y. together p y || group_stands (x ∷ xs) y) (λ y. together x y || group_stands xs y) xs
          (λ y among. ap (λ b. b || group_stands (x ∷ xs) y) (along p x y is) ∙ by_group y (together x y) refl)

  -- where none of them is of the group of p
  none_with : (f : A → Bool) (p : A) (xs : List A) → ((y : A) → IsAmong y xs → together p y ≡ false) → all_with f p xs ≡ true
  none_with f p [] apart = refl
  none_with f p (x ∷ xs) apart = ap (λ b. (not b || f x) && all_with f p xs) (apart x (inl refl)) ∙ none_with f p xs (λ y among. apart y (inr among))

  -- an item that opens a group: that of p is closed
  pub opened : (so anew : Bool) (p x : A) (xs : List A) → ((y : A) → IsAmong y (x ∷ xs) → together p y ≡ false)
      → stands_on so anew p (x ∷ xs) ≡ stands_on ((so || anew) && old x) ((so || anew) && new x) x xs
  opened so anew p x xs apart =
      ap (λ b. ((so && b) || (anew && all_with new p (x ∷ xs))) && others_stand p (x ∷ xs)) (none_with old p (x ∷ xs) apart)
      ∙ ap (λ b. ((so && true) || (anew && b)) && others_stand p (x ∷ xs)) (none_with new p (x ∷ xs) apart)
      ∙ ap (λ b. b && others_stand p (x ∷ xs)) (either so anew)
      ∙ ap (λ b. (so || anew) && b)
      (all_same (λ y. together p y || group_stands (x ∷ xs) y) (group_stands (x ∷ xs)) (x ∷ xs) (λ y among. ap (λ b. b || group_stands (x ∷ xs) y) (apart y among))
      ∙ first_group x xs)
      ∙ with_either (so || anew) (old x) (new x) (all_with old x xs) (all_with new x xs) (others_stand x xs)
    where
      either : (a b : Bool) → ((a && true) || (b && true)) ≡ (a || b)
      either true b = refl
      either false true = refl
      either false false = refl
