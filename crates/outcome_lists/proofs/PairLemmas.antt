-- Lists whose items differ pairwise.
use Rattle.std.proofs.Common.{◌≡◌, ◌||◌, Bool, true, false, cond, List, [], ◌∷◌, ◌++◌, map, refl, sym, ap, ◌∙◌}
use Rattle.std.specs.List.{AllByRecursion, list_any}
use Rattle.explorer.specs.ValueTables.Values.{with_all, with_one}
use Rattle.outcome_lists.specs.Listing.{Pairwise}

-- what all of them are, all of them are that are joined, made or told from them
module _ {A : Type 0} (P : A → Type 0) where
  pub all_joined : (xs ys : List A) → AllByRecursion P xs → AllByRecursion P ys → AllByRecursion P (xs ++ ys)
  all_joined [] ys all others = others
  all_joined (x ∷ xs) ys all others = (all.0, all_joined xs ys all.1 others)

  all_told : (Q : A → Type 0) → ((x : A) → P x → Q x) → (xs : List A) → AllByRecursion P xs → AllByRecursion Q xs
  all_told Q so [] all = tt
  all_told Q so (x ∷ xs) all = (so x all.0, all_told Q so xs all.1)

  pub all_made : {B : Type 0} (f : B → A) → ((y : B) → P (f y)) → (ys : List B) → AllByRecursion P (map f ys)
  all_made f so [] = tt
  all_made f so (y ∷ ys) = (so y, all_made f so ys)

-- pairs of lists that are joined, grow by one item, or are made of others
module _ {A : Type 0} (R : A → A → Type 0) where
  pub pairs_joined : (xs ys : List A) → Pairwise R xs → Pairwise R ys → AllByRecursion (λ x. AllByRecursion (R x) ys) xs → Pairwise R (xs ++ ys)
  pairs_joined [] ys pairs others across = others
  pairs_joined (x ∷ xs) ys pairs others across = (all_joined (R x) xs ys pairs.0 across.0, pairs_joined xs ys pairs.1 others across.1)

  pairs_pushed : (xs : List A) (y : A) → Pairwise R xs → AllByRecursion (λ x. R x y) xs → Pairwise R (xs ++ y ∷ [])
  pairs_pushed [] y pairs beside = (tt, tt)
  pairs_pushed (x ∷ xs) y pairs beside = (all_joined (R x) xs (y ∷ []) pairs.0 (beside.0, tt), pairs_pushed xs y pairs.1 beside.1)

  pub pairs_told : (S : A → A → Type 0) → ((x y : A) → R x y → S x y) → (xs : List A) → Pairwise R xs → Pairwise S xs
  pairs_told S so [] pairs = tt
  pairs_told S so (x ∷ xs) pairs = (all_told (R x) (S x) (so x) xs pairs.0, pairs_told S so xs pairs.1)

  module _ {B : Type 0} (P : B → Type 0) (Q : B → B → Type 0) (f : B → A) (so : (x y : B) → P x → P y → Q x y → R (f x) (f y)) where
    one_made : (x : B) → P x → (ys : List B) → AllByRecursion P ys → AllByRecursion (Q x) ys → AllByRecursion (R (f x)) (map f ys)
    one_made x is [] all pairs = tt
    one_made x is (y ∷ ys) all pairs = (so x y is all.0 pairs.0, one_made x is ys all.1 pairs.1)

    pub pairs_made : (xs : List B) → AllByRecursion P xs → Pairwise Q xs → Pairwise R (map f xs)
    pairs_made [] all pairs = tt
    pairs_made (x ∷ xs) all pairs = (one_made x all.0 xs all.1 pairs.0, pairs_made xs all.1 pairs.1)

-- two that differ
abbrev pub Differ : {A : Type 0} → A → A → Type 0
Differ x y = x ≡ y → ⊥

-- a list that takes only what it has not yet
module _ {A : Type 0} (same : A → A → Bool) (itself : (x : A) → same x x ≡ true) where
  none_is : (y : A) (xs : List A) → list_any (same y) xs ≡ false → AllByRecursion (λ x. Differ x y) xs
  none_is y [] none = tt
  none_is y (x ∷ xs) none = by_test (same y x) (list_any (same y) xs) refl none (none_is y xs)
    where
      by_test : (b c : Bool) → same y x ≡ b → (b || c) ≡ false → (c ≡ false → AllByRecursion (λ z. Differ z y) xs) → AllByRecursion (λ z. Differ z y) (x ∷ xs)
      by_test true c is none rest = cc none
      by_test false c is none rest = ((λ at. let met : same y x ≡ true = ap (same y) at ∙ itself y in cc (sym met ∙ is)), rest none)

  one_once : (found : List A) (y : A) → Pairwise Differ found → Pairwise Differ (with_one same found y)
  one_once found y once = by_test (list_any (same y) found) refl
    where
      by_test : (b : Bool) → list_any (same y) found ≡ b → Pairwise Differ (cond b found (found ++ y ∷ []))
      by_test true is = once
      by_test false is = pairs_pushed Differ found y once (none_is y found is)

  pub all_once : (found xs : List A) → Pairwise Differ found → Pairwise Differ (with_all same found xs)
  all_once found [] once = once
  all_once found (x ∷ xs) once = all_once (with_one same found x) xs (one_once found x once)
