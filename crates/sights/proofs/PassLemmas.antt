-- A test of numbered units, and of the numbers alone.
use Rattle.std.proofs.Common.{◌≡◌, ℕ, ◌==◌, ◌&&◌, ◌||◌, Bool, true, false, not, List, [], ◌∷◌, map, refl, ap, ◌∙◌}
use Rattle.std.specs.List.{list_all}
use Rattle.sights.specs.declared.way.Way.TheVariants as ways
use Rattle.sights.specs.Ways.{passes_by}

-- each of the units has it
abbrev pub EachUnit : {A : Type 0} → (A → Type 0) → List A → Type 0
EachUnit P [] = Unit {0}
EachUnit P (x ∷ xs) = P x × EachUnit P xs

pub all_same : {A : Type 0} (number : A → ℕ) (f : ℕ → Bool) (g : A → Bool) (units : List A) → EachUnit (λ u. f (number u) ≡ g u) units
    → list_all f (map number units) ≡ list_all g units
all_same number f g [] each = refl
all_same number f g (u ∷ units) each =
    ap (λ b. b && list_all f (map number units)) each.0 ∙ ap (λ b. g u && b) (all_same number f g units each.1)

pub each_more : {A : Type 0} (P Q : A → Type 0) (units : List A) → ((u : A) → P u → Q u) → EachUnit P units → EachUnit Q units
each_more P Q [] more each = tt
each_more P Q (u ∷ units) more each = (more u each.0, each_more P Q units more each.1)

-- what passes as it is passes in either way
pub one_of_two : {A : Type 0} (f g : A → Bool) (xs : List A) → (list_all f xs || list_all (λ x. f x || g x) xs) ≡ list_all (λ x. f x || g x) xs
one_of_two f g [] = refl
one_of_two f g (x ∷ xs) = by_first (f x) (g x) (list_all f xs) (list_all (λ y. f y || g y) xs) (one_of_two f g xs)
  where
    by_first : (a b some both : Bool) → (some || both) ≡ both → ((a && some) || ((a || b) && both)) ≡ ((a || b) && both)
    by_first true b some both is = is
    by_first false b some both is = refl

module _ {A : Type 0} (number : A → ℕ) (group : ℕ → ℕ) (one other : ℕ → Bool) (now then : A → Bool) (units : List A)
    (olds : EachUnit (λ u. one (number u) ≡ now u) units) (news : EachUnit (λ u. other (number u) ≡ then u) units) where
  both : {B : Type 0} (P Q : B → Type 0) (xs : List B) → EachUnit P xs → EachUnit Q xs → EachUnit (λ u. P u × Q u) xs
  both P Q [] ps qs = tt
  both P Q (x ∷ xs) ps qs = ((ps.0, qs.0), both P Q xs ps.1 qs.1)

  pub each_same : list_all (λ n. one n || other n) (map number units) ≡ list_all (λ u. now u || then u) units
  each_same =
      all_same number (λ n. one n || other n) (λ u. now u || then u) units
      (each_more (λ u. (one (number u) ≡ now u) × (other (number u) ≡ then u)) (λ u. (one (number u) || other (number u)) ≡ (now u || then u)) units
      (λ u is. ap (λ b. b || other (number u)) is.0 ∙ ap (λ b. now u || b) is.1) (both _ _ units olds news))

  in_group : (test : ℕ → Bool) (passes : A → Bool) (k : ℕ) → EachUnit (λ u. test (number u) ≡ passes u) units
      → list_all (λ n. not (group n == k) || test n) (map number units) ≡ list_all (λ u. not (group (number u) == k) || passes u) units
  in_group test passes k each =
      all_same number (λ n. not (group n == k) || test n) (λ u. not (group (number u) == k) || passes u) units
      (each_more (λ u. test (number u) ≡ passes u) (λ u. (not (group (number u) == k) || test (number u)) ≡ (not (group (number u) == k) || passes u)) units
      (λ u is. ap (λ b. not (group (number u) == k) || b) is) each)

  always : {B : Type 0} (P : B → Type 0) (xs : List B) → ((x : B) → P x) → EachUnit P xs
  always P [] each = tt
  always P (x ∷ xs) each = (each x, always P xs each)

  pub groups_same : list_all (λ n. list_all (λ m. not (group m == group n) || one m) (map number units) || list_all (λ m. not (group m == group n) || other m) (map number units)) (map number units)
      ≡ passes_by ways.ByPage now then (λ u. group (number u)) units
  groups_same =
      all_same number
      (λ n. list_all (λ m. not (group m == group n) || one m) (map number units) || list_all (λ m. not (group m == group n) || other m) (map number units))
      (λ u. list_all (λ v. not (group (number v) == group (number u)) || now v) units || list_all (λ v. not (group (number v) == group (number u)) || then v) units)
      units
      (always _ units (λ u. ap (λ b. b || list_all (λ m. not (group m == group (number u)) || other m) (map number units)) (in_group one now (group (number u)) olds)
      ∙ ap (λ b. list_all (λ v. not (group (number v) == group (number u)) || now v) units || b) (in_group other then (group (number u)) news)))
