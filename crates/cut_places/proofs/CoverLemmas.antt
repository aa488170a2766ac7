-- A cut that may leave what a question asks of some units may leave it of more, where each of these is one of them or fits either way.
use Rattle.std.proofs.Common.{◌≡◌, ◌⊎◌, inl, inr, ℕ, ◌==◌, ◌&&◌, ◌||◌, not, Bool, true, false, Option, Some, None, List, [], ◌∷◌, map, refl, sym, ap, subst, ◌∙◌}
use Rattle.std.specs.List.{list_all}
use Rattle.std.proofs.lemmas.Bool.{eqb-true, or_cases, or_left, or_right}
use Rattle.sights.specs.declared.way.Way.{Way}
use Rattle.sights.specs.declared.way.Way.TheVariants.{Each, Together, ByPage}
use Rattle.sights.specs.Ways.{passes_inside}
use Rattle.cut_places.specs.Enough.{IsAmong}
use Rattle.cut_places.proofs.AmongLemmas.{all_from, all_of, among_numbers, among_or_not}

module _ {A : Type 0} (f g : A → Bool) (page : A → ℕ) (some : List A) where
  -- it is like one of some, or passes both ways
  abbrev pub IsLike : A → Type 0
  IsLike u = ((t : A) × IsAmong t some × (f t ≡ f u) × (g t ≡ g u) × (page t ≡ page u)) ⊎ ((f u ≡ true) × (g u ≡ true))

module _ {A : Type 0} (f g : A → Bool) (page : A → ℕ) (some all : List A) (each : (u : A) → IsAmong u all → IsLike f g page some u) where
  one_now : (u : A) → IsLike f g page some u → list_all f some ≡ true → f u ≡ true
  one_now u (inl like) passes = sym like.2 ∙ all_of f like.0 some passes like.1
  one_now u (inr fits) passes = fits.0

  one_then : (u : A) → IsLike f g page some u → list_all g some ≡ true → g u ≡ true
  one_then u (inl like) passes = sym like.3 ∙ all_of g like.0 some passes like.1
  one_then u (inr fits) passes = fits.1

  one_either : (u : A) → IsLike f g page some u → list_all (λ v. f v || g v) some ≡ true → (f u || g u) ≡ true
  one_either u (inl like) passes = sym (ap (λ b. b || g like.0) like.2 ∙ ap (λ b. f u || b) like.3) ∙ all_of (λ v. f v || g v) like.0 some passes like.1
  one_either u (inr fits) passes = or_left (f u) (g u) fits.0

  -- those of a page
  group_now : (k : ℕ) (u : A) → IsLike f g page some u → list_all (λ v. not (page v == k) || f v) some ≡ true → (not (page u == k) || f u) ≡ true
  group_now k u (inl like) passes =
      sym (ap (λ n. not (n == k) || f like.0) like.4 ∙ ap (λ b. not (page u == k) || b) like.2) ∙ all_of (λ v. not (page v == k) || f v) like.0 some passes like.1
  group_now k u (inr fits) passes = or_right (not (page u == k)) (f u) fits.0

  group_then : (k : ℕ) (u : A) → IsLike f g page some u → list_all (λ v. not (page v == k) || g v) some ≡ true → (not (page u == k) || g u) ≡ true
  group_then k u (inl like) passes =
      sym (ap (λ n. not (n == k) || g like.0) like.4 ∙ ap (λ b. not (page u == k) || b) like.3) ∙ all_of (λ v. not (page v == k) || g v) like.0 some passes like.1
  group_then k u (inr fits) passes = or_right (not (page u == k)) (g u) fits.1

  abbrev group_passes : List A → ℕ → Bool
  group_passes units k = list_all (λ v. not (page v == k) || f v) units || list_all (λ v. not (page v == k) || g v) units

  -- some unit is of a page, or none
  find_page : (k : ℕ) (units : List A) → ((t : A) × IsAmong t units × (page t ≡ k)) ⊎ (list_all (λ v. not (page v == k) || f v) units ≡ true)
  find_page k [] = inr refl
  find_page k (u ∷ units) = by_page (page u == k) refl (find_page k units)
    where
      by_page : (b : Bool) → (page u == k) ≡ b → ((t : A) × IsAmong t units × (page t ≡ k)) ⊎ (list_all (λ v. not (page v == k) || f v) units ≡ true)
          → ((t : A) × IsAmong t (u ∷ units) × (page t ≡ k)) ⊎ (((not b || f u) && list_all (λ v. not (page v == k) || f v) units) ≡ true)
      by_page true is rest = inl (u, inl refl, eqb-true (page u) k is)
      by_page false is (inl later) = inl (later.0, inr later.1, later.2)
      by_page false is (inr none) = inr none

  group_some : (k : ℕ) → list_all (λ u. group_passes some (page u)) some ≡ true → group_passes some k ≡ true
  group_some k passes = by_page (find_page k some)
    where
      by_page : ((t : A) × IsAmong t some × (page t ≡ k)) ⊎ (list_all (λ v. not (page v == k) || f v) some ≡ true) → group_passes some k ≡ true
      by_page (inl one) = subst (λ n. group_passes some n ≡ true) one.2 (all_of (λ u. group_passes some (page u)) one.0 some passes one.1)
      by_page (inr none) = or_left (list_all (λ v. not (page v == k) || f v) some) (list_all (λ v. not (page v == k) || g v) some) none

  group_all : (k : ℕ) → group_passes some k ≡ true → group_passes all k ≡ true
  group_all k passes = elim (or_cases (list_all (λ v. not (page v == k) || f v) some) (list_all (λ v. not (page v == k) || g v) some) passes) as (λ _. group_passes all k ≡ true) [
    | inl now ↦ or_left (list_all (λ v. not (page v == k) || f v) all) (list_all (λ v. not (page v == k) || g v) all) (all_from (λ v. not (page v == k) || f v) all (λ u is. group_now k u (each u is) now))
    | inr then ↦ or_right (list_all (λ v. not (page v == k) || f v) all) (list_all (λ v. not (page v == k) || g v) all) (all_from (λ v. not (page v == k) || g v) all (λ u is. group_then k u (each u is) then))
  ]

  pub covered : (way : Option Way) → passes_inside way f g page some ≡ true → passes_inside way f g page all ≡ true
  covered None passes = all_from f all (λ u is. one_now u (each u is) passes)
  covered (Some Each) passes = all_from (λ u. f u || g u) all (λ u is. one_either u (each u is) passes)
  covered (Some Together) passes = elim (or_cases (list_all f some) (list_all g some) passes) as (λ _. (list_all f all || list_all g all) ≡ true) [
    | inl now ↦ or_left (list_all f all) (list_all g all) (all_from f all (λ u is. one_now u (each u is) now))
    | inr then ↦ or_right (list_all f all) (list_all g all) (all_from g all (λ u is. one_then u (each u is) then))
  ]
  covered (Some ByPage) passes = all_from (λ u. group_passes all (page u)) all (λ u is. group_all (page u) (group_some (page u) passes))

-- and of all of them, of some
module _ {A : Type 0} (f g : A → Bool) (page : A → ℕ) (some all : List A) (within : (u : A) → IsAmong u some → IsAmong u all) where
  fewer_pass : (test : A → Bool) → list_all test all ≡ true → list_all test some ≡ true
  fewer_pass test passes = all_from test some (λ u is. all_of test u all passes (within u is))

  fewer_either : (first second : A → Bool) → (list_all first all || list_all second all) ≡ true → (list_all first some || list_all second some) ≡ true
  fewer_either first second passes = elim (or_cases (list_all first all) (list_all second all) passes) as (λ _. (list_all first some || list_all second some) ≡ true) [
    | inl now ↦ or_left (list_all first some) (list_all second some) (fewer_pass first now)
    | inr then ↦ or_right (list_all first some) (list_all second some) (fewer_pass second then)
  ]

  pub fewer : (way : Option Way) → passes_inside way f g page all ≡ true → passes_inside way f g page some ≡ true
  fewer None passes = fewer_pass f passes
  fewer (Some Each) passes = fewer_pass (λ u. f u || g u) passes
  fewer (Some Together) passes = fewer_either f g passes
  fewer (Some ByPage) passes =
      all_from (λ u. list_all (λ v. not (page v == page u) || f v) some || list_all (λ v. not (page v == page u) || g v) some) some
      (λ u is. fewer_either (λ v. not (page v == page u) || f v) (λ v. not (page v == page u) || g v)
      (all_of (λ u. list_all (λ v. not (page v == page u) || f v) all || list_all (λ v. not (page v == page u) || g v) all) u all passes (within u is)))

same_tests : (a b : Bool) → (a ≡ true → b ≡ true) → (b ≡ true → a ≡ true) → a ≡ b
same_tests true b there back = sym (there refl)
same_tests false true there back = back refl
same_tests false false there back = refl

-- Units of a storage, each with its value there: those whose numbers are asked about pass as all do, where each other one fits either way.
module _ {A V : Type 0} (number : A → ℕ) (value : A → V) (test : ℕ → V → Bool) (made : ℕ → V → V) (page : ℕ → ℕ) (there : ℕ → V) (some all : List A) (numbers : List ℕ)
    (are : map number some ≡ numbers) (within : (u : A) → IsAmong u some → IsAmong u all) (each : (u : A) → IsAmong u all → value u ≡ there (number u))
    (aside : (u : A) → IsAmong u all → list_all (λ m. not (m == number u)) numbers ≡ true → (test (number u) (value u) ≡ true) × (test (number u) (made (number u) (value u)) ≡ true)) where
  abbrev now : A → Bool
  now u = test (number u) (value u)

  abbrev later : A → Bool
  later u = test (number u) (made (number u) (value u))

  is_like : (u : A) → IsAmong u all → IsLike now later (λ v. page (number v)) some u
  is_like u among = by_asked (among_or_not (number u) numbers)
    where
      by_asked : IsAmong (number u) numbers ⊎ (list_all (λ m. not (m == number u)) numbers ≡ true) → IsLike now later (λ v. page (number v)) some u
      by_asked (inl asked) =
          let one = among_numbers number (number u) some (subst (IsAmong (number u)) (sym are) asked) in
          let same : value one.0 ≡ value u = each one.0 (within one.0 one.1) ∙ ap there one.2 ∙ sym (each u among) in
          inl (
            one.0,
            one.1,
            ap (λ n. test n (value one.0)) one.2 ∙ ap (test (number u)) same,
            ap (λ n. test n (made n (value one.0))) one.2 ∙ ap (λ v. test (number u) (made (number u) v)) same,
            ap page one.2,
          )
      by_asked (inr out) = inr (aside u among out)

  pub same_all : (way : Option Way) → passes_inside way now later (λ v. page (number v)) some ≡ passes_inside way now later (λ v. page (number v)) all
  same_all way =
      same_tests (passes_inside way now later (λ v. page (number v)) some) (passes_inside way now later (λ v. page (number v)) all)
      (covered now later (λ v. page (number v)) some all is_like way) (fewer now later (λ v. page (number v)) some all within way)
