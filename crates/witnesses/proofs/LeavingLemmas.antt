-- Units that are left as they are or as a command makes them: what a cut may leave so, and each of them.
use Rattle.std.proofs.Common.{◌≡◌, ℕ, ◌==◌, ◌||◌, Bool, true, false, cond, not, List, Option, Some, None, refl, sym, ap, ◌∙◌, eq-eqb}
use Rattle.std.specs.List.{list_all}
use Rattle.std.proofs.lemmas.Bool.{eqb-true, or_left, or_right}
use Rattle.cut_places.specs.SightsSeen.declared.way.Way.{Way}
use Rattle.cut_places.specs.SightsSeen.declared.way.Way.TheVariants.{Each, Together, ByPage}
use Rattle.cut_places.specs.SightsSeen.Ways.{passes_inside}
use Rattle.script_text.specs.Action.{Action}
use Rattle.witnesses.specs.Leaving.{made_by, mixing, stays, unit_left}
use Rattle.witnesses.proofs.ListLemmas.{IsAmong, all_from, all_of}

-- a unit among those of its own page passes
own : (k : ℕ) (b : Bool) → (not (k == k) || b) ≡ true → b ≡ true
own k b is = ap (λ t. not t || b) (sym (eq-eqb k k refl)) ∙ is

module _ {A : Type 0} (now : A → Bool) (made : A → A) (page : A → ℕ) (units : List A) where
  -- what a cut may leave fits as it is left
  pub left_fits : (way : Option Way) → passes_inside way now (λ u. now (made u)) page units ≡ true
      → (u : A) → IsAmong u units → now (unit_left way now made page units u) ≡ true
  left_fits None all u is = all_of now u units all is
  left_fits (Some Each) all u is = by_first (now u) refl (all_of (λ v. now v || now (made v)) u units all is)
    where
      by_first : (b : Bool) → now u ≡ b → (b || now (made u)) ≡ true → now (cond b u (made u)) ≡ true
      by_first true fits some = fits
      by_first false fits some = some
  left_fits (Some Together) all u is = by_all (list_all now units) refl all
    where
      by_all : (b : Bool) → list_all now units ≡ b → (b || list_all (λ v. now (made v)) units) ≡ true → now (cond b u (made u)) ≡ true
      by_all true fit some = all_of now u units fit is
      by_all false fit some = all_of (λ v. now (made v)) u units some is
  left_fits (Some ByPage) all u is =
      by_page (list_all (λ v. not (page v == page u) || now v) units) refl
      (all_of (λ w. list_all (λ v. not (page v == page w) || now v) units || list_all (λ v. not (page v == page w) || now (made v)) units) u units all is)
    where
      by_page : (b : Bool) → list_all (λ v. not (page v == page u) || now v) units ≡ b
          → (b || list_all (λ v. not (page v == page u) || now (made v)) units) ≡ true → now (cond b u (made u)) ≡ true
      by_page true fit some = own (page u) (now u) (all_of (λ v. not (page v == page u) || now v) u units fit is)
      by_page false fit some = own (page u) (now (made u)) (all_of (λ v. not (page v == page u) || now (made v)) u units some is)

  -- where all pass a test as they are left, a cut may leave what passes it
  module _ (f : A → Bool) where
    either : (b : Bool) (u : A) → f (cond b u (made u)) ≡ true → (f u || f (made u)) ≡ true
    either true u passes = or_left (f u) (f (made u)) passes
    either false u passes = or_right (f u) (f (made u)) passes

    together : (b : Bool) → ((u : A) → IsAmong u units → f (cond b u (made u)) ≡ true) → (list_all f units || list_all (λ u. f (made u)) units) ≡ true
    together true each = or_left (list_all f units) (list_all (λ u. f (made u)) units) (all_from f units each)
    together false each = or_right (list_all f units) (list_all (λ u. f (made u)) units) (all_from (λ u. f (made u)) units each)

    in_page : (k : ℕ) (b : Bool) → list_all (λ w. not (page w == k) || now w) units ≡ b → (v : A)
        → f (cond (list_all (λ w. not (page w == page v) || now w) units) v (made v)) ≡ true → (t : Bool) → (page v == k) ≡ t → (not t || f (cond b v (made v))) ≡ true
    in_page k b is v passes false other = refl
    in_page k b is v passes true same =
        ap (λ c. f (cond c v (made v))) (sym (ap (λ n. list_all (λ w. not (page w == n) || now w) units) (eqb-true (page v) k same) ∙ is)) ∙ passes

    by_page : (u : A) (b : Bool) → list_all (λ w. not (page w == page u) || now w) units ≡ b
        → ((v : A) → IsAmong v units → f (cond (list_all (λ w. not (page w == page v) || now w) units) v (made v)) ≡ true)
        → (list_all (λ v. not (page v == page u) || f v) units || list_all (λ v. not (page v == page u) || f (made v)) units) ≡ true
    by_page u true is each =
        or_left _ _ (all_from (λ v. not (page v == page u) || f v) units (λ v among. in_page (page u) true is v (each v among) (page v == page u) refl))
    by_page u false is each =
        or_right _ _ (all_from (λ v. not (page v == page u) || f (made v)) units (λ v among. in_page (page u) false is v (each v among) (page v == page u) refl))

    pub left_passes : (way : Option Way) → ((u : A) → IsAmong u units → f (unit_left way now made page units u) ≡ true) → passes_inside way f (λ u. f (made u)) page units ≡ true
    left_passes None each = all_from f units each
    left_passes (Some Each) each = all_from (λ u. f u || f (made u)) units (λ u is. either (now u) u (each u is))
    left_passes (Some Together) each = together (list_all now units) each
    left_passes (Some ByPage) each =
        all_from (λ u. list_all (λ v. not (page v == page u) || f v) units || list_all (λ v. not (page v == page u) || f (made v)) units) units
        (λ u is. by_page u (list_all (λ w. not (page w == page u) || now w) units) refl each)

  -- units that pass alike, of one page, stay alike
  pub stays_same : (way : Option Way) (u v : A) → now u ≡ now v → page u ≡ page v → stays way now page units u ≡ stays way now page units v
  stays_same None u v fits pages = refl
  stays_same (Some Each) u v fits pages = fits
  stays_same (Some Together) u v fits pages = refl
  stays_same (Some ByPage) u v fits pages = ap (λ k. list_all (λ w. not (page w == k) || now w) units) pages

-- where no unit is mixed, each is left as it is
pub left_mixed : {A : Type 0} (way : Option Way) (inside : Option Action) (now : A → Bool) (done : Action → A → A) (page : A → ℕ) (units : List A) (u : A)
    → cond (stays way now page units u) u (made_by done (mixing way inside) u) ≡ unit_left way now (made_by done inside) page units u
left_mixed None inside now done page units u = refl
left_mixed (Some way) inside now done page units u = refl
