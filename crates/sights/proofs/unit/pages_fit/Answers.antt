use Rattle.std.proofs.Common.{◌≡◌, ◌<◌, ◌+◌, ◌||◌, ◌&&◌, ◌==◌, ◌∙◌, not, sym, ap, ℕ, Bool, true, false, List, length, get_or, take, arith}
use Rattle.std.specs.List.{list_all}
use Rattle.std.proofs.lemmas.List.Folds.{list_all_at, list_all_more}
use Rattle.script_text.specs.Action.{action_of}
use Rattle.sights.proofs.unit.pages_fit.Goals as goal
use Rattle.sights.proofs.unit.pages_fit.Goals.{else-not-page_fits-via-then-not-page_fits+in_ok-page_fits_after+else-not-branch, else-not-page_fits-via-else-not-page_fits}

stops : {U : Type 0} (test : ℕ → Bool) (page_of : U → ℕ) (units : List U) (i n : ℕ) (unit : U) → i < length units → unit ≡ get_or units i unit → n ≡ page_of unit → test n ≡ false
    → false ≡ list_all (λ u. test (page_of u)) units
stops test page_of units i n unit lt is at miss = sym (list_all_at (λ u. test (page_of u)) units i unit lt (ap (λ u. test (page_of u)) (sym is) ∙ ap test (sym at) ∙ miss))

both : (a b : Bool) → a ≡ true → b ≡ true → (a && b) ≡ true
both a b p q = grind arith

goes : {U : Type 0} (test : ℕ → Bool) (page_of : U → ℕ) (units : List U) (i n : ℕ) (unit : U) → i < length units → unit ≡ get_or units i unit → n ≡ page_of unit → test n ≡ true
    → list_all (λ u. test (page_of u)) (take i units) ≡ true → list_all (λ u. test (page_of u)) (take (i + 1) units) ≡ true
goes test page_of units i n unit lt is at hit all =
    list_all_more (λ u. test (page_of u)) units i unit lt ∙ both _ _ all (ap (λ u. test (page_of u)) (sym is) ∙ ap test (sym at) ∙ hit)

-- all units of page n pass, as they are or as they would be
abbrev page_passes : {U : Type 0} → (U → ℕ) → (U → Bool) → (U → Bool) → List U → ℕ → Bool
page_passes page_of now then units n = list_all (λ v. not (page_of v == n) || now v) units || list_all (λ v. not (page_of v == n) || then v) units

neither : (a b r s : Bool) → r ≡ a → s ≡ b → r ≡ false → s ≡ false → (a || b) ≡ false
neither a b r s p q e f = grind arith

left : (a b r : Bool) → r ≡ a → r ≡ true → (a || b) ≡ true
left a b r p e = grind arith

right : (a b s : Bool) → s ≡ b → s ≡ true → (a || b) ≡ true
right a b s p e = grind arith

pub returns-then-not-branch : goal.returns-then-not-branch
returns-then-not-branch g c = stops
    (page_passes g.U.Unit.page_of (g.U.Unit.may_fit c.args.question.now) (λ v. g.U.Unit.may_fit c.args.question.now (g.U.Unit.once_done c.args.geometry (action_of c.args.command.now) v)) c.args.units.now)
    g.U.Unit.page_of c.args.units.now c.loop-unit.unit-index c.page-page.result c.unit-item.result c.loop-unit-test.true c.unit-item.is c.page-page.ensures
    (neither _ _ c.page_fits.result c.in_ok-page_fits_after.field-0 c.page_fits.ensures c.in_ok-page_fits_after.ensures c.if-not-page_fits.true c.if-not-branch.true)

pub loop-unit-preserved : goal.loop-unit-preserved
loop-unit-preserved g c = goes
    (page_passes g.U.Unit.page_of (g.U.Unit.may_fit c.args.question.now) (λ v. g.U.Unit.may_fit c.args.question.now (g.U.Unit.once_done c.args.geometry (action_of c.args.command.now) v)) c.args.units.now)
    g.U.Unit.page_of c.args.units.now c.loop-unit.unit-index c.page-page.result c.unit-item.result c.loop-unit-test.true c.unit-item.is c.page-page.ensures
    (elim c.else-not-page_fits.branch [
      | else-not-page_fits-via-then-not-page_fits+in_ok-page_fits_after+else-not-branch w ↦ right _ _ w.in_ok-page_fits_after.field-0 w.in_ok-page_fits_after.ensures w.if-not-branch.false
      | else-not-page_fits-via-else-not-page_fits w ↦ left _ _ c.page_fits.result c.page_fits.ensures w.if-not-page_fits.false
    ])
    c.loop-unit.invariant
