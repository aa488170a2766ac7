-- Switches, one by one.
use Rattle.std.proofs.Common.{◌≡◌, ◌⊎◌, ◌≢◌, inl, inr, ℕ, suc, ◌<◌, ◌==◌, List, [], ◌∷◌, ◌++◌, Option, Some, None, length, get_or, if◌then◌else◌, refl, sym, ◌∙◌, ap, ap₂}
use Rattle.std.proofs.lemmas.Bool.{cases_eq, eq-eqb, ne_eqb}
use Rattle.std.proofs.lemmas.Option.{slice_get-get_or}
use Rattle.page_table.specs.Pages.{IsBelow}
use Rattle.file_journal.specs.Changes.{unit_for}
use Rattle.file_journal.specs.Switches.{IsSwitch}

-- the page and the unit of a switch
abbrev pub page_of : List (ℕ × Option ℕ) → ℕ → ℕ
page_of switches i = (get_or switches i (0, None)).0

abbrev pub unit_of : List (ℕ × Option ℕ) → ℕ → Option ℕ
unit_of switches i = (get_or switches i (0, None)).1

pub switch_is : (switches : List (ℕ × Option ℕ)) (i : ℕ) → i < length switches → IsSwitch switches i (page_of switches i) (unit_of switches i)
switch_is switches i below = slice_get-get_or switches i (0, None) below

pub is_below : (limit : ℕ) (unit : Option ℕ) → ((u : ℕ) → unit ≡ Some u → u < limit) → IsBelow limit unit
is_below limit None h = tt
is_below limit (Some u) h = h u refl

-- a page's unit is the one of a switch, or the one it had
pub unit_for_by : (switches : List (ℕ × Option ℕ)) (page : ℕ) (old : Option ℕ) → ((i : ℕ) × IsSwitch switches i page (unit_for switches page old)) ⊎ (unit_for switches page old ≡ old)
unit_for_by [] page old = inr refl
unit_for_by (c ∷ cs) page old =
    elim (cases_eq c.0 page) as (λ _. ((i : ℕ) × IsSwitch (c ∷ cs) i page (unit_for (c ∷ cs) page old)) ⊎ (unit_for (c ∷ cs) page old ≡ old)) [
      | inl same ↦
          let is : unit_for (c ∷ cs) page old ≡ c.1 = ap (λ b. if b then c.1 else unit_for cs page old) (eq-eqb c.0 page same) in
          inl (0, ap₂ (λ (p : ℕ) (u : Option ℕ). Some (p, u)) same (sym is))
      | inr other ↦
          let is : unit_for (c ∷ cs) page old ≡ unit_for cs page old = ap (λ b. if b then c.1 else unit_for cs page old) (ne_eqb c.0 page other) in
          elim (unit_for_by cs page old) as (λ _. ((i : ℕ) × IsSwitch (c ∷ cs) i page (unit_for (c ∷ cs) page old)) ⊎ (unit_for (c ∷ cs) page old ≡ old)) [
            | inl found ↦ inl (suc found.0, found.1 ∙ ap (λ (u : Option ℕ). Some (page, u)) (sym is))
            | inr kept ↦ inr (is ∙ kept)
          ]
    ]

-- one switch more, of a page that none before it is of
pub unit_for-push_at : (cs : List (ℕ × Option ℕ)) (page : ℕ) (unit old : Option ℕ) → ((i : ℕ) (u : Option ℕ) → IsSwitch cs i page u → ⊥) → unit_for (cs ++ (page, unit) ∷ []) page old ≡ unit
unit_for-push_at [] page unit old fresh = ap (λ b. if b then unit else old) (eq-eqb page page refl)
unit_for-push_at (c ∷ cs) page unit old fresh =
    ap (λ b. if b then c.1 else unit_for (cs ++ (page, unit) ∷ []) page old) (ne_eqb c.0 page (λ same. fresh 0 c.1 (ap (λ (p : ℕ). Some (p, c.1)) same)))
    ∙ unit_for-push_at cs page unit old (λ i u is. fresh (suc i) u is)

pub unit_for-push_other : (cs : List (ℕ × Option ℕ)) (page other : ℕ) (unit old : Option ℕ) → other ≢ page → unit_for (cs ++ (page, unit) ∷ []) other old ≡ unit_for cs other old
unit_for-push_other [] page other unit old ne = ap (λ b. if b then unit else old) (ne_eqb page other (λ same. ne (sym same)))
unit_for-push_other (c ∷ cs) page other unit old ne = ap (λ u. if c.0 == other then c.1 else u) (unit_for-push_other cs page other unit old ne)
