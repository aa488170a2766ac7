-- A table in which one page changes.
use Rattle.std.proofs.Common.{◌≡◌, ◌<◌, ℕ, List, Option, Some, None, map, set, slice_get, sym, ap₂, subst, ◌∙◌, inl, inr, length-set}
use Rattle.std.proofs.lemmas.List.{map-set}
use Rattle.std.proofs.lemmas.Option.{none-some, same_Some}
use Rattle.free_pool.proofs.BesideLemmas.{on_after}
use Rattle.page_table.specs.Pages.{IsOn, IsTable, MayTake, TableState, unit_of}

module _ (units : ℕ) (pages : List (Option ℕ)) (entry : ℕ) (is : IsTable (record { units = units; pages = pages })) where
  -- where the page takes no unit of another
  taken : (page : Option ℕ) → MayTake (record { units = units; pages = pages }) entry page → (unit : ℕ) → page ≡ Some unit → (unit < units) × ((other : ℕ) → IsOn pages other unit → other ≡ entry)
  taken None may unit same = absurd (none-some unit same)
  taken (Some u) may unit same =
      let e : u ≡ unit = same_Some u unit same in
      subst (λ (n : ℕ). (n < units) × ((other : ℕ) → IsOn pages other n → other ≡ entry)) e may

  pub set_is_table : (page : Option ℕ) → MayTake (record { units = units; pages = pages }) entry page → IsTable (record { units = units; pages = set pages entry page })
  set_is_table page may = record {
    few = is.few;
    all = length-set pages entry page ∙ is.all;
    within = λ e unit on. elim (on_after pages entry page e unit on) [
      | inl here ↦ (taken page may unit here.1).0
      | inr there ↦ is.within e unit there.1
    ];
    apart = λ a b unit on_a on_b. elim (on_after pages entry page a unit on_a) [
      | inl a_here ↦ elim (on_after pages entry page b unit on_b) [
        | inl b_here ↦ a_here.0 ∙ sym b_here.0
        | inr b_there ↦ a_here.0 ∙ sym ((taken page may unit a_here.1).1 b b_there.1)
      ]
      | inr a_there ↦ elim (on_after pages entry page b unit on_b) [
        | inl b_here ↦ (taken page may unit b_here.1).1 a a_there.1 ∙ sym b_here.0
        | inr b_there ↦ is.apart a b unit a_there.1 b_there.1
      ]
    ];
  }

-- once a page is a hole, another may be where it was
module _ (table : TableState) (is : IsTable table) (from to : ℕ) where
  pub may_move : (page : Option ℕ) → slice_get table.pages from ≡ Some page → MayTake (record table { pages = set table.pages from None }) to page
  may_move None was = tt
  may_move (Some unit) was = (
    is.within from unit was,
    λ other on. elim (on_after table.pages from None other unit on) [
      | inl here ↦ absurd (none-some unit here.1)
      | inr there ↦ absurd (there.0 (is.apart other from unit there.1 was))
    ],
  )

-- the word of an entry becomes that of a page
pub units_set : (words : List ℕ) (entry at word : ℕ) (page : Option ℕ) → entry ≡ at → unit_of word ≡ page → map unit_of (set words entry word) ≡ set (map unit_of words) at page
units_set words entry at word page same is = map-set unit_of words entry word ∙ ap₂ (λ (i : ℕ) (p : Option ℕ). set (map unit_of words) i p) same is
