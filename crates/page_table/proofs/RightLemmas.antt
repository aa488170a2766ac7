-- The words of a table are right.
use Rattle.std.proofs.Common.{◌≡◌, ◌<◌, ◌≤◌, ◌+◌, ℕ, suc, false, List, [], ◌∷◌, Option, Some, None, is_some, cond, length, get_or, map, take, refl, sym, ap, ap₂, subst, ◌∙◌, arith}
use Rattle.std.specs.List.{list_any}
use Rattle.std.proofs.lemmas.Bool.{lt-ltb, ne_eqb}
use Rattle.std.proofs.lemmas.List.{get_or-take, length-map, length-take}
use Rattle.std.proofs.lemmas.List.Elements.{All-from_get_or}
use Rattle.std.proofs.lemmas.List.Folds.{list_any_none}
use Rattle.std.proofs.lemmas.List.Sums.{sum_by_more_le}
use Rattle.std.proofs.lemmas.Option.{slice_get-get_or}
use Rattle.page_table.specs.Pages.{IsOn, IsTable, IsWithinCounts, TableState, unit_of, used_pages, word_of}
use Rattle.page_table.specs.Wrong.{first_wrong_entry, has_page, is_on, is_wrong, is_wrong_after}
use Rattle.page_table.proofs.WrongLemmas.{none_wrong, not_wrong}

unit_of-word_of : (page : Option ℕ) → unit_of (word_of page) ≡ page
unit_of-word_of None = refl
unit_of-word_of (Some unit) =
    let next : unit + 1 ≡ suc unit = omega arith in
    ap unit_of next

pub units_of_words : (pages : List (Option ℕ)) → map unit_of (map word_of pages) ≡ pages
units_of_words [] = refl
units_of_words (p ∷ ps) = ap₂ ◌∷◌ (unit_of-word_of p) (units_of_words ps)

module _ (table : TableState) (counts : List ℕ) (is : IsTable table) (within : IsWithinCounts counts table.pages) (room : used_pages table.pages + 16 ≤ table.units) where
  on : (entry unit : ℕ) → entry < length table.pages → get_or table.pages entry None ≡ Some unit → IsOn table.pages entry unit
  on entry unit inside here = slice_get-get_or table.pages entry None inside ∙ ap (λ (page : Option ℕ). Some page) here

  -- no page before one is on its unit
  not_on : (entry unit j : ℕ) (page : Option ℕ) → IsOn table.pages entry unit → entry < length table.pages → j < entry → get_or table.pages j None ≡ page → is_on unit page ≡ false
  not_on entry unit j None here inside before there = refl
  not_on entry unit j (Some other) here inside before there =
      ne_eqb other unit
      (λ same.
      let first = on j unit (omega arith) (there ∙ ap (λ (u : ℕ). Some u) same) in
      let one = is.apart j entry unit first here in
      omega arith)

  own : (entry unit : ℕ) → IsOn table.pages entry unit → entry < length table.pages → list_any (is_on unit) (take entry table.pages) ≡ false
  own entry unit here inside =
      list_any_none (is_on unit) (take entry table.pages)
      (All-from_get_or (λ page. is_on unit page ≡ false) (take entry table.pages) None
      (λ j lt.
      let before : j < entry = omega (arith, length-take entry table.pages) in
      not_on entry unit j (get_or (take entry table.pages) j None) here inside before (sym (get_or-take entry table.pages j None before))))

  page_right : (entry : ℕ) (page : Option ℕ) → entry < length table.pages → get_or table.pages entry None ≡ page → is_wrong_after table.units (take entry table.pages) (has_page counts entry) page ≡ false
  page_right entry None inside here = refl
  page_right entry (Some unit) inside here =
      let at = on entry unit inside here in
      let more = sum_by_more_le (λ (p : Option ℕ). cond (is_some p) 1 0) table.pages entry None inside in
      let count = rw here at more in
      not_wrong table.units (take entry table.pages) (has_page counts entry) unit
      (record { there_is = lt-ltb _ _ (within entry unit at); within = is.within entry unit at; own = own entry unit at inside; room = omega arith })

  pub table_right : first_wrong_entry table.units counts (map word_of table.pages) ≡ None
  table_right =
      none_wrong table.units counts (map word_of table.pages)
      (λ k below.
      subst (λ (pages : List (Option ℕ)). is_wrong table.units counts pages k ≡ false) (sym (units_of_words table.pages))
      (page_right k (get_or table.pages k None) (omega (arith, length-map table.pages word_of)) refl))
