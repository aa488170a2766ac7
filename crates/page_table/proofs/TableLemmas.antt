-- Words with none that is wrong stand for a table.
use Rattle.std.proofs.Common.{◌≡◌, ◌<◌, ◌≤◌, ◌+◌, ℕ, zero, suc, false, List, [], ◌∷◌, Option, Some, None, is_some, length, get_or, map, take, refl, sym, ap, ap₂, subst, ◌∙◌, inl, inr, arith}
use Rattle.std.proofs.lemmas.Bool.{cases_order, eq-eqb, false≢true, ltb-true}
use Rattle.std.proofs.lemmas.List.{get_or-take, length-take, take_all}
use Rattle.std.proofs.lemmas.List.Folds.{list_any_at}
use Rattle.std.proofs.lemmas.List.Sums.{count_by_more_yes, count_by_more_no}
use Rattle.std.proofs.lemmas.Option.{get_or_from_slice_get, slice_get-get_or, slice_get_within}
use Rattle.page_table.specs.Pages.{IsOn, IsTable, IsWithinCounts, unit_of, used_pages, word_of}
use Rattle.page_table.specs.Wrong.{has_page, is_on, is_wrong, is_wrong_after}
use Rattle.page_table.proofs.WrongLemmas.{IsRight, right_parts}

pub word_of-unit_of : (word : ℕ) → word_of (unit_of word) ≡ word
word_of-unit_of zero = refl
word_of-unit_of (suc unit) = omega arith

pub words_of_units : (words : List ℕ) → map word_of (map unit_of words) ≡ words
words_of_units [] = refl
words_of_units (w ∷ ws) = ap₂ ◌∷◌ (word_of-unit_of w) (words_of_units ws)

pub get_or-units : (words : List ℕ) (i : ℕ) → get_or (map unit_of words) i None ≡ unit_of (get_or words i 0)
get_or-units [] i = refl
get_or-units (w ∷ ws) zero = refl
get_or-units (w ∷ ws) (suc i) = get_or-units ws i

-- a page on a unit
module _ (pages : List (Option ℕ)) (entry unit : ℕ) (on : IsOn pages entry unit) where
  on_within : entry < length pages
  on_within = slice_get_within pages entry (Some unit) on

  on_is : get_or pages entry None ≡ Some unit
  on_is = get_or_from_slice_get pages entry (Some unit) None on

module _ (units : ℕ) (counts : List ℕ) (pages : List (Option ℕ)) (right : (k : ℕ) → k < length pages → is_wrong units counts pages k ≡ false) where
  right_at : (entry unit : ℕ) → IsOn pages entry unit → IsRight units (take entry pages) (has_page counts entry) unit
  right_at entry unit on =
      right_parts units (take entry pages) (has_page counts entry) unit
      (sym (ap (is_wrong_after units (take entry pages) (has_page counts entry)) (on_is pages entry unit on)) ∙ right entry (on_within pages entry unit on))

  not_repeated : (a b unit : ℕ) → a < b → IsOn pages a unit → IsOn pages b unit → ⊥
  not_repeated a b unit before on_a on_b =
      let first = get_or-take b pages a None before ∙ on_is pages a unit on_a in
      let named = list_any_at (is_on unit) (take b pages) a None (omega (arith, length-take b pages, on_within pages b unit on_b)) (ap (is_on unit) first ∙ eq-eqb unit unit refl) in
      false≢true (sym (right_at b unit on_b).own ∙ named)

  pub is_table : units ≤ 1024 → length pages ≡ 16384 → IsTable (record { units = units; pages = pages })
  is_table few all = record {
    few = few;
    all = all;
    within = λ entry unit on. (right_at entry unit on).within;
    apart = λ a b unit on_a on_b. elim (cases_order a b) [
      | inl same ↦ same
      | inr apart ↦ elim apart [ inl before ↦ absurd (not_repeated a b unit before on_a on_b) | inr after ↦ absurd (not_repeated b a unit after on_b on_a) ]
    ];
  }

  pub within_counts : IsWithinCounts counts pages
  within_counts entry unit on = ltb-true _ _ (right_at entry unit on).there_is

  room_more : (n : ℕ) (page : Option ℕ) → n < length pages → get_or pages n None ≡ page → used_pages (take n pages) + 16 ≤ units → used_pages (take (n + 1) pages) + 16 ≤ units
  room_more n None within hole before = omega (arith, count_by_more_no is_some pages n None within (ap is_some hole))
  room_more n (Some unit) within here before =
      let on = slice_get-get_or pages n None within ∙ ap (λ (page : Option ℕ). Some page) here in
      omega (arith, count_by_more_yes is_some pages n None within (ap is_some here), (right_at n unit on).room)

  room_before : 16 ≤ units → (n : ℕ) → n ≤ length pages → used_pages (take n pages) + 16 ≤ units
  room_before some zero all = some
  room_before some (suc n) all =
      let next : suc n ≡ n + 1 = omega arith in
      rw next (room_more n (get_or pages n None) (omega arith) refl (room_before some n (omega arith)))

  pub room_left : 16 ≤ units → used_pages pages + 16 ≤ units
  room_left some = subst (λ (ps : List (Option ℕ)). used_pages ps + 16 ≤ units) (take_all (length pages) pages (omega arith)) (room_before some (length pages) (omega arith))
