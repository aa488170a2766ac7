-- Which units are free once the first pages have taken theirs.
use Rattle.std.proofs.Common.{◌≡◌, ◌<◌, ◌≤◌, ◌+◌, ◌-◌, ◌||◌, ◌==◌, ℕ, zero, suc, Bool, true, false, List, Option, Some, None, length, get_or, set, take, is_some, ltb, not, refl, sym, ap, subst, ◌∙◌, inl, inr, arith, below_more, length-set, get_or-set_same, get_or-set_other}
use Rattle.std.specs.List.{list_any}
use Rattle.std.proofs.Math.Bool.{or-true}
use Rattle.std.proofs.lemmas.Bool.{and_cases, and_parts, cases_eq, cases_lt, eq-eqb, false_from_ne_true, ltb-true, ltb-false, ne_eqb, not-false, not-true, true≢false}
use Rattle.std.proofs.lemmas.List.{get_or_past, take_all}
use Rattle.std.proofs.lemmas.List.Elements.{All-from_get_or}
use Rattle.std.proofs.lemmas.List.Folds.{list_any_at, list_any_more, list_any_none}
use Rattle.std.proofs.lemmas.List.Sums.{count_by_more_yes, count_by_more_no}
use Rattle.std.proofs.lemmas.Option.{get_or_from_slice_get, slice_get-get_or, slice_get_within}
use Rattle.free_pool.specs.Units.{IsFree, IsTaken, free_count}
use Rattle.free_pool.proofs.CountLemmas.{free_count-taken}
use Rattle.page_table.specs.Claims.{after_claim, may_claim}
use Rattle.page_table.specs.Pages.{IsOn, used_pages}
use Rattle.page_table.specs.Reading.{HasFree}
use Rattle.page_table.specs.Wrong.{has_page, is_on, is_wrong, is_wrong_after}
use Rattle.page_table.proofs.WrongLemmas.{not_wrong, right_parts, wrong_no_page, wrong_no_room, wrong_no_unit, wrong_twice}

-- the first n pages are right, and the units that none of them is on are free
pub record HasClaimed (units : ℕ) (counts : List ℕ) (pages : List (Option ℕ)) (n : ℕ) (free : List Bool) : Type 0 where
  pub size : length free ≡ units
  pub marks : (unit : ℕ) → unit < units → get_or free unit false ≡ not (list_any (is_on unit) (take n pages))
  pub count : free_count free + used_pages (take n pages) ≡ units
  pub right : (k : ℕ) → k < n → is_wrong units counts pages k ≡ false

or_nothing : (b : Bool) → (b || false) ≡ b
or_nothing true = refl
or_nothing false = refl

-- a unit that is not free
pub not_free : (free : List Bool) (unit : ℕ) → (IsFree free unit → ⊥) → get_or free unit false ≡ false
not_free free unit taken =
    false_from_ne_true (get_or free unit false)
    (λ is. elim (cases_lt unit (length free)) [
      | inl within ↦ taken (slice_get-get_or free unit false within ∙ ap (λ (b : Bool). Some b) is)
      | inr past ↦ true≢false (sym is ∙ get_or_past free unit false past)
    ])

module _ (units : ℕ) (counts : List ℕ) (pages : List (Option ℕ)) (n : ℕ) (free : List Bool) (so_far : HasClaimed units counts pages n free) where
  -- what a unit that may be claimed is
  record IsClaimable (there : Bool) (unit : ℕ) : Type 0 where
    there_is : there ≡ true
    room : 16 < free_count free
    is_free : get_or free unit false ≡ true
    within : unit < units

  claimable : (there : Bool) (unit : ℕ) → may_claim free there (Some unit) ≡ true → IsClaimable there unit
  claimable there unit may =
      let parts = and_parts there _ may in
      let rest = and_parts _ _ parts.1 in
      record {
        there_is = parts.0;
        room = ltb-true 16 (free_count free) rest.0;
        is_free = rest.1;
        within = elim (cases_lt unit units) [
          | inl below ↦ below
          | inr past ↦ absurd (true≢false (sym rest.1 ∙ get_or_past free unit false (omega (arith, so_far.size))))
        ];
      }

  module _ (within : n < length pages) where
    more_hole : get_or pages n None ≡ None → HasClaimed units counts pages (n + 1) free
    more_hole hole = record {
      size = so_far.size;
      marks = λ unit below.
          so_far.marks unit below
          ∙ ap not (sym (list_any_more (is_on unit) pages n None within ∙ ap (λ page. list_any (is_on unit) (take n pages) || is_on unit page) hole ∙ or_nothing (list_any (is_on unit) (take n pages))));
      count = omega (arith, so_far.count, count_by_more_no is_some pages n None within (ap is_some hole));
      right = below_more _ _ so_far.right (ap (is_wrong_after units (take n pages) (has_page counts n)) hole);
    }

    module _ (unit : ℕ) (here : get_or pages n None ≡ Some unit) (is : IsClaimable (has_page counts n) unit) where
      more_any : (other : ℕ) → list_any (is_on other) (take (n + 1) pages) ≡ (list_any (is_on other) (take n pages) || (unit == other))
      more_any other = list_any_more (is_on other) pages n None within ∙ ap (λ page. list_any (is_on other) (take n pages) || is_on other page) here

      marked : (other : ℕ) → other < units → get_or (set free unit false) other false ≡ not (list_any (is_on other) (take (n + 1) pages))
      marked other below =
          elim (cases_eq other unit) [
            | inl same ↦
                ap (λ u. get_or (set free unit false) u false) same ∙ get_or-set_same free unit false false (omega (arith, so_far.size))
                ∙ sym (ap not (more_any other ∙ ap (λ b. list_any (is_on other) (take n pages) || b) (eq-eqb unit other (sym same)) ∙ or-true (list_any (is_on other) (take n pages))))
            | inr apart ↦
                get_or-set_other free unit other false false apart ∙ so_far.marks other below
                ∙ sym (ap not (more_any other ∙ ap (λ b. list_any (is_on other) (take n pages) || b) (ne_eqb unit other (λ same. apart (sym same))) ∙ or_nothing (list_any (is_on other) (take n pages))))
          ]

      own : list_any (is_on unit) (take n pages) ≡ false
      own = not-true _ (sym (so_far.marks unit is.within) ∙ is.is_free)

      more_unit : HasClaimed units counts pages (n + 1) (set free unit false)
      more_unit =
          let free_here : IsFree free unit = slice_get-get_or free unit false (omega (arith, so_far.size, is.within)) ∙ ap (λ (b : Bool). Some b) is.is_free in
          record {
            size = length-set free unit false ∙ so_far.size;
            marks = marked;
            count = omega (arith, so_far.count, free_count-taken free unit free_here, count_by_more_yes is_some pages n None within (ap is_some here));
            right =
                below_more _ _ so_far.right
                (ap (is_wrong_after units (take n pages) (has_page counts n)) here
                ∙ not_wrong units (take n pages) (has_page counts n) unit
                (record { there_is = is.there_is; within = is.within; own = own; room = omega (arith, so_far.count, is.room) }));
          }

    pub claimed_more : (page : Option ℕ) → get_or pages n None ≡ page → may_claim free (has_page counts n) page ≡ true → HasClaimed units counts pages (n + 1) (after_claim free page)
    claimed_more None hole may = more_hole hole
    claimed_more (Some unit) here may = more_unit unit here (claimable (has_page counts n) unit may)

  -- a page that may not claim its unit is wrong
  refused : (there : Bool) (unit : ℕ) → may_claim free there (Some unit) ≡ false → is_wrong_after units (take n pages) there (Some unit) ≡ true
  refused there unit denied =
      elim (and_cases there _ denied) [
        | inl no_page ↦ wrong_no_page units (take n pages) there unit no_page
        | inr none ↦ elim (and_cases (ltb 16 (free_count free)) (get_or free unit false) none) [
          | inl few ↦ wrong_no_room units (take n pages) there unit (omega (arith, so_far.count, ltb-false 16 (free_count free) few))
          | inr taken ↦ elim (cases_lt unit units) [
            | inl below ↦ wrong_twice units (take n pages) there unit (not-false _ (sym (so_far.marks unit below) ∙ taken))
            | inr past ↦ wrong_no_unit units (take n pages) there unit past
          ]
        ]
      ]

  pub wrong_unclaimed : (page : Option ℕ) → get_or pages n None ≡ page → may_claim free (has_page counts n) page ≡ false → is_wrong units counts pages n ≡ true
  wrong_unclaimed None hole denied = absurd (true≢false denied)
  wrong_unclaimed (Some unit) here denied = ap (is_wrong_after units (take n pages) (has_page counts n)) here ∙ refused (has_page counts n) unit denied

-- so many holes more have taken none
claimed_holes : (units : ℕ) (counts : List ℕ) (pages : List (Option ℕ)) (n more : ℕ) (free : List Bool) → HasClaimed units counts pages n free → n + more ≤ length pages → ((k : ℕ) → n ≤ k → k < n + more → get_or pages k None ≡ None) → HasClaimed units counts pages (n + more) free
claimed_holes units counts pages n zero free so_far within holes =
    let same : n ≡ n + 0 = omega arith in
    subst (λ (k : ℕ). HasClaimed units counts pages k free) same so_far
claimed_holes units counts pages n (suc more) free so_far within holes =
    let same : n + 1 + more ≡ n + suc more = omega arith in
    let one : HasClaimed units counts pages (n + 1) free = claimed_more units counts pages n free so_far (omega arith) None (holes n (omega arith) (omega arith)) refl in
    subst (λ (k : ℕ). HasClaimed units counts pages k free) same
    (claimed_holes units counts pages (n + 1) more free one (omega arith) (λ k from below. holes k (omega arith) (omega arith)))

pub claimed_to : (units : ℕ) (counts : List ℕ) (pages : List (Option ℕ)) (n next : ℕ) (free : List Bool) → HasClaimed units counts pages n free → n ≤ next → next ≤ length pages → ((k : ℕ) → n ≤ k → k < next → get_or pages k None ≡ None) → HasClaimed units counts pages next free
claimed_to units counts pages n next free so_far up within holes =
    let same : n + (next - n) ≡ next = omega arith in
    subst (λ (k : ℕ). HasClaimed units counts pages k free) same
    (claimed_holes units counts pages n (next - n) free so_far (omega arith) (λ k from below. holes k from (omega arith)))

-- all pages have taken theirs
module _ (units : ℕ) (counts : List ℕ) (pages : List (Option ℕ)) (n : ℕ) (free : List Bool) (done : HasClaimed units counts pages n free) (all : n ≡ length pages) where
  all_pages : take n pages ≡ pages
  all_pages = take_all n pages (omega arith)

  mark_is : (unit : ℕ) → unit < units → get_or free unit false ≡ not (list_any (is_on unit) pages)
  mark_is unit below = done.marks unit below ∙ ap (λ (ps : List (Option ℕ)). not (list_any (is_on unit) ps)) all_pages

  taken : (entry unit : ℕ) → IsOn pages entry unit → IsTaken free unit
  taken entry unit on =
      let within = slice_get_within pages entry (Some unit) on in
      let here = get_or_from_slice_get pages entry (Some unit) None on in
      let below = (right_parts units (take entry pages) (has_page counts entry) unit (sym (ap (is_wrong_after units (take entry pages) (has_page counts entry)) here) ∙ done.right entry (omega arith))).within in
      let named = list_any_at (is_on unit) pages entry None within (ap (is_on unit) here ∙ eq-eqb unit unit refl) in
      slice_get-get_or free unit false (omega (arith, done.size)) ∙ ap (λ (b : Bool). Some b) (mark_is unit below ∙ ap not named)

  not_named : (unit : ℕ) → ((entry : ℕ) → ¬ IsOn pages entry unit) → (entry : ℕ) (page : Option ℕ) → entry < length pages → get_or pages entry None ≡ page → is_on unit page ≡ false
  not_named unit none entry None within here = refl
  not_named unit none entry (Some other) within here =
      ne_eqb other unit (λ same. none entry (slice_get-get_or pages entry None within ∙ ap (λ (page : Option ℕ). Some page) (here ∙ ap (λ (u : ℕ). Some u) same)))

  left : (unit : ℕ) → unit < units → ((entry : ℕ) → ¬ IsOn pages entry unit) → IsFree free unit
  left unit below none =
      let unnamed = list_any_none (is_on unit) pages (All-from_get_or (λ page. is_on unit page ≡ false) pages None (λ entry within. not_named unit none entry (get_or pages entry None) within refl)) in
      slice_get-get_or free unit false (omega (arith, done.size)) ∙ ap (λ (b : Bool). Some b) (mark_is unit below ∙ ap not unnamed)

  pub claimed_all : HasFree (record { units = units; pages = pages }) free
  claimed_all = record {
    all = done.size;
    taken = taken;
    left = left;
    count = subst (λ (ps : List (Option ℕ)). free_count free + used_pages ps ≡ units) all_pages done.count;
  }
