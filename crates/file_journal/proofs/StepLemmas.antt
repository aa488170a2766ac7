-- Pages of an inode switched in memory, one after the other.
use Rattle.std.proofs.Common.{◌≡◌, ◌⊎◌, ◌≢◌, inl, inr, ℕ, ◌+◌, ◌*◌, ◌/◌, ◌%◌, ◌<◌, ◌==◌, Bool, true, false, List, [], ◌∷◌, ◌++◌, Option, Some, None, is_some, length, get_or, set, take, if◌then◌else◌, slice_get, refl, sym, ◌∙◌, ap, subst, arith, get_or-set_other, get_or-set_same, length-set}
use Rattle.std.proofs.lemmas.Bool.{cases_eq}
use Rattle.std.proofs.lemmas.List.{same_lists, take_more, length-take, get_or-take}
use Rattle.std.proofs.lemmas.List.Sums.{count_by_more_yes, count_by_more_no}
use Rattle.std.proofs.lemmas.Option.{get_or_from_slice_get, same_Some, slice_get-get_or, slice_get_within}
use Rattle.free_pool.specs.Units.{IsTaken}
use Rattle.free_pool.proofs.BesideLemmas.{given_known, given_taken, still_taken, switched_known, switched_taken}
use Rattle.page_table.specs.Pages.{IsOn, IsTable, MayTake, TableState, used_by}
use Rattle.nvm_model.proofs.NumberedLemmas.{length-map_from}
use Rattle.file_journal.specs.Calls.{CanSwitch}
use Rattle.file_journal.specs.Changes.{named_units, switched_page, switched_pages, unit_for}
use Rattle.file_journal.specs.Switches.{IsSwitch}
use Rattle.file_journal.specs.Tables.{AreTaken, IsVacant, known_units}
use Rattle.file_journal.proofs.HoldLemmas.{get_or-switched, switched_elsewhere, switched_here}
use Rattle.file_journal.proofs.SwitchLemmas.{page_of, switch_is, unit_for-push_at, unit_for-push_other, unit_for_by, unit_of}

-- the table and the units after some of the switches
pub record AreStepped (inode : ℕ) (done : List (ℕ × Option ℕ)) (old : TableState) (free : List Bool) (table : TableState) (left : List Bool) : Type 0 where
  pub pages : table ≡ record old { pages = switched_pages inode done old.pages }
  pub is_table : IsTable table
  pub all : length left ≡ length free
  pub taken : AreTaken table.pages left
  pub held : (unit : ℕ) → IsTaken free unit → IsVacant old.pages unit → IsTaken left unit
  pub known : known_units table.pages left ≡ known_units old.pages free + named_units done

-- a switch among the first ones
pub switch_take : (switches : List (ℕ × Option ℕ)) (i j page : ℕ) (unit : Option ℕ) → IsSwitch (take i switches) j page unit → (j < i) × IsSwitch switches j page unit
switch_take switches i j page unit is =
    let within = slice_get_within (take i switches) j (page, unit) is in
    let low : j < i = omega (arith, length-take i switches) in (
      low,
      slice_get-get_or switches j (0, None) (omega (arith, length-take i switches))
          ∙ ap Some (sym (get_or-take i switches j (0, None) low) ∙ get_or_from_slice_get (take i switches) j (page, unit) (0, None) is),
    )

-- a page that is on a unit afterwards was switched to it, or was there before
pub on_switched : (inode : ℕ) (switches : List (ℕ × Option ℕ)) (pages : List (Option ℕ)) (e unit : ℕ) → IsOn (switched_pages inode switches pages) e unit → ((j : ℕ) × (e / 256 ≡ inode) × IsSwitch switches j (e % 256) (Some unit)) ⊎ IsOn pages e unit
on_switched inode switches pages e unit on =
    let within : e < length pages = omega (arith, slice_get_within (switched_pages inode switches pages) e (Some unit) on, length-map_from (switched_page inode switches) 0 pages) in
    let old = get_or pages e None in
    let is : switched_page inode switches e old ≡ Some unit = sym (get_or-switched inode switches pages e within) ∙ get_or_from_slice_get (switched_pages inode switches pages) e (Some unit) None on in
    let there : old ≡ Some unit → IsOn pages e unit = λ same. slice_get-get_or pages e None within ∙ ap (λ (p : Option ℕ). Some p) same in
    elim (cases_eq (e / 256) inode) as (λ _. ((j : ℕ) × (e / 256 ≡ inode) × IsSwitch switches j (e % 256) (Some unit)) ⊎ IsOn pages e unit) [
      | inl same ↦
          let to : unit_for switches (e % 256) old ≡ Some unit = sym (switched_here inode switches e old same) ∙ is in
          elim (unit_for_by switches (e % 256) old) as (λ _. ((j : ℕ) × (e / 256 ≡ inode) × IsSwitch switches j (e % 256) (Some unit)) ⊎ IsOn pages e unit) [
            | inl found ↦ inl (found.0, same, found.1 ∙ ap (λ (u : Option ℕ). Some (e % 256, u)) to)
            | inr kept ↦ inr (there (sym kept ∙ to))
          ]
      | inr other ↦ inr (there (sym (switched_elsewhere inode switches e old other) ∙ is))
    ]

any_default : (xs : List (Option ℕ)) (k : ℕ) (d : Option ℕ) → k < length xs → get_or xs k d ≡ get_or xs k None
any_default xs k d within = same_Some _ _ (sym (slice_get-get_or xs k d within) ∙ slice_get-get_or xs k None within)

pub same_pages : (xs ys : List (Option ℕ)) → length xs ≡ length ys → ((k : ℕ) → k < length xs → get_or xs k None ≡ get_or ys k None) → xs ≡ ys
same_pages xs ys size same =
    same_lists xs ys size (λ k d within. any_default xs k d within ∙ same k within ∙ sym (any_default ys k d (omega (arith, size))))

-- one switch more
module _ (inode : ℕ) (switches : List (ℕ × Option ℕ)) (pages : List (Option ℕ)) (page : ℕ) (unit : Option ℕ) (small : page < 256) (within : 256 * inode + page < length pages) (fresh : (j : ℕ) (u : Option ℕ) → IsSwitch switches j page u → ⊥) where
  set_at : (k : ℕ) → k < length pages → get_or (set (switched_pages inode switches pages) (256 * inode + page) unit) k None ≡ get_or (switched_pages inode (switches ++ (page, unit) ∷ []) pages) k None
  set_at k low =
      let entry = 256 * inode + page in
      let more = switches ++ (page, unit) ∷ [] in
      let before = switched_pages inode switches pages in
      let size = length-map_from (switched_page inode switches) 0 pages in
      let old = get_or pages k None in
      let right = get_or-switched inode more pages k low in
      elim (cases_eq k entry) as (λ _. get_or (set before entry unit) k None ≡ get_or (switched_pages inode more pages) k None) [
        | inl same ↦
            let e1 : k / 256 ≡ inode = omega arith in
            let e2 : k % 256 ≡ page = omega arith in
            ap (λ n. get_or (set before entry unit) n None) same
            ∙ get_or-set_same before entry unit None (omega (arith, size))
            ∙ sym (right ∙ switched_here inode more k old e1 ∙ ap (λ n. unit_for more n old) e2 ∙ unit_for-push_at switches page unit old fresh)
        | inr other ↦
            get_or-set_other before entry k unit None other
            ∙ get_or-switched inode switches pages k low
            ∙ elim (cases_eq (k / 256) inode) as (λ _. switched_page inode switches k old ≡ switched_page inode more k old) [
              | inl here ↦
                  switched_here inode switches k old here
                  ∙ sym (switched_here inode more k old here ∙ unit_for-push_other switches page (k % 256) unit old (λ same. other (omega arith)))
              | inr away ↦ switched_elsewhere inode switches k old away ∙ sym (switched_elsewhere inode more k old away)
            ]
            ∙ sym right
      ]

  pub set_switched : set (switched_pages inode switches pages) (256 * inode + page) unit ≡ switched_pages inode (switches ++ (page, unit) ∷ []) pages
  set_switched =
      let one = switched_pages inode switches pages in
      let size = length-map_from (switched_page inode switches) 0 pages in
      let sized = length-set one (256 * inode + page) unit in
      same_pages (set one (256 * inode + page) unit) (switched_pages inode (switches ++ (page, unit) ∷ []) pages)
      (sized ∙ size ∙ sym (length-map_from (switched_page inode (switches ++ (page, unit) ∷ [])) 0 pages))
      (λ k low. set_at k (omega arith))

pub named_more : (switches : List (ℕ × Option ℕ)) (i : ℕ) (unit : Option ℕ) → i < length switches → unit_of switches i ≡ unit → named_units (take (i + 1) switches) ≡ named_units (take i switches) + used_by unit
named_more switches i None below is =
    let same : named_units (take (i + 1) switches) ≡ named_units (take i switches) = count_by_more_no (λ (c : ℕ × Option ℕ). is_some c.1) switches i (0, None) below (ap is_some is) in
    omega arith
named_more switches i (Some u) below is = count_by_more_yes (λ (c : ℕ × Option ℕ). is_some c.1) switches i (0, None) below (ap is_some is)

module _ (old : TableState) (was : IsTable old) {inode : ℕ} {switches : List (ℕ × Option ℕ)} {free : List Bool} (can : CanSwitch old.units old.pages free inode switches) where
  pub stepped_none : AreTaken old.pages free → AreStepped inode [] old free old free
  stepped_none taken = record {
    pages = ap (λ (ps : List (Option ℕ)). record old { pages = ps }) (same_pages old.pages (switched_pages inode [] old.pages) (sym (length-map_from (switched_page inode []) 0 old.pages)) (λ k low. sym (get_or-switched inode [] old.pages k low ∙ nothing k (get_or old.pages k None))));
    is_table = was;
    all = refl;
    taken = taken;
    held = λ unit is _. is;
    known = omega arith;
  }
    where
      nothing : (k : ℕ) (page : Option ℕ) → switched_page inode [] k page ≡ page
      nothing k page = elim (k / 256 == inode) as (λ b. (if b then page else page) ≡ page) [ true ↦ refl | false ↦ refl ]

  module _ (i : ℕ) (lt : i < length switches) (table : TableState) (left : List Bool) (step : AreStepped inode (take i switches) old free table left) where
    abbrev page : ℕ
    page = page_of switches i

    abbrev entry : ℕ
    entry = 256 * inode + page_of switches i

    small : page_of switches i < 256
    small = can.are.within i (page_of switches i) (unit_of switches i) (switch_is switches i lt)

    units_same : table.units ≡ old.units
    units_same = ap (λ (t : TableState). t.units) step.pages

    pages_same : table.pages ≡ switched_pages inode (take i switches) old.pages
    pages_same = ap (λ (t : TableState). t.pages) step.pages

    -- none of the first ones is of this page
    fresh : (j : ℕ) (u : Option ℕ) → IsSwitch (take i switches) j (page_of switches i) u → ⊥
    fresh j u is =
        let there = switch_take switches i j (page_of switches i) u is in
        let same = can.are.distinct j i (page_of switches i) u (unit_of switches i) there.1 (switch_is switches i lt) in
        omega (arith, there.0)

    on_before : (e unit : ℕ) → IsOn table.pages e unit → ((j : ℕ) × (e / 256 ≡ inode) × IsSwitch (take i switches) j (e % 256) (Some unit)) ⊎ IsOn old.pages e unit
    on_before e unit on = on_switched inode (take i switches) old.pages e unit (subst (λ (ps : List (Option ℕ)). IsOn ps e unit) pages_same on)

    -- where the page was before
    left_unit : (unit : ℕ) → IsOn table.pages entry unit → IsOn old.pages entry unit
    left_unit unit on =
        elim (on_before entry unit on) [
          | inl found ↦
              let e : (256 * inode + page_of switches i) % 256 ≡ page_of switches i = omega (arith, small) in
              absurd (fresh found.0 (Some unit) (found.2 ∙ ap (λ (p : ℕ). Some (p, Some unit)) e))
          | inr there ↦ there
        ]

    new_unit : (unit : ℕ) → unit_of switches i ≡ Some unit → IsTaken free unit × IsVacant old.pages unit
    new_unit unit is = can.held i (page_of switches i) unit (switch_is switches i lt ∙ ap (λ (o : Option ℕ). Some (page_of switches i, o)) is)

    may_take_by : (o : Option ℕ) → unit_of switches i ≡ o → MayTake table entry o
    may_take_by None is = tt
    may_take_by (Some u) is =
        let here = switch_is switches i lt ∙ ap (λ (o : Option ℕ). Some (page_of switches i, o)) is in (
          omega (arith, can.are.below i (page_of switches i) u here, units_same),
          λ other on. elim (on_before other u on) as (λ _. other ≡ entry) [
            | inl found ↦
                let there = switch_take switches i found.0 (other % 256) (Some u) found.2 in
                let same = can.are.own found.0 i (other % 256) (page_of switches i) u there.1 here in
                absurd (omega (arith, there.0))
            | inr there ↦ absurd ((new_unit u is).1 other there)
          ],
        )

    pub may_take : MayTake table entry (unit_of switches i)
    may_take = may_take_by (unit_of switches i) refl

    module _ (next : TableState) (is : next ≡ record table { pages = set table.pages entry (unit_of switches i) }) (is_table : IsTable next) where
      next_pages : next ≡ record old { pages = switched_pages inode (take (i + 1) switches) old.pages }
      next_pages =
          let within : 256 * inode + page_of switches i < length old.pages = omega (arith, was.all, small) in
          is
          ∙ ap (λ (t : TableState). record t { pages = set t.pages entry (unit_of switches i) }) step.pages
          ∙ ap (λ (ps : List (Option ℕ)). record old { pages = ps })
          (set_switched inode (take i switches) old.pages (page_of switches i) (unit_of switches i) small within fresh ∙ ap (λ (ss : List (ℕ × Option ℕ)). switched_pages inode ss old.pages) (sym (take_more switches i (0, None) lt)))

      -- a page is on its new unit, which was held
      held_now : (unit : ℕ) → unit_of switches i ≡ Some unit → IsTaken left unit
      held_now unit to = let new = new_unit unit to in step.held unit new.0 new.1

      -- what is said of the pages is said of the table
      of_next : (P : List (Option ℕ) → Type 0) → P (set table.pages entry (unit_of switches i)) → P next.pages
      of_next P holds = subst (λ (t : TableState). P t.pages) (sym is) holds

      pub stepped_hole : slice_get table.pages entry ≡ Some None → AreStepped inode (take (i + 1) switches) old free next left
      stepped_hole at = record {
        pages = next_pages;
        is_table = is_table;
        all = step.all;
        taken = of_next (λ ps. AreTaken ps left) (switched_taken table.pages entry (unit_of switches i) left step.taken held_now);
        held = step.held;
        known =
            of_next (λ ps. known_units ps left ≡ known_units table.pages left + used_by (unit_of switches i)) (switched_known table.pages entry (unit_of switches i) left step.taken held_now at)
            ∙ omega (arith, step.known, named_more switches i (unit_of switches i) lt refl);
      }

      module _ (a : ℕ) (at : slice_get table.pages entry ≡ Some (Some a)) where
        pub left_taken : IsTaken left a
        left_taken = step.taken entry a at

        not_left : (u : ℕ) → IsVacant old.pages u → u ≢ a
        not_left u vacant same = vacant entry (left_unit u (at ∙ ap (λ (x : ℕ). Some (Some x)) (sym same)))

        alone : (e : ℕ) → IsOn table.pages e a → e ≡ entry
        alone e on = step.is_table.apart e entry a on at

        other_unit : (u : ℕ) → unit_of switches i ≡ Some u → u ≢ a
        other_unit u to = not_left u (new_unit u to).1

        pub stepped_unit : AreStepped inode (take (i + 1) switches) old free next (set left a true)
        stepped_unit = record {
          pages = next_pages;
          is_table = is_table;
          all = length-set left a true ∙ step.all;
          taken = of_next (λ ps. AreTaken ps (set left a true)) (given_taken table.pages entry (unit_of switches i) left step.taken held_now a at alone other_unit);
          held = λ unit taken vacant. still_taken left a unit true (not_left unit vacant) (step.held unit taken vacant);
          known =
              of_next (λ ps. known_units ps (set left a true) ≡ known_units table.pages left + used_by (unit_of switches i)) (given_known table.pages entry (unit_of switches i) left step.taken held_now a at alone other_unit)
              ∙ omega (arith, step.known, named_more switches i (unit_of switches i) lt refl);
        }
