-- The tables after pages of an inode were switched.
use Rattle.std.proofs.Common.{◌≡◌, inl, inr, ℕ, zero, suc, ◌+◌, ◌*◌, ◌/◌, ◌%◌, ◌<◌, ◌≤◌, ◌==◌, ◌&&◌, Bool, true, false, List, [], Option, Some, None, is_some, is_none, length, get_or, map, set, take, slice_get, if◌then◌else◌, refl, sym, ap, ◌∙◌, subst, arith}
use Rattle.std.proofs.lemmas.List.{set-get_or, take_all, take_more}
use Rattle.std.proofs.lemmas.List.Sums.{count_by_more_yes, count_by_more_no}
use Rattle.std.proofs.lemmas.Option.{same_Some, slice_get-get_or}
use Rattle.nvm_base.specs.declared.files.FileEntry.{FileEntry}
use Rattle.nvm_model.proofs.NumberedLemmas.{length-map_from}
use Rattle.inode_table.specs.Slots as names
use Rattle.inode_table.specs.Slots.{pages_at, pages_of}
use Rattle.page_table.specs.Pages.{IsOn, IsWithinCounts, used_by, used_pages}
use Rattle.free_pool.proofs.BesideLemmas.{used_after}
use Rattle.file_journal.specs.Calls.{MaySet}
use Rattle.file_journal.specs.Changes.{changed_tables, filled_holes, switched_page, switched_pages, unit_for}
use Rattle.file_journal.specs.Switches.{AreHeld, AreSwitches, ArePagesOf, IsSwitch}
use Rattle.file_journal.specs.Tables.{AreTables, Tables, unit_at}
use Rattle.file_journal.proofs.HoldLemmas.{get_or-switched, switched_here}
use Rattle.file_journal.proofs.HoleLemmas.{used_fewer}
use Rattle.file_journal.proofs.ReplaceLemmas.{get_or-counts}
use Rattle.file_journal.proofs.StepLemmas.{on_switched, set_switched, switch_take}
use Rattle.file_journal.proofs.SwitchLemmas.{page_of, switch_is, unit_for_by, unit_of}

-- a page that gets a unit uses one more where it was a hole, and that is counted
filled_one : (unit old : Option ℕ) (n m : ℕ) → ((is_some unit && is_none old) ≡ true → m ≡ n + 1) → ((is_some unit && is_none old) ≡ false → m ≡ n) → used_by unit + n ≤ used_by old + m
filled_one None None n m more same = let e = same refl in omega arith
filled_one None (Some a) n m more same = let e = same refl in omega arith
filled_one (Some u) None n m more same = let e = more refl in omega arith
filled_one (Some u) (Some a) n m more same = let e = same refl in omega arith

module _ (size inode : ℕ) (below : inode < 64) (t : Tables) (are : AreTables size t) (switches : List (ℕ × Option ℕ)) (ok : AreSwitches size switches) where
  module _ (i : ℕ) (lt : i < length switches) where
    small : page_of switches i < 256
    small = ok.within i (page_of switches i) (unit_of switches i) (switch_is switches i lt)

    fresh : (j : ℕ) (u : Option ℕ) → IsSwitch (take i switches) j (page_of switches i) u → ⊥
    fresh j u is =
        let there = switch_take switches i j (page_of switches i) u is in
        let same = ok.distinct j i (page_of switches i) u (unit_of switches i) there.1 (switch_is switches i lt) in
        omega (arith, there.0)

    inside : 256 * inode + page_of switches i < length t.pages
    inside = omega (arith, are.table.all, small)

    -- it was as it is before the switches
    as_before : get_or (switched_pages inode (take i switches) t.pages) (256 * inode + page_of switches i) None ≡ unit_at t inode (page_of switches i)
    as_before =
        let entry = 256 * inode + page_of switches i in
        let e1 : entry / 256 ≡ inode = omega (arith, small) in
        let e2 : entry % 256 ≡ page_of switches i = omega (arith, small) in
        let old = unit_at t inode (page_of switches i) in
        get_or-switched inode (take i switches) t.pages entry inside
        ∙ switched_here inode (take i switches) entry old e1
        ∙ ap (λ p. unit_for (take i switches) p old) e2
        ∙ elim (unit_for_by (take i switches) (page_of switches i) old) as (λ _. unit_for (take i switches) (page_of switches i) old ≡ old) [
          | inl found ↦ absurd (fresh found.0 (unit_for (take i switches) (page_of switches i) old) found.1)
          | inr kept ↦ kept
        ]

    one_more : used_pages (switched_pages inode (take (i + 1) switches) t.pages) + used_by (unit_at t inode (page_of switches i)) ≡ used_pages (switched_pages inode (take i switches) t.pages) + used_by (unit_of switches i)
    one_more =
        let entry = 256 * inode + page_of switches i in
        let before = switched_pages inode (take i switches) t.pages in
        let size_ = length-map_from (switched_page inode (take i switches)) 0 t.pages in
        let was : slice_get before entry ≡ Some (unit_at t inode (page_of switches i)) =
        slice_get-get_or before entry None (omega (arith, size_, inside)) ∙ ap (λ (o : Option ℕ). Some o) as_before in
        subst (λ (ps : List (Option ℕ)). used_pages ps + used_by (unit_at t inode (page_of switches i)) ≡ used_pages before + used_by (unit_of switches i))
        (set_switched inode (take i switches) t.pages (page_of switches i) (unit_of switches i) small inside fresh ∙ ap (λ (ss : List (ℕ × Option ℕ)). switched_pages inode ss t.pages) (sym (take_more switches i (0, None) lt)))
        (used_after before entry (unit_of switches i) (unit_at t inode (page_of switches i)) was)

    filled_more : used_by (unit_of switches i) + filled_holes t inode (take i switches) ≤ used_by (unit_at t inode (page_of switches i)) + filled_holes t inode (take (i + 1) switches)
    filled_more =
        let p : ℕ × Option ℕ → Bool = λ c. is_some c.1 && is_none (unit_at t inode c.0) in
        filled_one (unit_of switches i) (unit_at t inode (page_of switches i)) (filled_holes t inode (take i switches)) (filled_holes t inode (take (i + 1) switches))
        (λ fills. count_by_more_yes p switches i (0, None) lt fills)
        (λ none. count_by_more_no p switches i (0, None) lt none)

  used_filled : (i : ℕ) → i ≤ length switches → used_pages (switched_pages inode (take i switches) t.pages) ≤ used_pages t.pages + filled_holes t inode (take i switches)
  used_filled zero few =
      let none = used_fewer (switched_page inode []) (λ k page. inr (nothing k page)) 0 t.pages in
      omega (arith, none)
    where
      nothing : (k : ℕ) (page : Option ℕ) → switched_page inode [] k page ≡ page
      nothing k page = elim (k / 256 == inode) as (λ b. (if b then page else page) ≡ page) [ true ↦ refl | false ↦ refl ]
  used_filled (suc i) few =
      let next : suc i ≡ i + 1 = omega arith in
      let before = used_filled i (omega arith) in
      rw next (omega (arith, before, one_more i (omega arith), filled_more i (omega arith)))

  module _ (free : List Bool) (within : ArePagesOf (pages_at t.files inode) switches) (held : AreHeld t.pages free switches) where
    units_apart : (a b unit : ℕ) → IsOn (switched_pages inode switches t.pages) a unit → IsOn (switched_pages inode switches t.pages) b unit → a ≡ b
    units_apart a b unit on_a on_b =
        elim (on_switched inode switches t.pages a unit on_a) as (λ _. a ≡ b) [
          | inl one ↦ elim (on_switched inode switches t.pages b unit on_b) as (λ _. a ≡ b) [
            | inl two ↦
                let same = ok.own one.0 two.0 (a % 256) (b % 256) unit one.2 two.2 in
                let pair : (a % 256, Some unit) ≡ (b % 256, Some unit) = same_Some (a % 256, Some unit) (b % 256, Some unit) (sym one.2 ∙ ap (λ k. slice_get switches k) same ∙ two.2) in
                let page : a % 256 ≡ b % 256 = ap (λ (c : ℕ × Option ℕ). c.0) pair in
                omega (arith, one.1, two.1, page)
            | inr there ↦ absurd ((held one.0 (a % 256) unit one.2).1 b there)
          ]
          | inr there_a ↦ elim (on_switched inode switches t.pages b unit on_b) as (λ _. a ≡ b) [
            | inl two ↦ absurd ((held two.0 (b % 256) unit two.2).1 a there_a)
            | inr there_b ↦ are.table.apart a b unit there_a there_b
          ]
        ]

    units_within : (e unit : ℕ) → IsOn (switched_pages inode switches t.pages) e unit → unit < size
    units_within e unit on =
        elim (on_switched inode switches t.pages e unit on) [
          | inl one ↦ ok.below one.0 (e % 256) unit one.2
          | inr there ↦ are.table.within e unit there
        ]

    still_counted : IsWithinCounts (map pages_of t.files) (switched_pages inode switches t.pages)
    still_counted e unit on =
        elim (on_switched inode switches t.pages e unit on) as (λ _. e % 256 < get_or (map pages_of t.files) (e / 256) 0) [
          | inl one ↦
              subst (λ n. e % 256 < n) (sym (get_or-counts t.files (e / 256) ∙ ap (λ k. pages_of (get_or t.files k None)) one.1))
              (within one.0 (e % 256) (Some unit) one.2)
          | inr there ↦ are.counted e unit there
        ]

    pub switched_are : (slot : Option FileEntry) → slot ≡ get_or t.files inode None → used_pages t.pages + filled_holes t inode switches + 16 ≤ size → AreTables size (changed_tables inode slot switches t)
    switched_are slot slot_is room =
        let same : set t.files inode slot ≡ t.files = ap (set t.files inode) slot_is ∙ set-get_or t.files inode None in
        let all = subst (λ (ss : List (ℕ × Option ℕ)). used_pages (switched_pages inode ss t.pages) ≤ used_pages t.pages + filled_holes t inode ss) (take_all (length switches) switches (omega arith)) (used_filled (length switches) (omega arith)) in
        record {
          names = subst names.IsTable (sym same) are.names;
          table = record {
            few = are.table.few;
            all = length-map_from (switched_page inode switches) 0 t.pages ∙ are.table.all;
            within = units_within;
            apart = units_apart;
          };
          counted = subst (λ (fs : List (Option FileEntry)). IsWithinCounts (map pages_of fs) (switched_pages inode switches t.pages)) (sym same) still_counted;
          room = omega (arith, all, room);
        }

-- the slot that an inode is may be set again
pub slot_holds : (files : List (Option FileEntry)) (inode : ℕ) (slot : Option FileEntry) → names.IsTable files → inode < 64 → slot ≡ get_or files inode None → MaySet files inode slot
slot_holds files inode None are below is = record { name = tt; pages = tt }
slot_holds files inode (Some file) are below is =
    let here = slice_get-get_or files inode None (omega (arith, are.all)) ∙ ap (λ (f : Option FileEntry). Some f) (sym is) in
    record { name = λ other f at same. are.apart other inode f file at here same; pages = are.pages inode file here }

pub set_again : (inode : ℕ) (slot : Option FileEntry) (switches : List (ℕ × Option ℕ)) (t : Tables) → slot ≡ get_or t.files inode None → changed_tables inode slot switches t ≡ record t { pages = switched_pages inode switches t.pages }
set_again inode slot switches t is = ap (λ (fs : List (Option FileEntry)). let after : Tables = record { files = fs; pages = switched_pages inode switches t.pages } in after) (ap (set t.files inode) is ∙ set-get_or t.files inode None)
