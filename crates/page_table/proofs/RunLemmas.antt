-- The pages that are joined to a page are those of its run.
use Rattle.std.proofs.Common.{◌≡◌, ◌<◌, ◌≤◌, ◌+◌, ◌-◌, ◌*◌, ◌&&◌, ℕ, zero, suc, Bool, true, false, List, [], ◌∷◌, ◌++◌, Option, Some, None, cond, drop, get_or, length, take, option_map, refl, slice_get, sym, ap, ap₂, subst, ◌∙◌, inl, inr, arith}
use Rattle.std.specs.List.{filter, list_all, range_with_len}
use Rattle.std.proofs.lemmas.Bool.{and_from, and_left, and_right, cases_lt, eq-eqb, ne_eqb}
use Rattle.std.proofs.lemmas.List.{append-nil, get_or-drop, get_or-take, length-drop, length-take}
use Rattle.std.proofs.lemmas.List.Elements.{filter-append}
use Rattle.std.proofs.lemmas.List.Folds.{list_all_at}
use Rattle.std.proofs.lemmas.List.FromFn.{get_or-range_with_len, length-range_with_len}
use Rattle.std.proofs.lemmas.Option.{get_or_from_slice_get, slice_get-get_or}
use Rattle.page_table.specs.declared.runs.Run.{Run}
use Rattle.page_table.specs.Pages.{IsOn}
use Rattle.page_table.specs.Runs.{IsRun, are_joined, is_next, joined_pages, run_among, run_of, run_over}

-- numbers from one on are those up to another, and those from there on
range-split : (a n m : ℕ) → range_with_len a (n + m) ≡ range_with_len a n ++ range_with_len (a + n) m
range-split a zero m =
    let none : 0 + m ≡ m = omega arith in
    let here : a ≡ a + 0 = omega arith in
    ap₂ range_with_len here none
range-split a (suc n) m =
    let more : suc n + m ≡ suc (n + m) = omega arith in
    let past : a + 1 + n ≡ a + suc n = omega arith in
    ap (range_with_len a) more ∙ ap (λ (ns : List ℕ). a ∷ ns) (range-split (a + 1) n m ∙ ap (λ (i : ℕ). range_with_len (a + 1) n ++ range_with_len i m) past)

-- a test that passes all of them, or none
module _ (test : ℕ → Bool) where
  filter-every : (a n : ℕ) → ((k : ℕ) → a ≤ k → k < a + n → test k ≡ true) → filter test (range_with_len a n) ≡ range_with_len a n
  filter-every a zero passes = refl
  filter-every a (suc n) passes =
      ap (λ (b : Bool). cond b (a ∷ filter test (range_with_len (a + 1) n)) (filter test (range_with_len (a + 1) n))) (passes a (omega arith) (omega arith))
      ∙ ap (λ (ns : List ℕ). a ∷ ns) (filter-every (a + 1) n (λ k from below. passes k (omega arith) (omega arith)))

  filter-none : (a n : ℕ) → ((k : ℕ) → a ≤ k → k < a + n → test k ≡ false) → filter test (range_with_len a n) ≡ []
  filter-none a zero fails = refl
  filter-none a (suc n) fails =
      ap (λ (b : Bool). cond b (a ∷ filter test (range_with_len (a + 1) n)) (filter test (range_with_len (a + 1) n))) (fails a (omega arith) (omega arith))
      ∙ filter-none (a + 1) n (λ k from below. fails k (omega arith) (omega arith))

  all_in-range : (a n : ℕ) → ((k : ℕ) → a ≤ k → k < a + n → test k ≡ true) → list_all test (range_with_len a n) ≡ true
  all_in-range a zero passes = refl
  all_in-range a (suc n) passes = and_from (test a) _ (passes a (omega arith) (omega arith)) (all_in-range (a + 1) n (λ k from below. passes k (omega arith) (omega arith)))

  -- it passes those of a stretch alone
  filter-stretch : (first len size : ℕ) → first + len ≤ size → ((k : ℕ) → first ≤ k → k < first + len → test k ≡ true) → ((k : ℕ) → k < first → test k ≡ false)
      → ((k : ℕ) → first + len ≤ k → k < size → test k ≡ false) → filter test (range_with_len 0 size) ≡ range_with_len first len
  filter-stretch first len size within passes before after =
      let rest = size - (first + len) in
      let whole : size ≡ first + (len + rest) = omega (arith, within) in
      let at : 0 + first ≡ first = omega arith in
      let split =
      ap (range_with_len 0) whole ∙ range-split 0 first (len + rest)
      ∙ ap (λ (i : ℕ). range_with_len 0 first ++ range_with_len i (len + rest)) at
      ∙ ap (λ (ns : List ℕ). range_with_len 0 first ++ ns) (range-split first len rest) in
      ap (filter test) split ∙ filter-append test (range_with_len 0 first) (range_with_len first len ++ range_with_len (first + len) rest)
      ∙ ap (λ (ns : List ℕ). ns ++ filter test (range_with_len first len ++ range_with_len (first + len) rest)) (filter-none 0 first (λ k _ below. before k (omega arith)))
      ∙ filter-append test (range_with_len first len) (range_with_len (first + len) rest)
      ∙ ap₂ ◌++◌ (filter-every first len passes) (filter-none (first + len) rest (λ k from below. after k from (omega (arith, within))))
      ∙ append-nil (range_with_len first len)

-- a page is on the unit after another's
next-to : (a b : Option ℕ) (unit after : ℕ) → a ≡ Some unit → b ≡ Some after → unit + 1 ≡ after → is_next a b ≡ true
next-to a b unit after is_a is_b same = ap₂ is_next is_a is_b ∙ eq-eqb (unit + 1) after same

no_next-from : (a : Option ℕ) (after : ℕ) → ((unit : ℕ) → unit + 1 ≡ after → a ≡ Some unit → ⊥) → is_next a (Some after) ≡ false
no_next-from None after none = refl
no_next-from (Some unit) after none = ne_eqb (unit + 1) after (λ same. none unit same refl)

no_next-to : (unit : ℕ) (b : Option ℕ) → (b ≡ Some (unit + 1) → ⊥) → is_next (Some unit) b ≡ false
no_next-to unit None none = refl
no_next-to unit (Some after) none = ne_eqb (unit + 1) after (λ same. none (ap (λ (u : ℕ). Some u) (sym same)))

no_next-hole : (a : Option ℕ) → is_next a None ≡ false
no_next-hole None = refl
no_next-hole (Some unit) = refl

-- a stretch of pages around one, joined to each other and to no page beside them
module _ (pages : List (Option ℕ)) (page first len : ℕ) (from : first ≤ page) (to : page < first + len) (within : first + len ≤ length pages) where
  unjoined : (a b n : ℕ) → a ≤ n → n < b → is_next (get_or pages n None) (get_or pages (n + 1) None) ≡ false → are_joined pages a b ≡ false
  unjoined a b n low high apart =
      let i = n - a in
      let at : a + i ≡ n = omega (arith, low) in
      list_all_at (λ n. is_next (get_or pages n None) (get_or pages (n + 1) None)) (range_with_len a (b - a)) i 0 (omega (arith, length-range_with_len a (b - a), low, high))
      (ap (λ (k : ℕ). is_next (get_or pages k None) (get_or pages (k + 1) None)) (get_or-range_with_len a (b - a) i 0 (omega (arith, low, high)) ∙ at) ∙ apart)

  module _ (inside : (n : ℕ) → first ≤ n → n + 1 < first + len → is_next (get_or pages n None) (get_or pages (n + 1) None) ≡ true)
      (before : (n : ℕ) → n + 1 ≡ first → is_next (get_or pages n None) (get_or pages (n + 1) None) ≡ false)
      (after : (n : ℕ) → n + 1 ≡ first + len → n + 1 < length pages → is_next (get_or pages n None) (get_or pages (n + 1) None) ≡ false) where
    joined : (a b : ℕ) → first ≤ a → b < first + len → are_joined pages a b ≡ true
    joined a b low high = all_in-range (λ n. is_next (get_or pages n None) (get_or pages (n + 1) None)) a (b - a) (λ k from below. inside k (omega (arith, low)) (omega (arith, from, below, high)))

    joined-stretch : joined_pages pages page ≡ range_with_len first len
    joined-stretch =
        filter-stretch (λ other. are_joined pages other page && are_joined pages page other) first len (length pages) within
        (λ k low high. and_from _ _ (joined k page low to) (joined page k from high))
        (λ k below.
        let n = first - 1 in
        and_left _ _ (unjoined k page n (omega (arith, below)) (omega (arith, below, from)) (before n (omega (arith, below)))))
        (λ k past size.
        let n = first + len - 1 in
        and_right _ _ (unjoined page k n (omega (arith, to)) (omega (arith, past, to)) (after n (omega (arith, to)) (omega (arith, past, size, to)))))

    over-stretch : (unit : Option ℕ) → get_or pages first None ≡ unit → run_among pages page ≡ option_map (λ (u : ℕ). let r : Run = record { page = first; unit = u; len = len } in r) unit
    over-stretch unit is =
        let head : get_or (range_with_len first len) 0 0 ≡ first = get_or-range_with_len first len 0 0 (omega (arith, from, to)) ∙ omega arith in
        ap (run_over pages) joined-stretch
        ∙ ap₂ (λ (h l : ℕ). option_map (λ (u : ℕ). let r : Run = record { page = h; unit = u; len = l } in r) (get_or pages h None)) head (length-range_with_len first len)
        ∙ ap (option_map (λ (u : ℕ). let r : Run = record { page = first; unit = u; len = len } in r)) is

-- a page of an inode is that of the table
module _ (pages : List (Option ℕ)) (inode : ℕ) (all : length pages ≡ 16384) (small : inode < 64) where
  own_length : length (take 256 (drop (256 * inode) pages)) ≡ 256
  own_length = omega (arith, length-take 256 (drop (256 * inode) pages), length-drop (256 * inode) pages, all, small)

  own_page : (n : ℕ) → n < 256 → get_or (take 256 (drop (256 * inode) pages)) n None ≡ get_or pages (256 * inode + n) None
  own_page n below = get_or-take 256 (drop (256 * inode) pages) n None below ∙ get_or-drop (256 * inode) pages n None

  own_on : (n unit : ℕ) → n < 256 → IsOn pages (256 * inode + n) unit → get_or (take 256 (drop (256 * inode) pages)) n None ≡ Some unit
  own_on n unit below on = own_page n below ∙ get_or_from_slice_get pages (256 * inode + n) (Some unit) None on

  on_own : (n unit : ℕ) → n < 256 → get_or (take 256 (drop (256 * inode) pages)) n None ≡ Some unit → IsOn pages (256 * inode + n) unit
  on_own n unit below is = slice_get-get_or pages (256 * inode + n) None (omega (arith, all, small, below)) ∙ ap (λ (p : Option ℕ). Some p) (sym (own_page n below) ∙ is)

  module _ (page : ℕ) (run : Run) (is : IsRun pages inode page run) where
    at : (n : ℕ) → run.page ≤ n → n < run.page + run.len → get_or (take 256 (drop (256 * inode) pages)) n None ≡ Some (run.unit + (n - run.page))
    at n low high =
        let k = n - run.page in
        let same : run.page + k ≡ n = omega (arith, low) in
        own_on n (run.unit + k) (omega (arith, high, is.within)) (subst (λ (i : ℕ). IsOn pages (256 * inode + i) (run.unit + k)) same (is.on k (omega (arith, low, high))))

    pub run_found : Some run ≡ run_of pages inode page
    unfolding run_of
    run_found =
        let ps = take 256 (drop (256 * inode) pages) in
        let none : run.unit + (run.page - run.page) ≡ run.unit = omega arith in
        sym (over-stretch ps page run.page run.len is.from is.to (omega (arith, own_length, is.within))
        (λ n low high. next-to _ _ (run.unit + (n - run.page)) (run.unit + (n + 1 - run.page)) (at n low (omega (arith, high))) (at (n + 1) (omega (arith, low)) high) (omega (arith, low)))
        (λ n here.
        let now : n + 1 ≡ run.page = here in
        let first : get_or ps (n + 1) None ≡ Some run.unit = ap (λ (i : ℕ). get_or ps i None) now ∙ at run.page (omega arith) (omega (arith, is.from, is.to)) ∙ ap (λ (u : ℕ). Some u) none in
        ap (is_next (get_or ps n None)) first
        ∙ no_next-from (get_or ps n None) run.unit (λ unit same on. is.first n unit here same (on_own n unit (omega (arith, here, is.from, is.to, is.within)) on)))
        (λ n here below.
        let k = n - run.page in
        let next : run.unit + k + 1 ≡ run.unit + run.len = omega (arith, here, is.from, is.to) in
        ap (λ (a : Option ℕ). is_next a (get_or ps (n + 1) None)) (at n (omega (arith, here, is.from, is.to)) (omega (arith, here)))
        ∙ no_next-to (run.unit + k) (get_or ps (n + 1) None) (λ on.
        is.last (omega (arith, here, below, own_length))
        (subst (λ (i : ℕ). IsOn pages (256 * inode + i) (run.unit + run.len)) here
        (on_own (n + 1) (run.unit + run.len) (omega (arith, below, own_length)) (on ∙ ap (λ (u : ℕ). Some u) next)))))
        (Some run.unit) (at run.page (omega arith) (omega (arith, is.from, is.to)) ∙ ap (λ (u : ℕ). Some u) none))

  pub run_none : (page : ℕ) → page < 256 → slice_get pages (256 * inode + page) ≡ Some None → None ≡ run_of pages inode page
  unfolding run_of
  run_none page below hole =
      let ps = take 256 (drop (256 * inode) pages) in
      let here : get_or ps page None ≡ None = own_page page below ∙ get_or_from_slice_get pages (256 * inode + page) None None hole in
      sym (over-stretch ps page page 1 (omega arith) (omega arith) (omega (arith, own_length, below))
      (λ n low high. absurd (omega (arith, low, high)))
      (λ n same. ap (λ (i : ℕ). is_next (get_or ps n None) (get_or ps i None)) same ∙ ap (is_next (get_or ps n None)) here ∙ no_next-hole (get_or ps n None))
      (λ n same past.
      let now : n ≡ page = omega (arith, same) in
      ap (λ (a : Option ℕ). is_next a (get_or ps (n + 1) None)) (ap (λ (i : ℕ). get_or ps i None) now ∙ here))
      None here)

-- the pages that are joined to a page, before it and after it
module _ (pages : List (Option ℕ)) (inode page unit before after : ℕ) where
  moved : (a b u v : ℕ) → a ≡ b → u ≡ v → IsOn pages (256 * inode + a) u → IsOn pages (256 * inode + b) v
  moved a b u v same units on = subst (λ (w : ℕ). IsOn pages (256 * inode + b) w) units (subst (λ (i : ℕ). IsOn pages (256 * inode + i) u) same on)

  pub run_around : before ≤ page → before ≤ unit → ((k : ℕ) → k ≤ before → IsOn pages (256 * inode + (page - k)) (unit - k))
      → (before < page → before < unit → IsOn pages (256 * inode + (page - before - 1)) (unit - before - 1) → ⊥)
      → page + after < 256 → ((k : ℕ) → k ≤ after → IsOn pages (256 * inode + (page + k)) (unit + k))
      → (page + after + 1 < 256 → IsOn pages (256 * inode + (page + after + 1)) (unit + after + 1) → ⊥)
      → IsRun pages inode page (record { page = page - before; unit = unit - before; len = before + 1 + after })
  run_around pages_before units_before joined_before end_before within joined_after end_after = record {
    from = omega arith;
    to = omega (arith, pages_before);
    within = omega (arith, pages_before, within);
    on = λ k below. elim (cases_lt k before) [
      | inl low ↦ moved (page - (before - k)) (page - before + k) (unit - (before - k)) (unit - before + k) (omega (arith, low, pages_before)) (omega (arith, low, units_before)) (joined_before (before - k) (omega arith))
      | inr high ↦ moved (page + (k - before)) (page - before + k) (unit + (k - before)) (unit - before + k) (omega (arith, high, pages_before)) (omega (arith, high, units_before)) (joined_after (k - before) (omega (arith, high, below)))
    ];
    first = λ n u at up on. end_before (omega (arith, at)) (omega (arith, up)) (moved n (page - before - 1) u (unit - before - 1) (omega (arith, at)) (omega (arith, up)) on);
    last = λ below on. end_after (omega (arith, below, pages_before))
        (moved (page - before + (before + 1 + after)) (page + after + 1) (unit - before + (before + 1 + after)) (unit + after + 1) (omega (arith, pages_before)) (omega (arith, units_before)) on);
  }
