-- Units taken for holes, one after the other.
use Rattle.std.proofs.Common.{◌≡◌, ◌≢◌, ◌⊎◌, inl, inr, ℕ, zero, suc, ◌+◌, ◌<◌, ◌≤◌, Bool, true, false, not, is_some, List, [], ◌∷◌, ◌++◌, Option, Some, None, length, set, slice_get, slice_index_or, refl, sym, ap, subst, ◌∙◌, arith}
use Rattle.std.proofs.lemmas.Bool.{cases_lt, false≢true}
use Rattle.std.proofs.lemmas.List.{get_or-set_other, get_or-set_same, length-set}
use Rattle.std.proofs.lemmas.Option.{get_or_from_slice_get, same_Some, slice_get-get_or, slice_get_within}
use Rattle.free_pool.specs.Units.{IsFree, IsTaken, free_count}
use Rattle.free_pool.proofs.CountLemmas.{free_count-taken}
use Rattle.inode_table.specs.Slots.{pages_at}
use Rattle.nvm_model.specs.Page.{absent_among}
use Rattle.file_journal.specs.Object.{JournalState}
use Rattle.file_journal.specs.Switches.{IsSwitch}
use Rattle.file_journal.specs.Tables.{IsVacant, Tables, unit_at}
use Rattle.word_tables.specs.declared.geometry.Geometry.{Geometry}
use Rattle.file_pages.specs.Fresh.{AreFresh, GetsUnit, NeedsNone}
use Rattle.file_pages.specs.Object.{pages_there}
use Rattle.file_pages.proofs.HoleLemmas.{absent_more, page_there}

-- an item of a list with one more
pub pushed_is : {A : Type 0} (xs : List A) (c : A) (i : ℕ) (v : A) → slice_get (xs ++ c ∷ []) i ≡ Some v → (slice_get xs i ≡ Some v) ⊎ ((i ≡ length xs) × (c ≡ v))
pushed_is [] c zero v is = inr (refl, same_Some c v is)
pushed_is [] c (suc i) v is = cc
pushed_is (x ∷ xs) c zero v is = inl is
pushed_is (x ∷ xs) c (suc i) v is = elim (pushed_is xs c i v is) as (λ _. (slice_get xs i ≡ Some v) ⊎ ((suc i ≡ suc (length xs)) × (c ≡ v))) [ inl a ↦ inl a | inr b ↦ inr (ap suc b.0, b.1) ]

pub pushed_old : {A : Type 0} (xs : List A) (c : A) (i : ℕ) (v : A) → slice_get xs i ≡ Some v → slice_get (xs ++ c ∷ []) i ≡ Some v
pushed_old [] c i v is = cc
pushed_old (x ∷ xs) c zero v is = is
pushed_old (x ∷ xs) c (suc i) v is = pushed_old xs c i v is

pub pushed_new : {A : Type 0} (xs : List A) (c : A) → slice_get (xs ++ c ∷ []) (length xs) ≡ Some c
pushed_new [] c = refl
pushed_new (x ∷ xs) c = pushed_new xs c

pub length-pushed : {A : Type 0} (xs : List A) (c : A) → length (xs ++ c ∷ []) ≡ length xs + 1
length-pushed [] c = omega arith
length-pushed (x ∷ xs) c = let e = length-pushed xs c in omega (arith, e)

-- a taken unit stays so, and the one that is taken becomes so
pub taken_still : (free : List Bool) (u v : ℕ) → IsFree free u → IsTaken free v → IsTaken (set free u false) v
taken_still free u v is_free taken =
    let within = slice_get_within free v false taken in
    let apart : v ≢ u = λ same. absurd (false≢true (same_Some false true (sym taken ∙ ap (slice_get free) same ∙ is_free))) in
    slice_get-get_or (set free u false) v false (omega (arith, within, length-set free u false))
    ∙ ap (λ (b : Bool). Some b) (get_or-set_other free u v false false apart ∙ get_or_from_slice_get free v false false taken)

pub taken_now : (free : List Bool) (u : ℕ) → IsFree free u → IsTaken (set free u false) u
taken_now free u is_free =
    let within = slice_get_within free u true is_free in
    slice_get-get_or (set free u false) u false (omega (arith, within, length-set free u false)) ∙ ap (λ (b : Bool). Some b) (get_or-set_same free u false false within)

-- and given back it is as before
pub given_back : (free : List Bool) (u : ℕ) → IsFree free u → set (set free u false) u true ≡ free
given_back [] u is_free = cc
given_back (b ∷ bs) zero is_free = ap (λ (x : Bool). x ∷ bs) (sym (same_Some b true is_free))
given_back (b ∷ bs) (suc u) is_free = ap (λ (xs : List Bool). b ∷ xs) (given_back bs u is_free)

pub not_both : (free : List Bool) (u : ℕ) → IsFree free u → IsTaken free u → ⊥
not_both free u is_free taken = absurd (false≢true (same_Some false true (sym taken ∙ is_free)))

-- no more are absent among fewer
pub absent-within : (there : List Bool) (first k count : ℕ) → k ≤ count → absent_among there first k ≤ absent_among there first count
absent-within there first k zero within = let none : k ≡ 0 = omega (arith, within) in subst (λ i. absent_among there first i ≤ 0) (sym none) (omega arith)
absent-within there first k (suc count) within =
    elim (cases_lt count k) as (λ _. absent_among there first k ≤ absent_among there first (suc count)) [
      | inl last ↦ let same : suc count ≡ k = omega (arith, within, last) in subst (λ i. absent_among there first i ≤ absent_among there first (suc count)) same (omega arith)
      | inr before ↦ let rest = absent-within there first k count before in omega (arith, rest)
    ]

none_there : (o : Option ℕ) → o ≡ None → is_some o ≡ false
none_there o is = ap is_some is

some_there : (o : Option ℕ) → o ≢ None → is_some o ≡ true
some_there None out = absurd (out refl)
some_there (Some u) out = refl

module _ (s : JournalState) (inode first : ℕ) where
  pub fresh_none : AreFresh s inode first 0 [] s.free
  fresh_none = record {
    few = omega arith;
    number = refl;
    hole = λ i page unit is. cc;
    unit = λ i page unit is. cc;
    each = λ page from to is. absurd (omega (arith, from, to));
    distinct = λ i j page a b x y. cc;
    own = λ i j p q u x y. cc;
    held = λ i page unit is. cc;
  }

  module _ (k : ℕ) (within : first + k < pages_at s.tables.files inode) where
    absent_one : unit_at s.tables inode (first + k) ≡ None → absent_among (pages_there s inode) first k + 1 ≡ absent_among (pages_there s inode) first (k + 1)
    absent_one is =
        let there = sym (page_there s inode (first + k) within) ∙ none_there _ is in
        absent_more (pages_there s inode) first k 1 (not (slice_index_or (pages_there s inode) (first + k) true)) refl (λ _. refl)
        (λ out. absurd (false≢true (sym out ∙ ap not there)))

    absent_same : unit_at s.tables inode (first + k) ≢ None → absent_among (pages_there s inode) first k + 0 ≡ absent_among (pages_there s inode) first (k + 1)
    absent_same out =
        let there = sym (page_there s inode (first + k) within) ∙ some_there _ out in
        absent_more (pages_there s inode) first k 0 (not (slice_index_or (pages_there s inode) (first + k) true)) refl
        (λ is. absurd (false≢true (sym (ap not there) ∙ is))) (λ _. refl)

    -- a hole more is one of those that there are
    pub room_left : (count units : ℕ) → k < count → absent_among (pages_there s inode) first count ≤ units → unit_at s.tables inode (first + k) ≡ None
        → absent_among (pages_there s inode) first k + 1 ≤ units
    room_left count units below all is = omega (arith, absent_one is, absent-within (pages_there s inode) first (k + 1) count (omega (arith, below)), all)

    module _ (fresh : List (ℕ × Option ℕ)) (free : List Bool) (x : AreFresh s inode first k fresh free) where
      pub fresh_past : unit_at s.tables inode (first + k) ≢ None → AreFresh s inode first (k + 1) fresh free
      fresh_past out = record {
        few = omega (arith, x.few);
        number = x.number ∙ (let e = absent_same out in omega (arith, e));
        hole = λ i page unit is. let h = x.hole i page unit is in (h.0, omega (arith, h.1), h.2);
        unit = x.unit;
        each = λ page from to is. elim (cases_lt page (first + k)) as (λ _. (i : ℕ) × (u : ℕ) × IsSwitch fresh i page (Some u)) [
          | inl before ↦ x.each page from before is
          | inr last ↦ let same : page ≡ first + k = omega (arith, to, last) in absurd (out (sym (ap (unit_at s.tables inode) same) ∙ is))
        ];
        distinct = x.distinct;
        own = x.own;
        held = x.held;
      }

      module _ (u : ℕ) (is_hole : unit_at s.tables inode (first + k) ≡ None) (is_free : IsFree free u) (vacant : IsVacant s.tables.pages u) (below : u < s.geo.fpages) where
        abbrev switch : ℕ × Option ℕ
        switch = (first + k, Some u)

        -- no unit before is this one, and no page
        unit_apart : (j q : ℕ) → IsSwitch fresh j q (Some u) → ⊥
        unit_apart j q is = not_both free u is_free (x.held j q u is).0

        page_apart : (j : ℕ) (a : Option ℕ) → IsSwitch fresh j (first + k) a → ⊥
        page_apart j a is = let h = x.hole j (first + k) a is in omega (arith, h.1)

        page_is : (page : ℕ) (unit : Option ℕ) → ◌≡◌ {A = ℕ × Option ℕ} (first + k, Some u) (page, unit) → (first + k ≡ page) × (Some u ≡ unit)
        page_is page unit same = (ap (λ (c : ℕ × Option ℕ). c.0) same, ap (λ (c : ℕ × Option ℕ). c.1) same)

        pub fresh_more : AreFresh s inode first (k + 1) (fresh ++ (first + k, Some u) ∷ []) (set free u false)
        fresh_more = record {
          few = omega (arith, x.few, length-pushed fresh (first + k, Some u));
          number = length-pushed fresh (first + k, Some u) ∙ ap (λ n. n + 1) x.number ∙ absent_one is_hole;
          hole = λ i page unit is. elim (pushed_is fresh (first + k, Some u) i (page, unit) is) as (λ _. (first ≤ page) × (page < first + (k + 1)) × (unit_at s.tables inode page ≡ None)) [
            | inl old ↦ let h = x.hole i page unit old in (h.0, omega (arith, h.1), h.2)
            | inr new ↦ let p = page_is page unit new.1 in (omega (arith, p.0), omega (arith, p.0), sym (ap (unit_at s.tables inode) p.0) ∙ is_hole)
          ];
          unit = λ i page unit is. elim (pushed_is fresh (first + k, Some u) i (page, unit) is) as (λ _. (v : ℕ) × (unit ≡ Some v) × (v < s.geo.fpages)) [
            | inl old ↦ x.unit i page unit old
            | inr new ↦ (u, sym (page_is page unit new.1).1, below)
          ];
          each = λ page from to is. elim (cases_lt page (first + k)) as (λ _. (i : ℕ) × (v : ℕ) × IsSwitch (fresh ++ (first + k, Some u) ∷ []) i page (Some v)) [
            | inl before ↦ let e = x.each page from before is in (e.0, e.1, pushed_old fresh (first + k, Some u) e.0 (page, Some e.1) e.2)
            | inr last ↦
                let same : first + k ≡ page = omega (arith, to, last) in
                (length fresh, u, pushed_new fresh (first + k, Some u) ∙ ap (λ (p : ℕ). Some (p, Some u)) same)
          ];
          distinct = λ i j page a b one two. elim (pushed_is fresh (first + k, Some u) i (page, a) one) as (λ _. i ≡ j) [
            | inl i_old ↦ elim (pushed_is fresh (first + k, Some u) j (page, b) two) as (λ _. i ≡ j) [
              | inl j_old ↦ x.distinct i j page a b i_old j_old
              | inr j_new ↦ absurd (page_apart i a (subst (λ p. IsSwitch fresh i p a) (sym (page_is page b j_new.1).0) i_old))
            ]
            | inr i_new ↦ elim (pushed_is fresh (first + k, Some u) j (page, b) two) as (λ _. i ≡ j) [
              | inl j_old ↦ absurd (page_apart j b (subst (λ p. IsSwitch fresh j p b) (sym (page_is page a i_new.1).0) j_old))
              | inr j_new ↦ i_new.0 ∙ sym j_new.0
            ]
          ];
          own = λ i j p q v one two. elim (pushed_is fresh (first + k, Some u) i (p, Some v) one) as (λ _. i ≡ j) [
            | inl i_old ↦ elim (pushed_is fresh (first + k, Some u) j (q, Some v) two) as (λ _. i ≡ j) [
              | inl j_old ↦ x.own i j p q v i_old j_old
              | inr j_new ↦ absurd (unit_apart i p (subst (λ (o : Option ℕ). IsSwitch fresh i p o) (sym (page_is q (Some v) j_new.1).1) i_old))
            ]
            | inr i_new ↦ elim (pushed_is fresh (first + k, Some u) j (q, Some v) two) as (λ _. i ≡ j) [
              | inl j_old ↦ absurd (unit_apart j q (subst (λ (o : Option ℕ). IsSwitch fresh j q o) (sym (page_is p (Some v) i_new.1).1) j_old))
              | inr j_new ↦ i_new.0 ∙ sym j_new.0
            ]
          ];
          held = λ i page v is. elim (pushed_is fresh (first + k, Some u) i (page, Some v) is) as (λ _. IsTaken (set free u false) v × IsVacant s.tables.pages v) [
            | inl old ↦ let h = x.held i page v old in (taken_still free u v is_free h.0, h.1)
            | inr new ↦
                let same : u ≡ v = same_Some u v (page_is page (Some v) new.1).1 in
                (subst (IsTaken (set free u false)) same (taken_now free u is_free), subst (IsVacant s.tables.pages) same vacant)
          ];
        }

-- the same of a journal that differs in its free units alone
pub fresh_of : (s j : JournalState) (inode first count : ℕ) (fresh : List (ℕ × Option ℕ)) (f free : List Bool) → j ≡ record s { free = f } → AreFresh s inode first count fresh free → AreFresh j inode first count fresh free
fresh_of s j inode first count fresh f free same x =
    subst (λ (t : JournalState). AreFresh t inode first count fresh free) (sym same)
    (record { few = x.few; number = x.number; hole = x.hole; unit = x.unit; each = x.each; distinct = x.distinct; own = x.own; held = x.held })

-- one unit less is free
pub left_taken : (free after : List Bool) (u n all : ℕ) (fresh : List (ℕ × Option ℕ)) (c : ℕ × Option ℕ) → IsFree free u → after ≡ set free u false → free_count free + length fresh ≡ all → free_count after + length (fresh ++ c ∷ []) ≡ all
left_taken free after u n all fresh c is_free is left = omega (arith, left, free_count-taken free u is_free, ap free_count is, length-pushed fresh c)

-- the same of a journal that took them
module _ (s j next : JournalState) (inode first k : ℕ) (within : first + k < pages_at s.tables.files inode) (fresh after : List (ℕ × Option ℕ)) where
  pub step_more : (u : ℕ) → AreFresh s inode first k fresh j.free → j ≡ record s { free = j.free } → GetsUnit j next inode (first + k) u → after ≡ fresh ++ (first + k, Some u) ∷ []
      → AreFresh s inode first (k + 1) after next.free × (next ≡ record s { free = next.free })
  step_more u x same gets is =
      let tables : j.tables ≡ s.tables = ap (λ (t : JournalState). t.tables) same in
      let geo : j.geo ≡ s.geo = ap (λ (t : JournalState). t.geo) same in
      let free : next.free ≡ set j.free u false = ap (λ (t : JournalState). t.free) gets.takes.after in
      let more = fresh_more s inode first k within fresh j.free x u (sym (ap (λ (t : Tables). unit_at t inode (first + k)) tables) ∙ gets.hole) gets.takes.free
      (subst (λ (t : Tables). IsVacant t.pages u) tables gets.takes.vacant) (subst (λ (g : Geometry). u < g.fpages) geo gets.takes.below) in (
        subst (λ (fs : List (ℕ × Option ℕ)). AreFresh s inode first (k + 1) fs next.free) (sym is) (subst (AreFresh s inode first (k + 1) (fresh ++ (first + k, Some u) ∷ [])) (sym free) more),
        gets.takes.after ∙ ap (λ (t : JournalState). record t { free = set j.free u false }) same ∙ ap (λ (f : List Bool). record s { free = f }) (sym free),
      )

  pub step_past : AreFresh s inode first k fresh j.free → j ≡ record s { free = j.free } → NeedsNone j next inode (first + k) → after ≡ fresh
      → AreFresh s inode first (k + 1) after next.free × (next ≡ record s { free = next.free })
  step_past x same needs is =
      let tables : j.tables ≡ s.tables = ap (λ (t : JournalState). t.tables) same in
      let free : next.free ≡ j.free = ap (λ (t : JournalState). t.free) needs.same in
      let past = fresh_past s inode first k within fresh j.free x (λ none. needs.on (ap (λ (t : Tables). unit_at t inode (first + k)) tables ∙ none)) in (
        subst (λ (fs : List (ℕ × Option ℕ)). AreFresh s inode first (k + 1) fs next.free) (sym is) (subst (AreFresh s inode first (k + 1) fresh) (sym free) past),
        needs.same ∙ same ∙ ap (λ (f : List Bool). record s { free = f }) (sym free),
      )
