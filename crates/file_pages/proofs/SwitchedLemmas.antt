-- Fresh units as switches of the journal.
use Rattle.std.proofs.Common.{◌≡◌, inl, inr, ℕ, zero, suc, ◌+◌, ◌-◌, ◌<◌, ◌≤◌, ◌&&◌, Bool, true, cond, is_none, is_some, List, [], ◌∷◌, Option, Some, None, option_map, length, count_by, position, slice_get, slice_index_or, if◌then◌else◌, refl, sym, ap, ap₂, subst, ◌∙◌, arith}
use Rattle.std.specs.List.{range_with_len}
use Rattle.std.proofs.lemmas.Bool.{cases_eq, eq-eqb, ne_eqb, le-ltb}
use Rattle.std.proofs.lemmas.List.Sums.{sum_by-cons}
use Rattle.std.proofs.lemmas.Option.{get_or_from_slice_get, same_Some, slice_get-map}
use Rattle.line_device.specs.Medium.{Medium}
use Rattle.line_words.proofs.PositionLemmas.{none_among}
use Rattle.word_tables.specs.Layout.{meta_lines}
use Rattle.inode_table.specs.Slots.{pages_at}
use Rattle.page_table.specs.Pages.{used_pages}
use Rattle.nvm_model.specs.Blocks.{first_there}
use Rattle.nvm_model.specs.Lines.{AreGood}
use Rattle.file_journal.specs.Changes.{filled_holes, named_units, unit_for}
use Rattle.file_journal.specs.Object.{JournalState}
use Rattle.file_journal.specs.Refusals.{full_refusal, metadata_refusal, refused_if, switch_refusal}
use Rattle.file_journal.specs.Refusals.JournalRefusal.{Full, Meta}
use Rattle.file_journal.specs.Switches.{ArePagesOf, AreSwitches, IsSwitch}
use Rattle.file_journal.specs.Tables.{unit_at}
use Rattle.file_pages.specs.Fresh.{AreFresh, AreOwn, switch_units}
use Rattle.file_pages.proofs.PlaceLemmas.{unit_get}

-- where each item passes, all are counted
pub all_counted : {A : Type 0} (p : A → Bool) (xs : List A) → ((i : ℕ) (x : A) → slice_get xs i ≡ Some x → p x ≡ true) → count_by p xs ≡ length xs
all_counted {A} p [] all = refl
all_counted {A} p (x ∷ xs) all =
    let count : A → ℕ = λ y. cond (p y) 1 0 in
    let one : count x ≡ 1 = ap (λ b. cond b 1 0) (all 0 x refl) in
    let rest = all_counted p xs (λ i y is. all (suc i) y is) in
    omega (arith, sum_by-cons count x xs, one, rest)

-- the unit of a switch
pub switched_unit : (switches : List (ℕ × Option ℕ)) (i u : ℕ) → slice_get (switch_units switches) i ≡ Some (Some u) → (p : ℕ) × IsSwitch switches i p (Some u)
switched_unit switches i u is = by_item (slice_get switches i) refl (sym (slice_get-map (λ (c : ℕ × Option ℕ). c.1) switches i) ∙ is)
  where
    by_item : (o : Option (ℕ × Option ℕ)) → slice_get switches i ≡ o → option_map (λ (c : ℕ × Option ℕ). c.1) o ≡ Some (Some u) → (p : ℕ) × IsSwitch switches i p (Some u)
    by_item None was is = cc
    by_item (Some c) was is = (c.0, was ∙ ap (λ (o : Option ℕ). Some (c.0, o)) (same_Some c.1 (Some u) is))

pub switch_listed : (switches : List (ℕ × Option ℕ)) (i p u : ℕ) → IsSwitch switches i p (Some u) → slice_index_or (switch_units switches) i None ≡ Some u
switch_listed switches i p u is =
    get_or_from_slice_get (switch_units switches) i (Some u) None (slice_get-map (λ (c : ℕ × Option ℕ). c.1) switches i ∙ ap (option_map (λ (c : ℕ × Option ℕ). c.1)) is)

-- a page's unit is that of its switch
pub unit_for-is : (cs : List (ℕ × Option ℕ)) (page : ℕ) (unit old : Option ℕ) (i : ℕ) → ((j : ℕ) (a : Option ℕ) → IsSwitch cs j page a → a ≡ unit) → IsSwitch cs i page unit → unit_for cs page old ≡ unit
unit_for-is [] page unit old i all is = cc
unit_for-is (c ∷ cs) page unit old i all is =
    elim (cases_eq c.0 page) as (λ _. unit_for (c ∷ cs) page old ≡ unit) [
      | inl same ↦ ap (λ b. if b then c.1 else unit_for cs page old) (eq-eqb c.0 page same) ∙ all 0 c.1 (ap (λ (p : ℕ). Some (p, c.1)) same)
      | inr other ↦ ap (λ b. if b then c.1 else unit_for cs page old) (ne_eqb c.0 page other) ∙ unit_for-is cs page unit old (before i other is) (λ j a at. all (suc j) a at) (there i other is)
    ]
  where
    before : (i : ℕ) → (c.0 ≡ page → ⊥) → IsSwitch (c ∷ cs) i page unit → ℕ
    before zero other is = 0
    before (suc k) other is = k

    there : (i : ℕ) (other : c.0 ≡ page → ⊥) (is : IsSwitch (c ∷ cs) i page unit) → IsSwitch cs (before i other is) page unit
    there zero other is = absurd (other (ap (λ (d : ℕ × Option ℕ). d.0) (same_Some c (page, unit) is)))
    there (suc k) other is = is

module _ (s : JournalState) (inode first count : ℕ) (fresh : List (ℕ × Option ℕ)) (free : List Bool) (x : AreFresh s inode first count fresh free) where
  pub fresh_switches : count ≤ 17 → first + count ≤ 256 → AreSwitches s.geo.fpages fresh
  fresh_switches few small = record {
    few = omega (arith, x.few, few);
    within = λ i page unit is. omega (arith, (x.hole i page unit is).1, small);
    below = λ i page u is. let v = x.unit i page (Some u) is in subst (λ k. k < s.geo.fpages) (sym (same_Some u v.0 v.1)) v.2;
    distinct = x.distinct;
    own = x.own;
  }

  pub fresh_pages : first + count ≤ pages_at s.tables.files inode → ArePagesOf (pages_at s.tables.files inode) fresh
  fresh_pages within i page unit is = omega (arith, (x.hole i page unit is).1, within)

  pub fresh_own : AreOwn s.geo.fpages (switch_units fresh)
  fresh_own = record {
    below = λ k u is.
        let at = switched_unit fresh k u (unit_get (switch_units fresh) k u is) in
        let v = x.unit k at.0 (Some u) at.1 in subst (λ n. n < s.geo.fpages) (sym (same_Some u v.0 v.1)) v.2;
    once = λ k j u one two.
        let a = switched_unit fresh k u (unit_get (switch_units fresh) k u one) in
        let b = switched_unit fresh j u (unit_get (switch_units fresh) j u two) in
        x.own k j a.0 b.0 u a.1 b.1;
  }

  is_one : (i : ℕ) (c : ℕ × Option ℕ) → slice_get fresh i ≡ Some c → (is_some c.1 ≡ true) × (is_none (unit_at s.tables inode c.0) ≡ true)
  is_one i c is = (ap is_some (x.unit i c.0 c.1 is).1, ap is_none (x.hole i c.0 c.1 is).2)

  pub fresh_named : named_units fresh ≡ length fresh
  fresh_named = all_counted (λ (c : ℕ × Option ℕ). is_some c.1) fresh (λ i c is. (is_one i c is).0)

  pub fresh_filled : filled_holes s.tables inode fresh ≡ length fresh
  fresh_filled =
      all_counted (λ (c : ℕ × Option ℕ). is_some c.1 && is_none (unit_at s.tables inode c.0)) fresh
      (λ i c is. let one = is_one i c is in ap₂ (λ a b. a && b) one.0 one.1)

  -- a page of a switch has its unit, and others have theirs
  pub unit_for-fresh : (i page u : ℕ) (old : Option ℕ) → IsSwitch fresh i page (Some u) → unit_for fresh page old ≡ Some u
  unit_for-fresh i page u old is =
      unit_for-is fresh page (Some u) old i
      (λ j a at.
      let same = x.distinct j i page a (Some u) at is in
      let pair : (page, a) ≡ (page, Some u) = same_Some _ _ (sym at ∙ ap (λ k. slice_get fresh k) same ∙ is) in
      ap (λ (c : ℕ × Option ℕ). c.1) pair)
      is

-- nothing refuses them, where there is room and metadata is good
pub unrefused : (s : JournalState) (m : Medium) (inode : ℕ) (switches : List (ℕ × Option ℕ)) → used_pages s.tables.pages + filled_holes s.tables inode switches + 16 ≤ s.geo.fpages → AreGood m (meta_lines s.geo)
    → switch_refusal s m inode switches ≡ None
unrefused s m inode switches room good =
    let full : full_refusal s inode switches ≡ None =
    ap (λ b. refused_if b Full) (le-ltb (s.geo.fpages - 16) (used_pages s.tables.pages + filled_holes s.tables inode switches) (omega (arith, room))) in
    let meta : metadata_refusal s.geo m ≡ None = ap (option_map Meta) (none_bad m (meta_lines s.geo) good) in
    ap₂ (λ a b. first_there a b) full meta
  where
    none_bad : (m : Medium) (n : ℕ) → AreGood m n → position m.is_bad (range_with_len 0 n) ≡ None
    none_bad m n good = none_among m.is_bad 0 n (λ k lt. let e : 0 + k ≡ k = omega arith in ap m.is_bad e ∙ good k lt)
