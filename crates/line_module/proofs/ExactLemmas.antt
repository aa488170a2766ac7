-- What is always true of a module's memory.
use Rattle.std.proofs.Common.{◌≡◌, inl, inr, ℕ, zero, suc, Bool, true, false, not, ◌+◌, ◌*◌, ◌/◌, ◌<◌, ◌≤◌, ◌&&◌, ◌||◌, List, [], ◌∷◌, length, take, nat_lt, if◌then◌else◌, refl, sym, ◌∙◌, ap, arith, eqb, cond}
use Rattle.std.specs.Prelude.{Option, Some, None, slice_get}
use Rattle.std.proofs.lemmas.Bool.{cases_eq, cases_lt, eq-eqb, ne_eqb}
use Rattle.std.proofs.lemmas.Option.{slice_get_past, slice_get_within}
use Rattle.line_device.specs.History.{latest}
use Rattle.line_device.specs.Medium.{Medium, flushed}
use Rattle.line_device.proofs.HistoryLemmas.{latest-latest}
use Rattle.line_device.proofs.WriteBackLemmas.{on_line-in, on_line-out}
use Rattle.line_module.specs.Memory.{Memory, has, without, is_dirty_line, memory_after_evict}
use Rattle.line_module.specs.Chains.{is_dirty, is_weak_state, is_listed}
use Rattle.line_module.specs.Held.{is_bare, is_held, history_in}
use Rattle.line_module.specs.Order.{EachOnce}
use Rattle.line_module.specs.Exact.{IsInOrder, IsBareLine, EvictsOldest}
use Rattle.line_module.specs.Cells.{cells_medium, memory_in}
use Rattle.line_module.specs.Module.{memory_held}
use Rattle.line_module.specs.declared.state.State.{State}
use Rattle.line_module.specs.declared.state.State.TheVariants.{Clean, Dirty, Weak}
use Rattle.line_module.specs.declared.cells.Cells.{Cells}
use Rattle.line_module.proofs.WordsLemmas.{true_is_not_false, any_below-none}
use Rattle.line_module.proofs.OrderLemmas.{without_none}
use Rattle.line_module.proofs.WayLemmas.{memory_after_evict-none}
use Rattle.line_module.proofs.HeldLemmas.{Line, history-line, dirty-line, clean-quiet}

-- a state is listed where it is dirty and not weak
listed-dirty : (state : Option State) → (is_listed state ≡ true → is_dirty state ≡ true) → is_listed state ≡ (is_dirty state && not (is_weak_state state))
listed-dirty None dirty = sym (ap (λ b. b && true) (clean-quiet None refl))
listed-dirty (Some Clean) dirty = sym (ap (λ b. b && true) (clean-quiet (Some Clean) refl))
listed-dirty (Some (Dirty k)) dirty = sym (ap (λ b. b && true) (dirty refl))
listed-dirty (Some (Weak k)) dirty = sym (and_false (is_dirty (Some (Weak k))))
  where
    and_false : (b : Bool) → (b && false) ≡ false
    and_false true = refl
    and_false false = refl

-- past the end no line is dirty
past-quiet : (c : Cells) (n : ℕ) → (cells_medium c).count ≤ n → is_dirty_line (cells_medium c) n ≡ false
past-quiet c n past =
    any_below-none (λ w. nat_lt 1 (length ((cells_medium c).history (8 * n + w)))) 8
    (λ w below. ap (λ h. nat_lt 1 (length h)) (history-line c.durable c.states.items n w below ∙ ap (λ d. history_in d (slice_get c.states.items n) w) (slice_get_past c.durable n past)))

in_order-cells : (c : Cells) → IsInOrder (memory_in c)
in_order-cells c = record {
  dirty = λ n.
      let state = slice_get c.states.items n in
      (c.kept.each n).in_order
      ∙ listed-dirty state (c.kept.each n).dirty
      ∙ ap (λ b. b && not (is_weak_state state))
      (elim (cases_lt n (length c.durable)) as (λ _. is_dirty state ≡ is_dirty_line (cells_medium c) n) [
        | inl within ↦ sym (dirty-line c.durable c.states.items n within (c.kept.each n).lost)
        | inr past ↦ ap is_dirty (slice_get_past c.states.items n (omega (arith, c.kept.states_each))) ∙ clean-quiet None refl ∙ sym (past-quiet c n past)
      ]);
  once = c.once;
}

pub in_order-held : (cells : Option Cells) → IsInOrder (memory_held cells)
in_order-held None = record {
  dirty = λ n. sym (ap (λ b. b && true) (any_below-none (λ w. nat_lt 1 (length ((memory_held None).medium.history (8 * n + w)))) 8 (λ w below. none (nat_lt ((8 * n + w) / 8) 0))));
  once = tt;
}
  where
    none : (b : Bool) → nat_lt 1 (length {A = ℕ} (if b then 0 ∷ [] else [])) ≡ false
    none true = refl
    none false = refl
in_order-held (Some cells) = in_order-cells cells

-- a line that is bare
bare-is : (line : Line) → is_bare line ≡ true → line ≡ Some None
bare-is None bad = absurd (true_is_not_false (sym bad))
bare-is (Some None) bad = refl
bare-is (Some (Some bytes)) bad = absurd (true_is_not_false (sym bad))

unheld-is : (lines : List (Option (List ℕ))) (n : ℕ) → n < length lines → is_held (slice_get lines n) ≡ false → slice_get lines n ≡ Some None
unheld-is [] n within bare = absurd (omega arith)
unheld-is (None ∷ lines) zero within bare = refl
unheld-is (Some bytes ∷ lines) zero within bare = absurd (true_is_not_false bare)
unheld-is (line ∷ lines) (suc n) within bare = unheld-is lines n (omega arith) bare

pub bare_line-held : (cells : Option Cells) (n : ℕ) → (memory_held cells).medium.is_bad n ≡ true → IsBareLine cells n
bare_line-held None n bad = tt
bare_line-held (Some c) n bad =
    let durable = bare-is (slice_get c.durable n) bad in
    let within : n < length c.cached = omega (arith, slice_get_within c.durable n None durable, c.kept.caches) in
    (durable, unheld-is c.cached n within ((c.kept.each n).held ∙ clean-quiet (slice_get c.states.items n) ((c.kept.each n).lost bad)))

-- the first lines of the order are written back
evicts_oldest : (m : Medium) (order : List ℕ) (n : ℕ) → EachOnce order → EvictsOldest (record { medium = m; order = order }) n
evicts_oldest m order zero once = record { order = refl; words = λ p. refl }
evicts_oldest m [] (suc n) once =
    let same = memory_after_evict-none (record { medium = m; order = [] }) n refl in
    record { order = ap (λ (t : Memory). t.order) same; words = λ p. ap (λ (t : Memory). t.medium.history p) same }
evicts_oldest m (x ∷ xs) (suc n) once =
    let rest = evicts_oldest (flushed m x) xs n once.1 in
    let gone : without x (x ∷ xs) ≡ xs = ap (λ b. cond (not b) (x ∷ without x xs) (without x xs)) (eq-eqb x x refl) ∙ without_none x xs once.0 in
    let next = λ (o : List ℕ). memory_after_evict (record { medium = flushed m x; order = o }) n in
    record {
      order = ap (λ o. (next o).order) gone ∙ rest.order;
      words = λ p.
          let h = m.history p in
          let there = has (p / 8) (take n xs) in
          ap (λ o. (next o).medium.history p) gone
          ∙ rest.words p
          ∙ elim (cases_eq (p / 8) x) as (λ _. (if there then latest ((flushed m x).history p) else (flushed m x).history p) ≡ (if eqb (p / 8) x || there then latest h else h)) [
            | inl is ↦
                let on = on_line-in x (λ _ old. latest old) m.history p is in
                ap (λ l. if there then latest l else l) on ∙ latest_twice there h ∙ sym (ap (λ b. if b || there then latest h else h) (eq-eqb (p / 8) x is))
            | inr other ↦
                let out = on_line-out x (λ _ old. latest old) m.history p other in
                ap (λ l. if there then latest l else l) out ∙ sym (ap (λ b. if b || there then latest h else h) (ne_eqb (p / 8) x other))
          ];
    }
  where
    latest_twice : (b : Bool) (h : List ℕ) → (if b then latest (latest h) else latest h) ≡ latest h
    latest_twice true h = latest-latest h
    latest_twice false h = refl

pub evicts_first : (s : Memory) (n : ℕ) → EachOnce s.order → EvictsOldest s n
evicts_first s n once = evicts_oldest s.medium s.order n once
