use Rattle.std.proofs.Common.{◌≡◌, inl, inr, ◌+◌, ◌*◌, ◌/◌, ◌%◌, ◌<◌, ◌≤◌, ℕ, Bool, true, false, List, [], refl, sym, ◌∙◌, ap, arith, if◌then◌else◌}
use Rattle.std.specs.Prelude.{slice_get}
use Rattle.std.proofs.lemmas.Bool.{cases_eq, cases_lt, le-ltb}
use Rattle.std.proofs.lemmas.Option.{slice_get_past}
use Rattle.line_device.specs.Medium.{Medium, on_line}
use Rattle.line_device.specs.declared.line.Choice.{Choice}
use Rattle.line_module.specs.Survivors.{survivor_of}
use Rattle.line_module.specs.Memory.{Memory, has, without}
use Rattle.line_module.specs.Chains.{is_clean}
use Rattle.line_module.specs.Held.{history_in}
use Rattle.line_module.specs.Cells.{cells_medium}
use Rattle.line_module.specs.declared.cells.Cells.{Cells}
use Rattle.line_module.proofs.OrderLemmas.{has-without_same, has-without_other}
use Rattle.line_module.proofs.HeldLemmas.{clean-quiet, clean-unlisted}
use Rattle.line_module.proofs.WayLemmas.{listed-within}
use Rattle.line_module.proofs.RestartLemmas.{quiet_kept, restarted_below, restarted_below-one, restarted_below-on, restarted_below-all, has_none}
use Rattle.line_module.proofs.cells.Cells.restart.Goals as goal

same_count : (unit : ℕ) (choice : Choice) (n : ℕ) (old new : Cells) → cells_medium new ≡ restarted_below unit choice n (cells_medium old) → (cells_medium new).count ≡ (cells_medium old).count
same_count unit choice n old new medium = ap (λ (m : Medium). m.count) medium

pub loop-line-smaller : goal.loop-line-smaller
loop-line-smaller c =
    omega (arith, c.loop-line-test.true, c.lines.ensures, c.next_unclean-line.ensures.behind, same_count c.args.unit c.args.choice c.loop-line.line c.args.self.now c.loop-line.self c.loop-line.invariant.medium)

-- lines that are clean behind those that have restarted count among them
clean_on : (unit : ℕ) (choice : Choice) (old now : Cells) (n next : ℕ) → n ≤ next → ((k : ℕ) → n ≤ k → k < next → is_clean (slice_get now.states.items k) ≡ true) → cells_medium now ≡ restarted_below unit choice n (cells_medium old) → cells_medium now ≡ restarted_below unit choice next (cells_medium old)
clean_on unit choice old now n next up clean is =
    let m = cells_medium old in
    is
    ∙ restarted_below-on unit choice m n next up
    (λ p from below.
    let same : (cells_medium now).history p ≡ m.history p =
    ap (λ (k : Medium). k.history p) is ∙ ap (λ b. if b then survivor_of unit choice p (m.history p) else m.history p) (le-ltb (p / 8) n from) in
    ap (survivor_of unit choice p) (sym same)
    ∙ quiet_kept (slice_get now.durable (p / 8)) (slice_get now.states.items (p / 8)) (p % 8) p unit choice (clean-quiet (slice_get now.states.items (p / 8)) (clean (p / 8) from below)) (omega arith)
    ∙ same)

unlisted_on : (now : Cells) (n next : ℕ) → ((k : ℕ) → n ≤ k → k < next → is_clean (slice_get now.states.items k) ≡ true) → ((k : ℕ) → k < n → has k now.order ≡ false) → (k : ℕ) → k < next → has k now.order ≡ false
unlisted_on now n next clean before k below =
    elim (cases_lt k n) [
      | inl is ↦ before k is
      | inr from ↦ (now.kept.each k).in_order ∙ clean-unlisted (slice_get now.states.items k) (clean k from below)
    ]

pub loop-line-preserved : goal.loop-line-preserved
loop-line-preserved c =
    let line = c.loop-line.line in
    let unit = c.args.unit in
    let choice = c.args.choice in
    let old = c.args.self.now in
    let now = c.settle.new.self in
    let next = c.next_unclean-line.result in
    let change = λ (w : ℕ) (h : List ℕ). survivor_of unit choice (8 * line + w) h in
    let settled : cells_medium now ≡ record (cells_medium c.loop-line.self) { history = on_line line change (cells_medium c.loop-line.self).history } = ap (λ (m : Memory). m.medium) c.settle.ensures in
    let order : now.order ≡ without line c.loop-line.self.order = ap (λ (m : Memory). m.order) c.settle.ensures in
    let medium : cells_medium now ≡ restarted_below unit choice (line + 1) (cells_medium old) =
    settled ∙ ap (λ (m : Medium). record m { history = on_line line change m.history }) c.loop-line.invariant.medium ∙ restarted_below-one unit choice (cells_medium old) line in
    let clean : (k : ℕ) → line + 1 ≤ k → k < next → is_clean (slice_get now.states.items k) ≡ true = λ k from below. c.next_unclean-line.ensures.between k (omega (arith, from)) below in
    record {
      medium = clean_on unit choice old now (line + 1) next (omega (arith, c.next_unclean-line.ensures.behind)) clean medium;
      order =
          unlisted_on now (line + 1) next clean
          (λ n below.
          ap (has n) order
          ∙ elim (cases_eq n line) as (λ _. has n (without line c.loop-line.self.order) ≡ false) [
            | inl is ↦ ap (λ k. has k (without line c.loop-line.self.order)) is ∙ has-without_same line c.loop-line.self.order
            | inr other ↦ has-without_other n line c.loop-line.self.order other ∙ c.loop-line.invariant.order n (omega (arith, below))
          ]);
    }

past_end : (s : Cells) (n p : ℕ) → (cells_medium s).count ≤ n → n ≤ p / 8 → (cells_medium s).history p ≡ []
past_end s n p all from = ap (λ d. history_in d (slice_get s.states.items (p / 8)) (p % 8)) (slice_get_past s.durable (p / 8) (omega arith))

none_listed : (s : Cells) (n line : ℕ) → (cells_medium s).count ≤ line → ((k : ℕ) → k < line → has k s.order ≡ false) → has n s.order ≡ false
none_listed s n line all below = decide (has n s.order) refl
  where
    decide : (b : Bool) → has n s.order ≡ b → has n s.order ≡ false
    decide false is = is
    decide true is = below n (omega (arith, listed-within s.durable s.cached s.states.items s.order n s.kept is))

pub returns : goal.returns
returns c =
    let line = c.loop-line.line in
    let unit = c.args.unit in
    let choice = c.args.choice in
    let old = c.args.self.now in
    let new = c.loop-line.self in
    let same = same_count unit choice line old new c.loop-line.invariant.medium in
    let all : (cells_medium old).count ≤ line = omega (arith, c.loop-line-test.false, c.lines.ensures, same) in
    let medium : cells_medium new ≡ record (cells_medium old) { history = λ p. survivor_of unit choice p ((cells_medium old).history p) } =
    c.loop-line.invariant.medium ∙ restarted_below-all unit choice (cells_medium old) line (λ p from. past_end old line p all from) in
    let order : new.order ≡ [] = has_none new.order (λ n. none_listed new n line (omega (arith, same)) c.loop-line.invariant.order) in
    λ i. record { medium = medium i; order = order i }
