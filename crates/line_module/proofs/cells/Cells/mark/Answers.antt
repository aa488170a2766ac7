use Rattle.std.proofs.Common.{◌≡◌, ℕ, length, set, sym, ◌∙◌, ap, subst}
use Rattle.std.specs.Prelude.{Some, slice_get}
use Rattle.std.proofs.lemmas.List.{set-set}
use Rattle.std.proofs.lemmas.Option.{slice_get_read}
use Rattle.line_device.specs.Cells.{weakened}
use Rattle.line_module.specs.Memory.{without}
use Rattle.line_module.specs.Chains.{after_durable}
use Rattle.line_module.specs.Held.{lines_in}
use Rattle.line_module.specs.Keeps.{KeepsLines}
use Rattle.line_module.specs.Order.{EachOnce}
use Rattle.line_module.proofs.OrderLemmas.{each_once-without}
use Rattle.line_module.specs.Cells.{cells_medium}
use Rattle.line_module.proofs.ChangeLemmas.{lines-marked, keeps_lines-marked}
use Rattle.line_module.proofs.cells.Cells.mark.Goals as goal

pub invariant_of-self : goal.invariant_of-self
invariant_of-self c =
    let s = c.args.self.now in
    let line = c.args.line.0 in
    let was : slice_get s.states.items line ≡ Some c.replace-state.result =
    slice_get_read s.states.items (length s.durable) line c.index_mut.result.now (sym s.kept.states_each) c.requires.within c.index_mut.ensures.value ∙ ap Some (sym c.replace-state.ensures.value) in
    let same : (w : ℕ) → after_durable (Some c.weakened.result) w ≡ after_durable (slice_get s.states.items line) w = (λ w. c.weakened.ensures.values w ∙ sym (ap (λ st. after_durable st w) was)) in
    record {
      few = s.few;
      once = subst EachOnce (sym c.weakened.ensures.order) (each_once-without line s.order s.once);
      kept =
          subst (λ l. KeepsLines s.durable s.cached l c.weakened.new.order) (sym (set-set s.states.items line c.replace-state.new.dest c.weakened.result))
          (keeps_lines-marked s.durable s.cached s.states.items s.order c.weakened.new.order line c.weakened.result s.kept c.requires.within c.requires.good c.weakened.ensures.weak same c.weakened.ensures.order);
    }

pub returns : goal.returns
returns c =
    let s = c.args.self.now in
    let line = c.args.line.0 in
    let was : slice_get s.states.items line ≡ Some c.replace-state.result =
    slice_get_read s.states.items (length s.durable) line c.index_mut.result.now (sym s.kept.states_each) c.requires.within c.index_mut.ensures.value ∙ ap Some (sym c.replace-state.ensures.value) in
    let same : (w : ℕ) → after_durable (Some c.weakened.result) w ≡ after_durable (slice_get s.states.items line) w = (λ w. c.weakened.ensures.values w ∙ sym (ap (λ st. after_durable st w) was)) in
    let medium : lines_in s.durable (set (set s.states.items line c.replace-state.new.dest) line c.weakened.result) ≡ weakened (cells_medium s) line =
    ap (lines_in s.durable) (set-set s.states.items line c.replace-state.new.dest c.weakened.result)
    ∙ lines-marked s.durable s.states.items line c.weakened.result c.requires.within s.kept.states_each c.requires.good c.weakened.ensures.weak same in
    let order : c.weakened.new.order ≡ without line s.order = c.weakened.ensures.order in
    λ i. record { medium = medium i; order = order i }
