use Rattle.std.proofs.Common.{◌≡◌, ◌≤◌, true, not, length, set, sym, ◌∙◌, ap, subst, arith}
use Rattle.std.specs.Prelude.{Some, None, is_none, slice_get}
use Rattle.std.proofs.lemmas.List.{set-set, length-set}
use Rattle.std.proofs.lemmas.Option.{slice_get_read}
use Rattle.line_module.specs.Chains.{is_weak_state, is_clean, is_weak_next}
use Rattle.line_module.specs.Held.{lines_in, words_of}
use Rattle.line_module.specs.Keeps.{KeepsLines}
use Rattle.line_module.specs.Order.{EachOnce}
use Rattle.line_module.proofs.OrderLemmas.{each_once-without}
use Rattle.line_module.specs.Cells.{cells_medium}
use Rattle.line_device.specs.Medium.{renewed}
use Rattle.line_module.proofs.ChangeLemmas.{lines-renewed, keeps_lines-renewed, clean_next}
use Rattle.line_module.proofs.cells.Cells.renew.Goals as goal

pub invariant_of-self : goal.invariant_of-self
invariant_of-self c =
    let s = c.args.self.now in
    let line = c.args.line.0 in
    let few : length c.hold.new.lines ≤ 118016 = omega (arith, s.few, ap length c.hold.ensures, length-set s.durable line c.args.bytes) in
    let clean : is_none c.args.bytes ≡ true → is_clean (Some c.turned.result) ≡ true =
    (λ none. c.turned.ensures.clean ∙ ap not (c.turned.ensures.weak ∙ clean_next c.args.next (is_weak_state (Some c.replace-state.result)) (c.requires.clean none))) in
    let kept =
    keeps_lines-renewed s.durable s.cached s.states.items s.order c.turned.new.order line c.args.bytes c.turned.result s.kept c.requires.within c.turned.ensures.values c.turned.ensures.listed clean c.turned.ensures.order in
    record {
      few = few;
      once = subst EachOnce (sym c.turned.ensures.order) (each_once-without line s.order s.once);
      kept =
          subst (λ l. KeepsLines l c.bare.new.self (set (set s.states.items line c.replace-state.new.dest) line c.turned.result) c.turned.new.order) (sym c.hold.ensures)
          (subst (λ l. KeepsLines (set s.durable line c.args.bytes) l (set (set s.states.items line c.replace-state.new.dest) line c.turned.result) c.turned.new.order) (sym c.bare.ensures.lines)
          (subst (λ l. KeepsLines (set s.durable line c.args.bytes) (set s.cached line None) l c.turned.new.order) (sym (set-set s.states.items line c.replace-state.new.dest c.turned.result)) kept));
    }

pub returns-clause-medium : goal.returns-clause-medium
returns-clause-medium c =
    let s = c.args.self.now in
    let line = c.args.line.0 in
    let long = s.kept.states_each in
    let was : slice_get s.states.items line ≡ Some c.replace-state.result =
    slice_get_read s.states.items (length s.durable) line c.index_mut.result.now (sym long) c.requires.within c.index_mut.ensures.value ∙ ap Some (sym c.replace-state.ensures.value) in
    let weak : is_weak_state (Some c.turned.result) ≡ is_weak_next c.args.next (is_weak_state (slice_get s.states.items line)) =
    c.turned.ensures.weak ∙ sym (ap (λ st. is_weak_next c.args.next (is_weak_state st)) was) in
    ap (λ l. lines_in l (set (set s.states.items line c.replace-state.new.dest) line c.turned.result)) c.hold.ensures
    ∙ ap (lines_in (set s.durable line c.args.bytes)) (set-set s.states.items line c.replace-state.new.dest c.turned.result)
    ∙ lines-renewed s.durable s.states.items line c.args.bytes c.turned.result c.requires.within long c.turned.ensures.values
    ∙ ap (λ b. renewed (cells_medium s) line (is_none c.args.bytes) b (words_of c.args.bytes)) weak
