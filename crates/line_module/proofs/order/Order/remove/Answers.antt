use Rattle.std.proofs.Common.{◌≡◌, ◌∙◌, sym, ap, subst, arith}
use Rattle.std.specs.Prelude.{slice_get}
use Rattle.line_module.specs.Memory.{without}
use Rattle.line_module.specs.Order.{EachOnce}
use Rattle.line_module.proofs.OrderLemmas.{each_once-without, remove-without}
use Rattle.line_module.proofs.order.Order.remove.Goals as goal

taken_out : (c : goal.After-push_reserved) → c.remove.new.self.items ≡ without c.args.line c.self.inside.lines.items
taken_out c =
    let lines = c.self.inside.lines.items in
    c.remove.ensures.items ∙ remove-without c.args.line c.place_of-place.result lines c.self.invariant.once (sym (ap (λ l. slice_get l c.place_of-place.result) c.deref.ensures.value) ∙ c.place_of-place.ensures)

pub invariant_of-self : goal.invariant_of-self
invariant_of-self c =
    let lines = c.self.inside.lines.items in
    record {
      once = subst EachOnce (sym (taken_out c)) (each_once-without c.args.line lines c.self.invariant.once);
      chains = omega (arith, c.self.invariant.chains, c.remove.ensures.len, c.push_reserved.ensures.len);
      room = omega (arith, c.self.invariant.room, c.remove.ensures.capacity);
      free_room = omega (arith, c.self.invariant.free_room, c.push_reserved.ensures.capacity);
    }

pub returns-clause-lines : goal.returns-clause-lines
returns-clause-lines c = taken_out c ∙ ap (without c.args.line) c.self.view_is
