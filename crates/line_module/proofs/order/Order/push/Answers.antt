use Rattle.std.proofs.Common.{◌∙◌, sym, ap, subst, arith}
use Rattle.line_module.specs.Memory.{has}
use Rattle.line_module.specs.Order.{EachOnce}
use Rattle.line_module.proofs.OrderLemmas.{each_once-push}
use Rattle.line_module.proofs.order.Order.push.Goals as goal

pub invariant_of-self : goal.invariant_of-self
invariant_of-self c =
    let old = c.self.inside.lines.items in
    let popped = rw c.unwrap-chain.ensures at c.pop.ensures.len in
    record {
      once = subst EachOnce (sym c.push_reserved.ensures.items) (each_once-push c.args.line old c.self.invariant.once (ap (has c.args.line) c.self.view_is ∙ c.requires.new));
      chains = omega (arith, c.self.invariant.chains, popped, c.push_reserved.ensures.len);
      room = omega (arith, c.self.invariant.room, c.push_reserved.ensures.capacity);
      free_room = omega (arith, c.self.invariant.free_room, c.pop.ensures.capacity);
    }
