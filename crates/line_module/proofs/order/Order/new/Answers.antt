use Rattle.std.proofs.Common.{sym, subst, arith}
use Rattle.line_module.specs.Order.{EachOnce}
use Rattle.line_module.proofs.order.Order.new.Goals as goal

pub invariant_of-result : goal.invariant_of-result
invariant_of-result c =
    record {
      once = subst EachOnce (sym c.in_ok-lines.ensures.items) tt;
      chains = omega (arith, c.in_ok-lines.ensures.len, c.in_ok-free.ensures.len);
      room = omega (arith, c.in_ok-lines.ensures.exact);
      free_room = c.in_ok-free.ensures.room;
    }
