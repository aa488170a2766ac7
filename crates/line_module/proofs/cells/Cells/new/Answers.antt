use Rattle.std.proofs.Common.{◌≡◌, ◌≤◌, [], length, sym, subst, arith}
use Rattle.line_device.specs.Medium.{zeros}
use Rattle.line_module.specs.Held.{lines_in}
use Rattle.line_module.specs.Keeps.{KeepsLines}
use Rattle.line_module.specs.Order.{EachOnce}
use Rattle.line_module.proofs.NewLemmas.{keeps_lines-new, lines-new}
use Rattle.line_module.proofs.cells.Cells.new.Goals as goal

pub invariant_of-result : goal.invariant_of-result
invariant_of-result c =
    let durable = c.in_ok-durable.durable in
    let states = c.in_ok-states.states.items in
    let few : length durable ≤ 118016 = omega (arith, c.in_ok-durable.ensures.len, c.requires) in
    record {
      few = few;
      once = subst EachOnce (sym c.in_ok-order.ensures) tt;
      kept =
          subst (KeepsLines durable c.in_ok-cached.cached states) (sym c.in_ok-order.ensures)
          (keeps_lines-new c.args.lines durable c.in_ok-cached.cached states c.in_ok-durable.ensures.len c.in_ok-durable.ensures.each c.in_ok-cached.ensures.lines c.in_ok-states.ensures.len c.in_ok-states.ensures.each);
    }

pub returns : goal.returns
returns c =
    let durable = c.in_ok-durable.durable in
    let states = c.in_ok-states.states.items in
    let medium : lines_in durable states ≡ zeros c.args.lines =
    lines-new c.args.lines durable states c.in_ok-durable.ensures.len c.in_ok-durable.ensures.each c.in_ok-states.ensures.len c.in_ok-states.ensures.each in
    let order : c.in_ok-order.order ≡ [] = c.in_ok-order.ensures in
    λ i. record { medium = medium i; order = order i }
