use Rattle.line_module.proofs.ExactLemmas.{in_order-held}
use Rattle.line_module.proofs.laws.the_order_lists_the_dirty_lines.Goals as goal

pub returns : goal.returns
returns c = in_order-held c.args.device.now.cells
