use Rattle.line_module.proofs.ExactLemmas.{bare_line-held}
use Rattle.line_module.proofs.laws.a_bad_line_is_bare.Goals as goal

pub returns : goal.returns
returns c = bare_line-held c.args.device.now.cells
