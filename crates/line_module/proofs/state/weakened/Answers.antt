use Rattle.std.proofs.Common.{sym, ◌∙◌, ap}
use Rattle.std.specs.Prelude.{Some}
use Rattle.line_module.specs.Chains.{is_listed}
use Rattle.line_module.proofs.OrderLemmas.{without_none}
use Rattle.line_module.proofs.state.weakened.Goals as goal

pub returns-in-Clean-clause-order : goal.returns-in-Clean-clause-order
returns-in-Clean-clause-order c = sym (without_none c.args.line c.args.order.now (c.requires.listed ∙ ap (λ s. is_listed (Some s)) c.in-Clean.is))

pub returns-in-Weak-clause-order : goal.returns-in-Weak-clause-order
returns-in-Weak-clause-order c = sym (without_none c.args.line c.args.order.now (c.requires.listed ∙ ap (λ s. is_listed (Some s)) c.in-Weak.is))
