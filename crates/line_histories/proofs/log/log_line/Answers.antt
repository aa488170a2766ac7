use Rattle.std.proofs.Common.{◌∙◌, sym}
use Rattle.line_histories.specs.Log.{history}
use Rattle.line_histories.proofs.LogLemmas.{untouched}
use Rattle.line_histories.proofs.log.log_line.Goals as goal

pub returns-then-not-touches_line : goal.returns-then-not-touches_line
returns-then-not-touches_line c =
    λ w below. untouched c.args.at c.args.n w c.args.bytes.now (history c.args.durable.now c.args.log.now.items w) (sym c.touches_line.ensures ∙ c.if-not-touches_line.true) below
