use Rattle.std.proofs.Common.{◌∙◌}
use Rattle.workload.proofs.TextLemmas.{told-none, told-of}
use Rattle.workload.proofs.totals.told.Goals as goal

pub returns-in-Some : goal.returns-in-Some
returns-in-Some c =
    let cases = c.in-Some.ensures.cases in
    c.unwrap_or.ensures ∙ told-of c.args.reply.now _ _ cases.0 cases.1 c.total_of.ensures

pub returns-in-None : goal.returns-in-None
returns-in-None c = told-none c.args.reply.now c.in-None.ensures.cases
