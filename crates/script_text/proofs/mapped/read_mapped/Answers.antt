use Rattle.std.proofs.Common.{rules, tests}
use Rattle.script_text.specs.Action.Action.{Load, Sync}
use Rattle.script_text.proofs.mapped.read_mapped.Goals as goal

pub returns-then-eq-3 : goal.returns-then-eq-3
returns-then-eq-3 c =
    let asks = c.read_shown.ensures Load in
    search (rules, tests)

pub returns-then-eq-4 : goal.returns-then-eq-4
returns-then-eq-4 c =
    let asks = c.read_shown-then-eq-4.ensures Sync in
    search (rules, tests)
