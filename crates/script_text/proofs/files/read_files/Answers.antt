use Rattle.std.proofs.Common.{rules, tests}
use Rattle.script_text.specs.Action.Action.{FDiscard, FRead}
use Rattle.script_text.proofs.files.read_files.Goals as goal

pub returns-then-eq-6 : goal.returns-then-eq-6
returns-then-eq-6 c =
    let asks = c.read_part.ensures FRead in
    search (rules, tests)

pub returns-then-eq-7 : goal.returns-then-eq-7
returns-then-eq-7 c =
    let asks = c.read_part-then-eq-7.ensures FDiscard in
    search (rules, tests)
