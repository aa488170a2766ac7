use Rattle.std.proofs.Common.{rules, tests}
use Rattle.script_text.specs.Action.Action.{CheckFile}
use Rattle.script_text.proofs.media.read_media.Goals as goal

pub returns-then-eq-4 : goal.returns-then-eq-4
returns-then-eq-4 c =
    let asks = c.read_part.ensures CheckFile in
    search (rules, tests)
