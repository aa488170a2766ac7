use Rattle.std.proofs.Common.{◌≡◌, ◌+◌, length, rules}
use Rattle.exploration.proofs.PartLemmas.{parts_up_to-end, parts_up_to-more, parts_up_to-stops}
use Rattle.exploration.proofs.parts.read_parts.Goals as goal

pub returns-in-Err-clause-script : goal.returns-in-Err-clause-script
returns-in-Err-clause-script c =
    let at : c.len.result + 1 ≡ length c.loop-line.program.lines.items + 1 = search rules in
    rw c.at.ensures (parts_up_to-stops c.args.script.now c.loop-line.program c.take.new.self c.loop-line.rest.now c.in-Some.line.now c.in-Some.others.now c.loop-line.invariant c.in-Some.ensures.0 c.in-Err.stop
    (c.len.result + 1) at c.in-Err.ensures)

pub loop-line-preserved : goal.loop-line-preserved
loop-line-preserved c =
    parts_up_to-more c.args.script.now c.loop-line.program c.take.new.self c.loop-line.rest.now c.in-Some.line.now c.in-Some.others.now c.loop-line.invariant c.in-Some.ensures.0 c.in-Some.ensures.1
    (λ before is. let takes = c.in-Ok-true.ensures before is in rw c.in-Ok-true.field-0-test at takes)

pub returns-clause-script : goal.returns-clause-script
returns-clause-script c =
    let at : c.len-2.result + 1 ≡ length c.loop-line.program.lines.items + 1 = search rules in
    parts_up_to-end c.args.script.now c.loop-line.rest.now c.loop-line.program (c.len-2.result + 1) c.loop-line.invariant c.in_default.ensures at
