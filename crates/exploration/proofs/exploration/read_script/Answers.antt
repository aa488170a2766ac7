use Rattle.std.proofs.Common.{◌≡◌, ◌+◌, length, rules}
use Rattle.std.proofs.lemmas.Result.{err_from_is_err_and}
use Rattle.exploration.proofs.ScriptLemmas.{first-within, refused-same, right-first, right-lines, script-read, script-stops}
use Rattle.exploration.proofs.exploration.read_script.Goals as goal

pub returns-in_err-reads-clause-script : goal.returns-in_err-reads-clause-script
returns-in_err-reads-clause-script c =
    let p = err_from_is_err_and c.from_residual-in_err-reads.result c.from_residual-in_err-reads.ensures.1 in
    let at : c.len.result + 2 ≡ length c.in_ok-program.field-0.program.lines.items + 2 = search rules in
    rw (p.1, p.2) (script-stops c.args.geometry c.args.script.now c.in_ok-program.field-0 (c.len.result + 2) _ c.in_ok-program.ensures.script at c.in_err-reads.ensures)

pub returns-clause-script : goal.returns-clause-script
returns-clause-script c =
    let at : c.len.result + 2 ≡ length c.in_ok-program.field-0.program.lines.items + 2 = search rules in
    script-read c.args.geometry c.args.script.now c.in_ok-program.field-0 (c.len.result + 2) c.in_ok-reads.field-0 c.in_ok-program.ensures.script at c.in_ok-reads.ensures

pub returns-clause-first : goal.returns-clause-first
returns-clause-first c = let right = right-first c.args.script.now c.in_ok-program.field-0 c.in_ok-program.ensures.script in right.program

pub returns-clause-first_bounds : goal.returns-clause-first_bounds
returns-clause-first_bounds c = let right = right-first c.args.script.now c.in_ok-program.field-0 c.in_ok-program.ensures.script in right.bounds

pub returns-clause-program : goal.returns-clause-program
returns-clause-program c = let right = right-lines c.args.script.now c.in_ok-program.field-0 c.in_ok-program.ensures.script in right.program

pub returns-clause-bounds : goal.returns-clause-bounds
returns-clause-bounds c = let right = right-lines c.args.script.now c.in_ok-program.field-0 c.in_ok-program.ensures.script in right.bounds

pub returns-clause-first_len : goal.returns-clause-first_len
returns-clause-first_len c = first-within c.args.script.now c.in_ok-program.field-0 c.in_ok-program.ensures.script

pub returns-clause-refused_len : goal.returns-clause-refused_len
returns-clause-refused_len c = refused-same c.args.script.now c.in_ok-program.field-0 c.in_ok-program.ensures.script
