use Rattle.append_log.proofs.CallLemmas.{line-answered, line-data, line-done}
use Rattle.append_log.proofs.lines.load_line.Goals as goal

pub returns-in_err-load_into-clause-refused : goal.returns-in_err-load_into-clause-refused
returns-in_err-load_into-clause-refused g c pages holds =
    line-answered c.args.volume.now pages c.args.line c.requires.within _ c.in_err-load_into.field-0.0 c.from_residual.result c.from_residual.ensures.1
    (c.in_err-load_into.ensures.refused pages holds)

pub returns-clause-refused : goal.returns-clause-refused
returns-clause-refused g c pages holds =
    line-done c.args.volume.now pages c.args.line c.requires.within _ c.load_into.new.out c.in_ok-load_into.field-0 (c.in_ok-load_into.ensures.refused pages holds)

pub returns-clause-ok : goal.returns-clause-ok
returns-clause-ok g c pages holds =
    line-data c.args.volume.now pages c.args.line c.requires.within c.load_into.new.out c.in_ok-load_into.field-0 (c.in_ok-load_into.ensures.refused pages holds)
    (c.in_ok-load_into.ensures.loads.ok pages holds)
