use Rattle.std.proofs.Common.{Err}
use Rattle.page_lines.proofs.ResultLemmas.{checks_found}
use Rattle.file_pages.specs.Refusals.{page_says}
use Rattle.file_pages.proofs.PassLemmas.{bytes_checked, readable, reads_checked}
use Rattle.file_pages.proofs.checks.check_readable.Goals as goal

pub returns-in_err-check_bytes-clause-refused : goal.returns-in_err-check_bytes-clause-refused
returns-in_err-check_bytes-clause-refused g c = λ files file at.
    let m = (g.L.Lines.state c.args.dev.now).medium in
    let s = c.args.journal.now in
    checks_found page_says _ _ _ _ c.in_err-check_bytes.field-0.0 c.from_residual.result c.from_residual.ensures.1
    (bytes_checked s m c.args.inode c.in_err-check_bytes.ensures.tables c.args.span c.check_bytes.result files file at (Err c.in_err-check_bytes.field-0.0) c.in_err-check_bytes.ensures.refused)

pub returns-clause-refused : goal.returns-clause-refused
returns-clause-refused g c = λ files file at.
    let m = (g.L.Lines.state c.args.dev.now).medium in
    reads_checked c.args.journal.now m c.args.inode c.in_ok-check_bytes.ensures.tables c.args.span c.check_lines.result files file at c.in_ok-check_bytes.ensures.refused c.check_lines.ensures.refused

pub returns-clause-readable : goal.returns-clause-readable
returns-clause-readable g c =
    let m = (g.L.Lines.state c.args.dev.now).medium in
    readable c.args.journal.now m c.args.inode c.in_ok-check_bytes.ensures.tables c.args.span c.check_lines.result c.in_ok-check_bytes.ensures.some c.in_ok-check_bytes.ensures.within c.check_lines.ensures.refused
