use Rattle.std.proofs.Common.{Ok, Err, arith}
use Rattle.std.proofs.lemmas.Result.{err_from_is_err_and}
use Rattle.image_file.specs.declared.fault.ImageFault.TheVariants.{Bad}
use Rattle.image_file.proofs.ByteLemmas.{bytes_behind}
use Rattle.image_file.proofs.TextLemmas.{whole_read, lines_wrong, image_only}
use Rattle.image_file.proofs.reading.read.Goals as goal

pub returns-in_ok-lines-in-Ok-clause-image : goal.returns-in_ok-lines-in-Ok-clause-image
returns-in_ok-lines-in-Ok-clause-image c = whole_read c.args.units c.args.bytes.now c.in-Ok.unit c.in-Ok.count c.in_ok-lines-in-Ok.lines c.in-Ok.ensures c.in_ok-lines-in-Ok.ensures

pub returns-in_ok-lines-in-Ok-clause-only : goal.returns-in_ok-lines-in-Ok-clause-only
returns-in_ok-lines-in-Ok-clause-only c = image_only c.args.units c.args.bytes.now (Ok (record { unit = c.in-Ok.unit; lines = c.in_ok-lines-in-Ok.lines })) (whole_read c.args.units c.args.bytes.now c.in-Ok.unit c.in-Ok.count c.in_ok-lines-in-Ok.lines c.in-Ok.ensures c.in_ok-lines-in-Ok.ensures)

pub returns-in_err-lines-in-Ok-clause-image : goal.returns-in_err-lines-in-Ok-clause-image
returns-in_err-lines-in-Ok-clause-image c =
    let p = err_from_is_err_and c.from_residual.result c.from_residual.ensures.1 in
    rw (p.1, p.2) (lines_wrong c.args.units c.args.bytes.now c.in-Ok.unit c.in-Ok.count c.in_err-lines-in-Ok.field-0.0 c.in-Ok.ensures c.in_err-lines-in-Ok.ensures)

pub returns-in_err-lines-in-Ok-clause-only : goal.returns-in_err-lines-in-Ok-clause-only
returns-in_err-lines-in-Ok-clause-only c =
    let p = err_from_is_err_and c.from_residual.result c.from_residual.ensures.1 in
    rw (p.1, p.2) (image_only c.args.units c.args.bytes.now (Err c.in_err-lines-in-Ok.field-0.0) (lines_wrong c.args.units c.args.bytes.now c.in-Ok.unit c.in-Ok.count c.in_err-lines-in-Ok.field-0.0 c.in-Ok.ensures c.in_err-lines-in-Ok.ensures))

pub returns-in-Err-clause-only : goal.returns-in-Err-clause-only
returns-in-Err-clause-only c = image_only c.args.units c.args.bytes.now (Err (Bad c.in-Err.offset)) c.in-Err.ensures

pub returns-in_ok-lines-in-Ok-clause-bytes : goal.returns-in_ok-lines-in-Ok-clause-bytes
returns-in_ok-lines-in-Ok-clause-bytes c = bytes_behind 24 c.args.bytes.now c.in_ok-lines-in-Ok.lines.items (λ i. omega (arith, c.type_inv.bytes i)) c.in_ok-lines-in-Ok.ensures.0
