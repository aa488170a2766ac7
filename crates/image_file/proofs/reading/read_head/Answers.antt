use Rattle.std.proofs.Common.{sym, ◌∙◌, arith}
use Rattle.image_file.proofs.HeaderLemmas.{head_read}
use Rattle.image_file.proofs.reading.read_head.Goals as goal

pub returns : goal.returns
returns c =
    head_read c.args.units c.args.bytes.now c.in-Some.unit c.in-Some-number_at.count (λ i. omega (arith, c.type_inv.bytes i)) (sym c.starts_with.ensures.value ∙ c.if-not-starts_with.false) (sym c.in-Some.ensures) (sym c.in-Some-number_at.ensures)
