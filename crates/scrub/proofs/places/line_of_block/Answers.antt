use Rattle.std.proofs.Common.{◌+◌, refl, ap, arith}
use Rattle.scrub.proofs.UnitLemmas.{nothing_in_block, there_in_block, unit_line, unit_of}
use Rattle.scrub.proofs.places.line_of_block.Goals as goal

pub returns-in_default-clause-refused : goal.returns-in_default-clause-refused
returns-in_default-clause-refused c m =
    nothing_in_block c.args.blocks.now m c.args.block c.args.line c.requires.all (omega (arith, c.count.ensures.count)) c.if-line.false (c.in_default.ensures.none.0 refl)

pub overflow_add-result : goal.overflow_add-result
overflow_add-result c =
    let unit = unit_of c.args.blocks.now c.args.block c.in-Some.ensures.line.0 c.requires.all c.requires.is_map c.in-Some.ensures.line.1 in
    let at = unit_line c.args.blocks.now.geo c.in-Some.ensures.line.0 c.args.line _ c.count.ensures.valid unit c.if-line.false (ap (λ n. n + c.args.line) c.in-Some.ensures.line.2) in
    omega (arith, at.1)

pub returns-clause-refused : goal.returns-clause-refused
returns-clause-refused c m =
    there_in_block c.args.blocks.now m c.args.block c.args.line c.in-Some.ensures.line.0 _ (omega (arith, c.count.ensures.count)) c.if-line.false c.in-Some.ensures.line.1

pub returns-clause-place : goal.returns-clause-place
returns-clause-place c = (
  c.if-line.false,
  record { unit = c.in-Some.ensures.line.0; at = c.in-Some.ensures.line.1; is = ap (λ n. n + c.args.line) c.in-Some.ensures.line.2 },
)
