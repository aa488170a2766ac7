use Rattle.file_actions.proofs.DataLemmas.{laid_over}
use Rattle.file_actions.proofs.ranges.lay_one.Goals as goal

pub returns-clause-bytes : goal.returns-clause-bytes
returns-clause-bytes c = λ i within.
    laid_over c.args.range c.args.bytes.now c.args.offset c.args.out.now c.copy_from_slice.new.self c.max-start.result c.min-end.result c.max-start.ensures c.min-end.ensures
    c.if-end-start.false c.requires.bytes c.copy_from_slice.ensures.after i within
