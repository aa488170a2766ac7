use Rattle.std.proofs.Common.{◌≡◌, ◌*◌, replicate, ◌∙◌, rules}
use Rattle.line_device.specs.declared.plain.cells.Mark.TheVariants.{Healthy}
use Rattle.line_device.specs.Cells.{memory}
use Rattle.line_device.proofs.CellsLemmas.{memory-zeros}
use Rattle.line_device.proofs.plain.cells.Cells.reset.Goals as goal

pub returns-clause-ok : goal.returns-clause-ok
returns-clause-ok c =
    let n = 64 * c.args.lines in
    let durable : c.in_ok-durable.durable.items ≡ replicate n 0 = c.in_ok-durable.ensures.items_if_clones_equal (λ y is. search rules) in
    let last : c.in_ok-last.last.items ≡ replicate n 0 = c.in_ok-last.ensures.items_if_clones_equal (λ y is. search rules) in
    let marks : c.in_ok-marks.marks.items ≡ replicate c.args.lines Healthy = c.in_ok-marks.ensures.items_if_clones_equal (λ y is. search rules) in
    let count = c.in_ok-marks.ensures.len in
    (λ i. memory (count i) (marks i) (durable i) (last i)) ∙ memory-zeros c.args.lines n n
