use Rattle.std.proofs.Common.{set, ◌∙◌, ap, arith}
use Rattle.line_device.specs.Cells.{memory}
use Rattle.line_device.proofs.CellsLemmas.{memory-renewed_good}
use Rattle.line_device.proofs.plain.cells.Cells.renew.Goals as goal

pub returns : goal.returns
returns c =
    let s = c.args.self.now in
    let line = c.args.line.0 in
    let durable = c.put.new.list.items in
    let last = c.put-2.new.list.items in
    ap (λ mark. memory s.marks.len (set s.marks.items line mark) durable last) c.good_mark.ensures
    ∙ memory-renewed_good s.marks.len line c.args.weak s.marks.items c.args.bytes.now s.durable.items s.last.items durable last (omega (arith, s.marks.ok)) c.requires.whole c.put.ensures.bytes c.put-2.ensures.bytes
