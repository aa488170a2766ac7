use Rattle.std.proofs.Common.{arith}
use Rattle.line_device.proofs.CellsLemmas.{memory-stored, has_words-good}
use Rattle.line_device.proofs.plain.cells.Cells.store.Goals as goal

pub returns : goal.returns
returns c =
    let s = c.args.self.now in
    memory-stored s.marks.len c.args.line.0 c.args.at s.marks.items c.args.bytes.now s.durable.items s.last.items c.put.new.list.items c.put.ensures.small c.requires.fits c.put.ensures.bytes
    (has_words-good s.marks.items c.args.line.0 (omega (arith, s.marks.ok)) c.requires.good)
