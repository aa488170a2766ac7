use Rattle.std.proofs.Common.{◌+◌, ◌-◌, ◌*◌, take, drop, ◌∙◌, arith}
use Rattle.line_device.proofs.CellsLemmas.{is_line-memory, has_words-good, length-line, get_or-line}
use Rattle.line_device.proofs.plain.cells.Cells.line.Goals as goal

pub returns : goal.returns
returns c =
    let s = c.args.self.now in
    let start = 64 * c.args.line.0 in
    let piece = take (start + 64 - start) (drop start c.deref.result.now) in
    is_line-memory s.marks.len c.args.line.0 s.marks.items s.durable.items s.last.items piece (length-line c.args.line.0 s.marks.len c.deref.result.now (c.deref.ensures.len ∙ s.last_len) c.requires.within) (get_or-line c.args.line.0 c.deref.result.now s.last.items c.deref.ensures.value)
    (has_words-good s.marks.items c.args.line.0 (omega (arith, s.marks.ok)) c.requires.good)
