use Rattle.std.proofs.Common.{◌+◌, ◌-◌, ◌*◌, take, drop, sym, ◌∙◌}
use Rattle.line_device.specs.Cells.{medium_of}
use Rattle.line_device.proofs.WriteBackLemmas.{persisted-strong}
use Rattle.line_device.proofs.CellsLemmas.{memory-flushed, length-line, get_or-line}
use Rattle.line_device.proofs.plain.cells.Cells.persist.Goals as goal

pub returns-else-is_weak : goal.returns-else-is_weak
returns-else-is_weak c =
    let s = c.args.self.now in
    let start = 64 * c.args.line.0 in
    let piece = take (start + 64 - start) (drop start c.deref.result.now) in
    memory-flushed s.marks.len c.args.line.0 s.marks.items piece s.durable.items c.put.new.list.items s.last.items (length-line c.args.line.0 s.marks.len c.deref.result.now (c.deref.ensures.len ∙ s.last_len) c.requires.within) (get_or-line c.args.line.0 c.deref.result.now s.last.items c.deref.ensures.value) c.put.ensures.bytes
    ∙ sym (persisted-strong (medium_of s) c.args.line.0 (sym c.is_weak.ensures ∙ c.if-is_weak.false))
