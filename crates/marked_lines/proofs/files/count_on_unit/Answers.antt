use Rattle.std.proofs.Common.{count_by, sym, ap, ◌∙◌, arith}
use Rattle.std.specs.List.{range_with_len}
use Rattle.marked_lines.specs.Counting.{has_mark, marked_on_unit}
use Rattle.marked_lines.proofs.FileCountLemmas.{unit_on_device, unit_within}
use Rattle.marked_lines.proofs.files.count_on_unit.Goals as goal

pub count_among-requires : goal.count_among-requires
count_among-requires g c =
    let s = c.args.journal.now in
    let on = c.in-Some.ensures.line in
    let within = unit_within s.geo.fpages s.tables c.args.inode c.args.page on.0 c.in-Some.ensures.tables c.requires.inode c.requires.page on.1 in
    omega (arith, unit_on_device s.geo on.0 within, on.2, c.requires.serves.count)

pub returns-clause-count : goal.returns-clause-count
returns-clause-count g c =
    let m = (g.L.Lines.state c.args.dev.now).medium in
    let on = c.in-Some.ensures.line in
    c.count_among.ensures.count ∙ ap (λ n. count_by (has_mark c.args.mark m) (range_with_len n 64)) on.2
    ∙ sym (ap (marked_on_unit c.args.mark c.args.journal.now.geo m) on.1)
