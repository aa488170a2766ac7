use Rattle.std.proofs.Common.{sym, ap, ◌∙◌, arith}
use Rattle.word_tables.specs.declared.geometry.Geometry.{Geometry}
use Rattle.word_tables.specs.Layout.{file_line}
use Rattle.file_pages.proofs.LineLemmas.{file_line-few, unit_below}
use Rattle.file_pages.proofs.StretchLemmas.{hole_stretch, page_stretch}
use Rattle.file_pages.proofs.lines.lines_of_page.Goals as goal

pub new-requires : goal.new-requires
new-requires c =
    let j = c.args.journal.now in
    let below = unit_below j.geo.fpages j.tables c.unit.ensures.tables c.args.inode c.requires.inode c.args.page c.requires.within c.in-Some.unit (sym c.in-Some.is ∙ c.unit.ensures.unit) in
    let few = file_line-few j.geo c.in-Some.unit 0 c.file_line-line.result c.geometry-geo.ensures.valid below (c.file_line-line.ensures ∙ ap (λ (g : Geometry). file_line g c.in-Some.unit) c.geometry-geo.ensures.geometry) in
    record { fits = omega (arith, few) }

pub returns-in-Some-clause-lines : goal.returns-in-Some-clause-lines
returns-in-Some-clause-lines c =
    let j = c.args.journal.now in
    let s = c.new in
    page_stretch j.geo.fpages j.geo j.tables c.unit.ensures.tables c.args.inode c.requires.inode c.args.page c.in-Some.unit c.file_line-line.result s.result c.requires.within
    (sym c.in-Some.is ∙ c.unit.ensures.unit) s.ensures.start s.ensures.len s.ensures.line
    (c.file_line-line.ensures ∙ ap (λ (g : Geometry). file_line g c.in-Some.unit) c.geometry-geo.ensures.geometry)

pub returns-in-None-clause-lines : goal.returns-in-None-clause-lines
returns-in-None-clause-lines c =
    let j = c.args.journal.now in
    let s = c.new-in-None in
    hole_stretch j.geo.fpages j.geo j.tables c.unit.ensures.tables c.args.inode c.requires.inode c.args.page s.result c.requires.within (sym c.unit.ensures.unit ∙ c.in-None.is)
    s.ensures.start s.ensures.len s.ensures.line
