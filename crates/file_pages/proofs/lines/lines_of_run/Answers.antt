use Rattle.std.proofs.Common.{refl, ap, ◌∙◌, arith}
use Rattle.word_tables.specs.declared.geometry.Geometry.{Geometry}
use Rattle.word_tables.specs.Layout.{file_line}
use Rattle.file_pages.proofs.LineLemmas.{file_line-few}
use Rattle.file_pages.proofs.StretchLemmas.{hole_stretch, run_below, run_stretch}
use Rattle.file_pages.proofs.lines.lines_of_run.Goals as goal

pub new-requires : goal.new-requires
new-requires c =
    let j = c.args.journal.now in
    let run = c.in-Some.run' in
    let below = run_below j.geo.fpages j.geo j.tables c.run.ensures.tables c.args.inode c.requires.inode c.args.page run c.in-Some.ensures.pages in
    let few = file_line-few j.geo run.unit 0 c.file_line-line.result c.geometry-geo.ensures.valid below (c.file_line-line.ensures ∙ ap (λ (g : Geometry). file_line g run.unit) c.geometry-geo.ensures.geometry) in
    record { fits = omega (arith, few, c.in-Some.ensures.pages.within) }

pub returns-in-Some-clause-lines : goal.returns-in-Some-clause-lines
returns-in-Some-clause-lines c =
    let j = c.args.journal.now in
    let s = c.new in
    run_stretch j.geo.fpages j.geo j.tables c.run.ensures.tables c.args.inode c.requires.inode c.args.page c.in-Some.run' c.in-Some.ensures.pages s.result c.file_line-line.result
    s.ensures.start s.ensures.len s.ensures.line (c.file_line-line.ensures ∙ ap (λ (g : Geometry). file_line g c.in-Some.run'.unit) c.geometry-geo.ensures.geometry)

pub returns-in-None-clause-lines : goal.returns-in-None-clause-lines
returns-in-None-clause-lines c =
    let j = c.args.journal.now in
    let s = c.new-in-None in
    hole_stretch j.geo.fpages j.geo j.tables c.run.ensures.tables c.args.inode c.requires.inode c.args.page s.result c.requires.within (c.in-None.ensures.none.0 refl)
    s.ensures.start s.ensures.len s.ensures.line
