use Rattle.std.proofs.Common.{◌≡◌, ◌/◌, Ok}
use Rattle.nvm_model.specs.Cell.{weaken_cell}
use Rattle.marked_lines.proofs.ApartLemmas.{file_apart}
use Rattle.scrub.specs.Refusals.{weaken_says}
use Rattle.scrub.proofs.LineLemmas.{changes-weakened}
use Rattle.scrub.proofs.MarkLemmas.{marked_file, starved, unmarked_file}
use Rattle.scrub.proofs.OthersLemmas.{but-weakens, but-write_back}
use Rattle.scrub.proofs.weakening.weaken_file.Goals as goal

pub returns-in_err-line-clause-marks : goal.returns-in_err-line-clause-marks
returns-in_err-line-clause-marks g c =
    unmarked_file g.L.Lines.state c.args.files.now c.args.dev.now weaken_says weaken_cell c.args.inode c.args.offset c.requires.inode c.requires.serves c.in_err-line.field-0.0 c.in_err-line.ensures.refused
    c.from_residual.result c.from_residual.ensures.1

pub weaken-requires : goal.weaken-requires
weaken-requires g c =
    (file_apart c.args.files.now.journal (g.L.Lines.state c.args.dev.now).medium c.args.inode c.in_ok-line.ensures.tables c.requires.inode c.requires.serves).on (c.args.offset / 64) c.in_ok-line.line.0
    c.in_ok-line.ensures.place

pub returns-in_err-weaken-clause-marks : goal.returns-in_err-weaken-clause-marks
returns-in_err-weaken-clause-marks g c =
    let old = (g.L.Lines.state c.args.dev.now).medium in
    let new = (g.L.Lines.state c.weaken.new.self).medium in
    let line = c.in_ok-line.line in
    let found = c.in_ok-line.ensures in
    let r = c.from_residual-in_err-weaken.result in
    marked_file g.L.Lines.state c.args.files.now c.args.dev.now weaken_says weaken_cell c.args.inode c.args.offset c.requires.inode c.requires.serves line found.refused found.place found.valid found.tables c.weaken.new.self
    (but-write_back (λ l. l ≡ line.0) old new c.in_err-weaken.ensures.lines) c.weaken.ensures.panel r (starved weaken_says weaken_cell line.0 old new r c.from_residual-in_err-weaken.ensures.1)

pub returns-clause-marks : goal.returns-clause-marks
returns-clause-marks g c =
    let old = (g.L.Lines.state c.args.dev.now).medium in
    let new = (g.L.Lines.state c.weaken.new.self).medium in
    let line = c.in_ok-line.line in
    let found = c.in_ok-line.ensures in
    marked_file g.L.Lines.state c.args.files.now c.args.dev.now weaken_says weaken_cell c.args.inode c.args.offset c.requires.inode c.requires.serves line found.refused found.place found.valid found.tables c.weaken.new.self
    (but-weakens old new line.0 c.in_ok-weaken.ensures.lines) c.weaken.ensures.panel (Ok tt) (changes-weakened old new line.0 c.in_ok-weaken.ensures.lines)
