use Rattle.std.proofs.Common.{◌≡◌, ◌/◌, Ok}
use Rattle.nvm_model.specs.Cell.{weaken_cell}
use Rattle.scrub.specs.Refusals.{weaken_says}
use Rattle.scrub.proofs.LineLemmas.{changes-weakened}
use Rattle.scrub.proofs.MarkLemmas.{marked_volume, starved, unmarked_volume}
use Rattle.scrub.proofs.OthersLemmas.{but-weakens, but-write_back}
use Rattle.scrub.proofs.PlacedLemmas.{on_device}
use Rattle.scrub.proofs.weakening.weaken_volume.Goals as goal

pub line_of_byte-requires : goal.line_of_byte-requires
line_of_byte-requires g c = c.requires.serves.all

pub returns-in_err-line-clause-marks : goal.returns-in_err-line-clause-marks
returns-in_err-line-clause-marks g c =
    unmarked_volume g.L.Lines.state c.args.volume.now c.args.dev.now weaken_says weaken_cell c.args.offset c.requires.serves c.in_err-line.field-0.0 c.in_err-line.ensures.refused
    c.from_residual.result c.from_residual.ensures.1

pub weaken-requires : goal.weaken-requires
weaken-requires g c = on_device c.args.volume.now (g.L.Lines.state c.args.dev.now).medium (c.args.offset / 64) c.in_ok-line.line.0 c.requires.serves c.in_ok-line.ensures.place

pub returns-in_err-weaken-clause-marks : goal.returns-in_err-weaken-clause-marks
returns-in_err-weaken-clause-marks g c =
    let old = (g.L.Lines.state c.args.dev.now).medium in
    let new = (g.L.Lines.state c.weaken.new.self).medium in
    let line = c.in_ok-line.line in
    let r = c.from_residual-in_err-weaken.result in
    marked_volume g.L.Lines.state c.args.volume.now c.args.dev.now weaken_says weaken_cell c.args.offset c.requires.serves line c.in_ok-line.ensures.refused c.in_ok-line.ensures.place c.weaken.new.self
    (but-write_back (λ l. l ≡ line.0) old new c.in_err-weaken.ensures.lines) c.weaken.ensures.panel r (starved weaken_says weaken_cell line.0 old new r c.from_residual-in_err-weaken.ensures.1)

pub returns-clause-marks : goal.returns-clause-marks
returns-clause-marks g c =
    let old = (g.L.Lines.state c.args.dev.now).medium in
    let new = (g.L.Lines.state c.weaken.new.self).medium in
    let line = c.in_ok-line.line in
    marked_volume g.L.Lines.state c.args.volume.now c.args.dev.now weaken_says weaken_cell c.args.offset c.requires.serves line c.in_ok-line.ensures.refused c.in_ok-line.ensures.place c.weaken.new.self
    (but-weakens old new line.0 c.in_ok-weaken.ensures.lines) c.weaken.ensures.panel (Ok tt) (changes-weakened old new line.0 c.in_ok-weaken.ensures.lines)
