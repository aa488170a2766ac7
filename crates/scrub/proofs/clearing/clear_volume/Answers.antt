use Rattle.std.proofs.Common.{◌≡◌, ◌⊎◌, inl, inr, ◌/◌, List, true, refl, sym, ◌∙◌}
use Rattle.line_device.proofs.WriteBackLemmas.{write_back-refl}
use Rattle.line_words.proofs.ToldLemmas.{on_worked}
use Rattle.word_tables.specs.Layout.{volume_line}
use Rattle.nvm_model.specs.Cell.{clear_cell}
use Rattle.nvm_model.specs.Page.{Page, change_line}
use Rattle.page_lines.proofs.OthersLemmas.{others-refl, others-wider}
use Rattle.page_lines.proofs.ResultLemmas.{by_answer, on_ok-then}
use Rattle.pm_volume.specs.Object.{volume_place}
use Rattle.scrub.specs.Refusals.{scrub_says}
use Rattle.scrub.proofs.ChangedLemmas.{holds-changed, holds-written, on, reads-held, volume-serves}
use Rattle.scrub.proofs.HealLemmas.{clear-err, clear-ok, clear-others, on_err}
use Rattle.scrub.proofs.OthersLemmas.{but-others}
use Rattle.scrub.proofs.PlacedLemmas.{clear_nowhere, clear_there, on_device, volume_located}
use Rattle.scrub.proofs.clearing.clear_volume.Goals as goal

pub returns-in_err-line-clause-refused : goal.returns-in_err-line-clause-refused
returns-in_err-line-clause-refused g c pages holds =
    clear_nowhere c.args.volume.now.geo.vpages pages c.args.offset c.in_err-line.field-0.0 c.from_residual.result
    (c.in_err-line.ensures.refused (g.L.Lines.state c.args.dev.now).medium pages holds) c.from_residual.ensures.1

pub returns-in_err-line-clause-err : goal.returns-in_err-line-clause-err
returns-in_err-line-clause-err g c = on_err c.from_residual.result (write_back-refl _)

pub returns-in_err-line-clause-outside : goal.returns-in_err-line-clause-outside
returns-in_err-line-clause-outside g c = others-refl _ _

pub clear_bad-requires-clause-there : goal.clear_bad-requires-clause-there
clear_bad-requires-clause-there g c = on_device c.args.volume.now (g.L.Lines.state c.args.dev.now).medium (c.args.offset / 64) c.in_ok-line.line.0 c.requires.serves c.in_ok-line.ensures.place

pub returns-clause-refused : goal.returns-clause-refused
returns-clause-refused g c pages holds =
    let s = c.args.volume.now in
    let m = (g.L.Lines.state c.args.dev.now).medium in
    clear_there (volume_place s.geo s.present true) (volume_line s.geo) s.present (volume_located s.geo s.present) m pages holds.there holds.stand s.geo.vpages c.args.offset c.in_ok-line.line c.clear_bad.result
    (c.in_ok-line.ensures.refused m pages holds) c.in_ok-line.ensures.place c.clear_bad.ensures.refused

pub returns-clause-ok : goal.returns-clause-ok
returns-clause-ok g c =
    let s = c.args.volume.now in
    let old = (g.L.Lines.state c.args.dev.now).medium in
    let new = (g.L.Lines.state c.clear_bad.new.dev).medium in
    on_ok-then c.clear_bad.result (λ x pages holds. holds-changed s old new (c.args.offset / 64) c.in_ok-line.line.0 c.requires.serves c.in_ok-line.ensures.place clear_cell x pages holds)
    (clear-ok old new c.in_ok-line.line.0 c.clear_bad.result c.clear_bad.ensures.refused c.clear_bad.ensures.lines)

pub returns-clause-err : goal.returns-clause-err
returns-clause-err g c = clear-err _ _ c.in_ok-line.line.0 c.clear_bad.result c.clear_bad.ensures.lines

pub returns-clause-images : goal.returns-clause-images
returns-clause-images g c =
    let s = c.args.volume.now in
    let old = (g.L.Lines.state c.args.dev.now).medium in
    let new = (g.L.Lines.state c.clear_bad.new.dev).medium in
    let after = volume-serves s old new (c.args.offset / 64) c.in_ok-line.line.0 c.requires.serves c.in_ok-line.ensures.place
    (but-others (λ l. l ≡ c.in_ok-line.line.0) old new (clear-others old new c.in_ok-line.line.0 c.clear_bad.result c.clear_bad.ensures.lines)) in
    on_worked scrub_says c.clear_bad.result
    (λ (pages : List Page) holds.
    let R : List Page → Type 0 = λ left. (left ≡ pages) ⊎ (left ≡ change_line clear_cell (c.args.offset / 64) pages) in
    by_answer c.clear_bad.result
    (λ x. reads-held s new R (change_line clear_cell (c.args.offset / 64) pages) after
    (holds-changed s old new (c.args.offset / 64) c.in_ok-line.line.0 c.requires.serves c.in_ok-line.ensures.place clear_cell x pages holds) (inr refl))
    (λ x. reads-held s new R pages after (holds-written s old new x pages holds) (inl refl))
    (clear-ok old new c.in_ok-line.line.0 c.clear_bad.result c.clear_bad.ensures.refused c.clear_bad.ensures.lines)
    (clear-err old new c.in_ok-line.line.0 c.clear_bad.result c.clear_bad.ensures.lines))

pub returns-clause-outside : goal.returns-clause-outside
returns-clause-outside g c =
    let s = c.args.volume.now in
    let old = (g.L.Lines.state c.args.dev.now).medium in
    let new = (g.L.Lines.state c.clear_bad.new.dev).medium in
    others-wider (λ l. l ≡ c.in_ok-line.line.0) (λ l. l ≡ volume_line s.geo (c.args.offset / 64)) old new
    (λ l same. same ∙ sym (on s old new (c.args.offset / 64) c.in_ok-line.line.0 c.requires.serves c.in_ok-line.ensures.place))
    (clear-others old new c.in_ok-line.line.0 c.clear_bad.result c.clear_bad.ensures.lines)

pub returns-clause-serves : goal.returns-clause-serves
returns-clause-serves g c =
    let s = c.args.volume.now in
    let old = (g.L.Lines.state c.args.dev.now).medium in
    let new = (g.L.Lines.state c.clear_bad.new.dev).medium in
    volume-serves s old new (c.args.offset / 64) c.in_ok-line.line.0 c.requires.serves c.in_ok-line.ensures.place
    (but-others (λ l. l ≡ c.in_ok-line.line.0) old new (clear-others old new c.in_ok-line.line.0 c.clear_bad.result c.clear_bad.ensures.lines))
