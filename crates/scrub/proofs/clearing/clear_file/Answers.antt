use Rattle.std.proofs.Common.{◌≡◌, ◌⊎◌, inl, inr, ◌/◌, List, length, refl}
use Rattle.line_device.proofs.WriteBackLemmas.{write_back-refl}
use Rattle.line_words.proofs.ToldLemmas.{on_worked}
use Rattle.nvm_model.specs.Cell.{clear_cell}
use Rattle.nvm_model.specs.Files.{on_pages}
use Rattle.nvm_model.specs.Listing.{change_file, file_name}
use Rattle.nvm_model.specs.Page.{change_line}
use Rattle.nvm_model.specs.Storage.{File}
use Rattle.page_lines.proofs.OthersLemmas.{others-refl}
use Rattle.page_lines.proofs.ResultLemmas.{by_answer, on_ok-then}
use Rattle.file_pages.proofs.WorkLemmas.{reads-left}
use Rattle.scrub.specs.Refusals.{scrub_says}
use Rattle.marked_lines.proofs.ApartLemmas.{file_apart}
use Rattle.scrub.proofs.FileChangedLemmas.{file-marks, file-others, file-serves, files-changed_at, files-written}
use Rattle.scrub.proofs.FilePlaceLemmas.{file_clear_there}
use Rattle.scrub.proofs.HealLemmas.{clear-err, clear-ok, clear-others, on_err}
use Rattle.scrub.proofs.OthersLemmas.{but-others}
use Rattle.scrub.proofs.PlacedLemmas.{clear_nowhere}
use Rattle.scrub.proofs.clearing.clear_file.Goals as goal

pub returns-in_err-line-clause-refused : goal.returns-in_err-line-clause-refused
returns-in_err-line-clause-refused g c all file is =
    clear_nowhere (length file.pages) file.pages c.args.offset c.in_err-line.field-0.0 c.from_residual.result
    (c.in_err-line.ensures.refused (g.L.Lines.state c.args.dev.now).medium all file is) c.from_residual.ensures.1

pub returns-in_err-line-clause-err : goal.returns-in_err-line-clause-err
returns-in_err-line-clause-err g c = on_err c.from_residual.result (write_back-refl _)

pub returns-in_err-line-clause-outside : goal.returns-in_err-line-clause-outside
returns-in_err-line-clause-outside g c = others-refl _ _

pub clear_bad-requires-clause-there : goal.clear_bad-requires-clause-there
clear_bad-requires-clause-there g c =
    (file_apart c.args.files.now.journal (g.L.Lines.state c.args.dev.now).medium c.args.inode c.in_ok-line.ensures.tables c.requires.inode c.requires.serves).on (c.args.offset / 64) c.in_ok-line.line.0
    c.in_ok-line.ensures.place

pub returns-clause-refused : goal.returns-clause-refused
returns-clause-refused g c all file is =
    let m = (g.L.Lines.state c.args.dev.now).medium in
    file_clear_there c.args.files.now.journal m c.args.inode c.args.offset c.in_ok-line.ensures.tables all file is c.in_ok-line.line c.clear_bad.result
    (c.in_ok-line.ensures.refused m all file is) c.in_ok-line.ensures.place c.clear_bad.ensures.refused

pub returns-clause-ok : goal.returns-clause-ok
returns-clause-ok g c =
    let s = c.args.files.now.journal in
    let old = (g.L.Lines.state c.args.dev.now).medium in
    let new = (g.L.Lines.state c.clear_bad.new.dev).medium in
    on_ok-then c.clear_bad.result
    (λ x. files-changed_at s old new c.args.inode (c.args.offset / 64) c.in_ok-line.line.0 c.in_ok-line.ensures.valid c.in_ok-line.ensures.tables c.requires.inode c.requires.serves
    c.in_ok-line.ensures.place clear_cell x)
    (clear-ok old new c.in_ok-line.line.0 c.clear_bad.result c.clear_bad.ensures.refused c.clear_bad.ensures.lines)

pub returns-clause-err : goal.returns-clause-err
returns-clause-err g c = clear-err _ _ c.in_ok-line.line.0 c.clear_bad.result c.clear_bad.ensures.lines

pub returns-clause-images : goal.returns-clause-images
returns-clause-images g c =
    let s = c.args.files.now.journal in
    let old = (g.L.Lines.state c.args.dev.now).medium in
    let new = (g.L.Lines.state c.clear_bad.new.dev).medium in
    let after = file-serves s old new c.args.inode (c.args.offset / 64) c.in_ok-line.line.0 c.in_ok-line.ensures.valid c.in_ok-line.ensures.tables c.requires.inode c.requires.serves
    c.in_ok-line.ensures.place
    (but-others (λ l. l ≡ c.in_ok-line.line.0) old new (clear-others old new c.in_ok-line.line.0 c.clear_bad.result c.clear_bad.ensures.lines)) in
    on_worked scrub_says c.clear_bad.result
    (λ (all : List File) (file : File) is.
    let next = change_file file_name file.name (on_pages (change_line clear_cell (c.args.offset / 64))) all in
    let R : List File → Type 0 = λ left. (left ≡ all) ⊎ (left ≡ next) in
    by_answer c.clear_bad.result
    (λ x. reads-left s new next R c.in_ok-line.ensures.tables after (files-changed_at s old new c.args.inode (c.args.offset / 64) c.in_ok-line.line.0 c.in_ok-line.ensures.valid c.in_ok-line.ensures.tables c.requires.inode c.requires.serves
    c.in_ok-line.ensures.place clear_cell x all file is) (inr refl))
    (λ x. reads-left s new all R c.in_ok-line.ensures.tables after (files-written s old new c.in_ok-line.ensures.tables x all is.stand) (inl refl))
    (clear-ok old new c.in_ok-line.line.0 c.clear_bad.result c.clear_bad.ensures.refused c.clear_bad.ensures.lines)
    (clear-err old new c.in_ok-line.line.0 c.clear_bad.result c.clear_bad.ensures.lines))

pub returns-clause-outside : goal.returns-clause-outside
returns-clause-outside g c =
    let s = c.args.files.now.journal in
    let old = (g.L.Lines.state c.args.dev.now).medium in
    let new = (g.L.Lines.state c.clear_bad.new.dev).medium in
    file-others s old new c.args.inode (c.args.offset / 64) c.in_ok-line.line.0 c.in_ok-line.ensures.valid c.in_ok-line.ensures.tables c.requires.inode c.requires.serves
    c.in_ok-line.ensures.place
    (clear-others old new c.in_ok-line.line.0 c.clear_bad.result c.clear_bad.ensures.lines)

pub returns-clause-metadata : goal.returns-clause-metadata
returns-clause-metadata g c =
    let s = c.args.files.now.journal in
    let old = (g.L.Lines.state c.args.dev.now).medium in
    let new = (g.L.Lines.state c.clear_bad.new.dev).medium in
    file-marks s old new c.args.inode (c.args.offset / 64) c.in_ok-line.line.0 c.in_ok-line.ensures.valid c.in_ok-line.ensures.tables c.requires.inode c.requires.serves
    c.in_ok-line.ensures.place
    (but-others (λ l. l ≡ c.in_ok-line.line.0) old new (clear-others old new c.in_ok-line.line.0 c.clear_bad.result c.clear_bad.ensures.lines))

pub returns-clause-serves : goal.returns-clause-serves
returns-clause-serves g c =
    let s = c.args.files.now.journal in
    let old = (g.L.Lines.state c.args.dev.now).medium in
    let new = (g.L.Lines.state c.clear_bad.new.dev).medium in
    file-serves s old new c.args.inode (c.args.offset / 64) c.in_ok-line.line.0 c.in_ok-line.ensures.valid c.in_ok-line.ensures.tables c.requires.inode c.requires.serves
    c.in_ok-line.ensures.place
    (but-others (λ l. l ≡ c.in_ok-line.line.0) old new (clear-others old new c.in_ok-line.line.0 c.clear_bad.result c.clear_bad.ensures.lines))
