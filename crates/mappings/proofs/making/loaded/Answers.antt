-- Why bytes are not loaded is why they are not copied.
use Rattle.std.proofs.Common.{Err, length, subst, arith}
use Rattle.line_words.specs.Told.{Answers}
use Rattle.line_device.proofs.PanelLemmas.{runs_within}
use Rattle.line_device.proofs.WriteBackLemmas.{write_back-refl}
use Rattle.file_pages.specs.Costs.{lines_there}
use Rattle.file_pages.specs.Refusals.{page_says, read_refusal}
use Rattle.file_pages.proofs.PassLemmas.{length-pages_on, pages_on}
use Rattle.mappings.proofs.FileLemmas.{copy-calls, load-answers, load-runs, zeros-long}
use Rattle.mappings.proofs.making.loaded.Goals as goal

pub returns-in_err-repeat-clause-lines : goal.returns-in_err-repeat-clause-lines
returns-in_err-repeat-clause-lines g c = write_back-refl _

pub returns-in_err-load_into-clause-refused : goal.returns-in_err-load_into-clause-refused
returns-in_err-load_into-clause-refused g c = λ listed file at fed.
    let m = (g.L.Lines.state c.args.dev.now).medium in
    let s = c.args.files.now.journal in
    let size = zeros-long c.args.span.len c.new-copy.result.items c.repeat.new.self.items c.as_mut_slice.result.now c.new-copy.ensures c.in_ok-repeat.ensures.ok c.as_mut_slice.ensures.value in
    let many = length-pages_on s m c.args.inode file.pages (pages_on s m c.args.inode listed file c.requires.tables at) in
    load-answers file.pages c.args.span.start c.args.span.len c.in_err-load_into.field-0.0 c.from_residual-in_err-load_into.result c.requires.some (omega (arith, c.requires.within, many)) c.from_residual-in_err-load_into.ensures.1
    (subst (λ n. Answers {T = Unit {0}} page_says (read_refusal file.pages c.args.span.start n) (Err c.in_err-load_into.field-0.0)) size (c.in_err-load_into.ensures.refused listed file at))

pub returns-in_err-load_into-clause-runs : goal.returns-in_err-load_into-clause-runs
returns-in_err-load_into-clause-runs g c =
    let s = c.args.files.now.journal in
    let size = zeros-long c.args.span.len c.new-copy.result.items c.repeat.new.self.items c.as_mut_slice.result.now c.new-copy.ensures c.in_ok-repeat.ensures.ok c.as_mut_slice.ensures.value in
    load-runs c.in_err-load_into.field-0.0 c.from_residual-in_err-load_into.result (lines_there s c.args.inode c.args.span.start (length c.as_mut_slice.result.now)) _ _ _ c.from_residual-in_err-load_into.ensures.1
    (copy-calls s c.args.inode c.args.span.start c.args.span.len (length c.as_mut_slice.result.now) size) c.in_err-load_into.ensures.runs

pub returns-clause-runs : goal.returns-clause-runs
returns-clause-runs g c =
    let s = c.args.files.now.journal in
    let size = zeros-long c.args.span.len c.new-copy.result.items c.repeat.new.self.items c.as_mut_slice.result.now c.new-copy.ensures c.in_ok-repeat.ensures.ok c.as_mut_slice.ensures.value in
    runs_within (lines_there s c.args.inode c.args.span.start (length c.as_mut_slice.result.now)) 0 _ 0 _ _ _ c.in_ok-load_into.ensures.runs (copy-calls s c.args.inode c.args.span.start c.args.span.len (length c.as_mut_slice.result.now) size) (omega arith)
