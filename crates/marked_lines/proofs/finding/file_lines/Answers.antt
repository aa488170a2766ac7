use Rattle.std.proofs.Common.{Ok, length, sym, ap, subst, ◌∙◌}
use Rattle.line_words.specs.Told.{Answers, Checks}
use Rattle.inode_table.specs.Slots.{pages_at}
use Rattle.nvm_model.specs.Events.{offsets_of}
use Rattle.file_pages.proofs.PassLemmas.{length-pages_on, pages_on}
use Rattle.marked_lines.specs.Spans.{lines_says, span_refusal}
use Rattle.marked_lines.proofs.FoundLemmas.{found_touched}
use Rattle.marked_lines.proofs.ToldLemmas.{told-err, told-ok, told-starved}
use Rattle.marked_lines.proofs.finding.file_lines.Goals as goal

pub returns-in_err-check_span-clause-refused : goal.returns-in_err-check_span-clause-refused
returns-in_err-check_span-clause-refused g c all file is =
    let s = c.args.files.now.journal in
    let m = (g.L.Lines.state c.args.dev.now).medium in
    let size = length-pages_on s m c.args.inode file.pages (pages_on s m c.args.inode all file c.in_err-check_span.ensures.tables is) in
    subst (λ n. Answers lines_says (span_refusal n c.args.span) c.from_residual.result) (sym size)
    (told-err (Unit {0}) lines_says (span_refusal (pages_at s.tables.files c.args.inode) c.args.span) c.in_err-check_span.field-0.0 c.from_residual.result c.in_err-check_span.ensures.refused c.from_residual.ensures.1)

pub returns-in_err-lines-clause-refused : goal.returns-in_err-lines-clause-refused
returns-in_err-lines-clause-refused g c all file is =
    let s = c.args.files.now.journal in
    let m = (g.L.Lines.state c.args.dev.now).medium in
    let size = length-pages_on s m c.args.inode file.pages (pages_on s m c.args.inode all file c.in_ok-check_span.ensures.tables is) in
    subst (λ n. Answers lines_says (span_refusal n c.args.span) c.from_residual-in_err-lines.result) (sym size)
    (told-starved lines_says (span_refusal (pages_at s.tables.files c.args.inode) c.args.span) tt c.from_residual-in_err-lines.result c.in_ok-check_span.ensures.refused c.from_residual-in_err-lines.ensures.1)

pub returns-clause-refused : goal.returns-clause-refused
returns-clause-refused g c all file is =
    let s = c.args.files.now.journal in
    let m = (g.L.Lines.state c.args.dev.now).medium in
    let size = length-pages_on s m c.args.inode file.pages (pages_on s m c.args.inode all file c.in_ok-check_span.ensures.tables is) in
    told-ok lines_says (span_refusal (length file.pages) c.args.span) tt _
    (subst (λ n. Checks {T = Unit {0}} lines_says (span_refusal n c.args.span) (Ok tt)) (sym size) c.in_ok-check_span.ensures.refused)

pub returns-clause-ok : goal.returns-clause-ok
returns-clause-ok g c all file is =
    c.in_ok-lines.ensures
    ∙ ap offsets_of (found_touched c.args.files.now.journal (g.L.Lines.state c.args.dev.now).medium c.args.inode c.in_ok-check_span.ensures.tables all file is c.args.span c.lines_of.result
    c.lines_of.ensures.value c.in_ok-check_span.ensures.some c.in_ok-check_span.ensures.within)
