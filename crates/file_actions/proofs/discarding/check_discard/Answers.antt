use Rattle.std.proofs.Common.{◌≡◌, Ok, Err, length, sym, subst, ◌∙◌}
use Rattle.line_words.specs.Told.{Checks}
use Rattle.word_tables.specs.declared.geometry.Geometry.{Geometry}
use Rattle.page_lines.proofs.ResultLemmas.{checks_found, checks_second}
use Rattle.file_pages.proofs.PassLemmas.{length-pages_on, pages_on}
use Rattle.file_actions.specs.Refusals.{action_says, metadata_refusal, pages_refusal}
use Rattle.file_actions.proofs.discarding.check_discard.Goals as goal

pub returns-in_err-check_pages-clause-refused : goal.returns-in_err-check_pages-clause-refused
returns-in_err-check_pages-clause-refused g c = λ listed file at.
    let m = (g.L.Lines.state c.args.dev.now).medium in
    let s = c.args.journal.now in
    let size : c.pages.result ≡ length file.pages = c.pages.ensures.pages ∙ sym (length-pages_on s m c.args.inode file.pages (pages_on s m c.args.inode listed file c.pages.ensures.tables at)) in
    checks_found action_says _ _ _ _ c.in_err-check_pages.field-0.0 c.from_residual.result c.from_residual.ensures.1
    (subst (λ n. Checks {T = Unit {0}} action_says (pages_refusal n c.args.pages) (Err c.in_err-check_pages.field-0.0)) size c.in_err-check_pages.ensures.refused)

pub returns-clause-refused : goal.returns-clause-refused
returns-clause-refused g c = λ listed file at.
    let m = (g.L.Lines.state c.args.dev.now).medium in
    let s = c.args.journal.now in
    let size : c.pages.result ≡ length file.pages = c.pages.ensures.pages ∙ sym (length-pages_on s m c.args.inode file.pages (pages_on s m c.args.inode listed file c.pages.ensures.tables at)) in
    checks_second action_says _ _ tt c.check_meta.result
    (subst (λ n. Checks {T = Unit {0}} action_says (pages_refusal n c.args.pages) (Ok tt)) size c.in_ok-check_pages.ensures.refused)
    (subst (λ (geo : Geometry). Checks action_says (metadata_refusal geo m) c.check_meta.result) c.geometry-geo.ensures.geometry c.check_meta.ensures.refused)
