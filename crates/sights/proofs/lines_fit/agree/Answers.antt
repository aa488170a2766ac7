-- Each read is asked.
use Rattle.std.proofs.Common.{sym, ◌∙◌, rules, tests}
use Rattle.std.proofs.lemmas.Iterator.{YieldsList-from_slice}
use Rattle.std.proofs.lemmas.Iterator.Search.{all_from_yields_List}
use Rattle.std.proofs.lemmas.List.Folds.{list_all-map}
use Rattle.asked_reads.specs.Reads.{page_read, page_reply}
use Rattle.asked_reads.specs.declared.reads.PageRead.{PageRead as Asked}
use Rattle.asked_reads.specs.Outcomes.Pages.{PageRead, agrees}
use Rattle.sights.proofs.lines_fit.agree.Goals as goal

pub returns : goal.returns
returns c =
    let p = c.args.p in
    let v = c.args.value in
    all_from_yields_List (λ (r : Asked). agrees p v r.start r.len (page_reply r.reply)) _ _ _ c.all.ensures.ran
    (YieldsList-from_slice c.args.reads.now cc) (λ x b q k. search (rules, tests))
    ∙ sym (list_all-map (λ (r : PageRead). agrees p v r.start r.len r.reply) page_read c.args.reads.now)
