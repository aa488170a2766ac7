-- Each read is asked.
use Rattle.std.proofs.Common.{sym, ◌∙◌, rules, tests}
use Rattle.std.proofs.lemmas.Iterator.{YieldsList-from_slice}
use Rattle.std.proofs.lemmas.Iterator.Search.{all_from_yields_List}
use Rattle.std.proofs.lemmas.List.Folds.{list_all-map}
use Rattle.asked_reads.specs.Reads.{page_read, page_reply}
use Rattle.asked_reads.specs.declared.reads.PageRead.{PageRead as Asked}
use Rattle.asked_reads.specs.Outcomes.Pages.{PageRead, allows_good}
use Rattle.sights.proofs.lines_fit.all_allow_good.Goals as goal

pub returns : goal.returns
returns c =
    let n = c.args.n in
    all_from_yields_List (λ (r : Asked). allows_good n (page_reply r.reply)) _ _ _ c.all.ensures.ran
    (YieldsList-from_slice c.args.reads.now cc) (λ x b q k. search (rules, tests))
    ∙ sym (list_all-map (λ (r : PageRead). allows_good n r.reply) page_read c.args.reads.now)
