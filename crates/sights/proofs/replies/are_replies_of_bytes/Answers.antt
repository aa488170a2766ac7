-- Each reply is asked.
use Rattle.std.proofs.Common.{sym, ◌∙◌, rules, tests}
use Rattle.std.proofs.lemmas.Iterator.{YieldsList-from_slice}
use Rattle.std.proofs.lemmas.Iterator.Search.{all_from_yields_List}
use Rattle.std.proofs.lemmas.List.Folds.{list_all-map}
use Rattle.asked_reads.specs.Reads.{page_read}
use Rattle.asked_reads.specs.declared.reads.PageRead.{PageRead}
use Rattle.asked_reads.specs.Outcomes.Pages.{is_reply}
use Rattle.sights.proofs.replies.are_replies_of_bytes.Goals as goal

pub returns : goal.returns
returns c =
    let size = c.args.size in
    all_from_yields_List (λ (r : PageRead). is_reply size (page_read r)) _ _ _ c.all.ensures.ran
    (YieldsList-from_slice c.args.reads.now cc) (λ x b q k. search (rules, tests))
    ∙ sym (list_all-map (is_reply size) page_read c.args.reads.now)
