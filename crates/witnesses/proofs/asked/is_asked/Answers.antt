-- Each read is asked.
use Rattle.std.proofs.Common.{sym, ◌∙◌, rules, tests}
use Rattle.std.proofs.lemmas.Iterator.{YieldsList-from_slice}
use Rattle.std.proofs.lemmas.Iterator.Search.{any_from_yields_List}
use Rattle.cut_places.specs.AskedReads.Reads.{page_read, page_reply}
use Rattle.cut_places.specs.AskedReads.declared.reads.PageRead.{PageRead as Asked}
use Rattle.cut_places.specs.Outcomes.Pages.{PageRead}
use Rattle.witnesses.specs.Texts.{asks_word}
use Rattle.witnesses.proofs.ListLemmas.{any_map}
use Rattle.witnesses.proofs.asked.is_asked.Goals as goal

pub returns : goal.returns
returns c =
    let p = c.args.p in
    any_from_yields_List (λ (r : Asked). asks_word p r.start r.len (page_reply r.reply)) _ _ _ c.any.ensures.ran
    (YieldsList-from_slice c.args.reads.now cc) (λ x b q k. search (rules, tests))
    ∙ sym (any_map (λ (r : PageRead). asks_word p r.start r.len r.reply) page_read c.args.reads.now)
