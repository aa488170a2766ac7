-- Each read of the file is asked.
use Rattle.std.proofs.Common.{◌||◌, not, ◌∙◌, rules, tests}
use Rattle.std.specs.Str.{bytes_eq}
use Rattle.std.proofs.lemmas.Iterator.{YieldsList-from_slice}
use Rattle.std.proofs.lemmas.Iterator.Search.{all_from_yields_List}
use Rattle.sights.specs.AskedReads.Reads.{page_reply}
use Rattle.sights.specs.Outcomes.Pages.{PageRead, agrees}
use Rattle.sights.specs.AskedReads.declared.reads.FileRead.{FileRead as Asked}
use Rattle.cut_places.proofs.AskedLemmas.{all_of_file}
use Rattle.cut_places.proofs.line_fits.agree.Goals as goal

pub returns : goal.returns
returns c =
    let p = c.args.p in
    let v = c.args.value in
    let name = c.args.name.now in
    all_from_yields_List (λ (r : Asked). not (bytes_eq r.name name) || agrees p v r.pages.start r.pages.len (page_reply r.pages.reply)) _ _ _ c.all.ensures.ran
    (YieldsList-from_slice c.args.reads.now cc) (λ x b q k. search (rules, tests))
    ∙ all_of_file (λ (r : PageRead). agrees p v r.start r.len r.reply) name c.args.reads.now
