-- Each read of the file is asked.
use Rattle.std.proofs.Common.{◌||◌, not, ◌∙◌, rules, tests}
use Rattle.std.specs.Str.{bytes_eq}
use Rattle.std.proofs.lemmas.Iterator.{YieldsList-from_slice}
use Rattle.std.proofs.lemmas.Iterator.Search.{all_from_yields_List}
use Rattle.sights.specs.AskedReads.Reads.{page_reply}
use Rattle.sights.specs.Outcomes.Pages.{PageRead, allows_bad}
use Rattle.sights.specs.AskedReads.declared.reads.FileRead.{FileRead as Asked}
use Rattle.cut_places.proofs.AskedLemmas.{all_of_file}
use Rattle.cut_places.proofs.line_fits.all_allow_bad.Goals as goal

pub returns : goal.returns
returns c =
    let n = c.args.n in
    let name = c.args.name.now in
    all_from_yields_List (λ (r : Asked). not (bytes_eq r.name name) || allows_bad n r.pages.start r.pages.len (page_reply r.pages.reply)) _ _ _ c.all.ensures.ran
    (YieldsList-from_slice c.args.reads.now cc) (λ x b q k. search (rules, tests))
    ∙ all_of_file (λ (r : PageRead). allows_bad n r.start r.len r.reply) name c.args.reads.now
