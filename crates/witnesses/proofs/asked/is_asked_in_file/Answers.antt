-- Some read of the file is asked.
use Rattle.std.proofs.Common.{◌&&◌, ◌∙◌, rules, tests}
use Rattle.std.specs.Str.{bytes_eq}
use Rattle.std.proofs.lemmas.Iterator.{YieldsList-from_slice}
use Rattle.std.proofs.lemmas.Iterator.Search.{any_from_yields_List}
use Rattle.cut_places.specs.AskedReads.Reads.{page_reply}
use Rattle.cut_places.specs.Outcomes.Pages.{PageRead}
use Rattle.cut_places.specs.AskedReads.declared.reads.FileRead.{FileRead as Asked}
use Rattle.witnesses.specs.Texts.{asks_word}
use Rattle.witnesses.proofs.ListLemmas.{any_of_file}
use Rattle.witnesses.proofs.asked.is_asked_in_file.Goals as goal

pub returns : goal.returns
returns c =
    let p = c.args.p in
    let name = c.args.name.now in
    any_from_yields_List (λ (r : Asked). bytes_eq r.name name && asks_word p r.pages.start r.pages.len (page_reply r.pages.reply)) _ _ _ c.any.ensures.ran
    (YieldsList-from_slice c.args.reads.now cc) (λ x b q k. search (rules, tests))
    ∙ any_of_file (λ (r : PageRead). asks_word p r.start r.len r.reply) name c.args.reads.now
