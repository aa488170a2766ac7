-- Each read is asked.
use Rattle.std.proofs.Common.{sym, ◌∙◌, rules, tests}
use Rattle.std.proofs.lemmas.Iterator.{YieldsList-from_slice}
use Rattle.std.proofs.lemmas.Iterator.Search.{all_from_yields_List}
use Rattle.std.proofs.lemmas.List.Folds.{list_all-map}
use Rattle.nvm_model.specs.Listing.{file_of}
use Rattle.sights.specs.AskedReads.Reads.{page_read}
use Rattle.sights.specs.Outcomes.Files.{FileRead}
use Rattle.sights.specs.AskedReads.declared.reads.FileRead.{FileRead as Asked}
use Rattle.sights.specs.AskedReads.Reads.{file_read, file_reads_asked}
use Rattle.cut_places.specs.FileFitting.{now_fits, read_passes}
use Rattle.cut_places.specs.FilesState.{name_seen}
use Rattle.cut_places.proofs.fitting.all_fit.Goals as goal

pub returns : goal.returns
returns c =
    let reads = file_reads_asked c.args.reads.now in
    let files = c.args.files.now in
    all_from_yields_List (λ (r : Asked). read_passes (now_fits reads r.name) (page_read r.pages) (file_of name_seen r.name files)) _ _ _ c.all.ensures.ran
    (YieldsList-from_slice c.args.reads.now cc) (λ x b q k. search (rules, tests))
    ∙ sym (list_all-map (λ (r : FileRead). read_passes (now_fits reads r.name) r.pages (file_of name_seen r.name files)) file_read c.args.reads.now)
