-- Each line is asked.
use Rattle.std.proofs.Common.{◌||◌, not, rules, tests}
use Rattle.std.proofs.lemmas.Iterator.{YieldsList-from_slice}
use Rattle.std.proofs.lemmas.Iterator.Search.{all_from_yields_List}
use Rattle.sights.specs.AskedReads.Fitting.{cell_fits}
use Rattle.sights.specs.AskedReads.Reads.{page_reply}
use Rattle.sights.specs.Outcomes.Files.{reads_of}
use Rattle.cut_places.specs.declared.line.FileLine.{FileLine}
use Rattle.sights.specs.AskedReads.Reads.{file_reads_asked}
use Rattle.cut_places.specs.FileFitting.{looks_at}
use Rattle.cut_places.proofs.read_fits.lines_fit.Goals as goal

pub returns : goal.returns
returns c =
    let read = c.args.read.now in
    let reads = reads_of read.name (file_reads_asked c.args.reads.now) in
    all_from_yields_List (λ (line : FileLine). not (looks_at read.pages.start read.pages.len (page_reply read.pages.reply) line.number) || cell_fits reads line.number line.line) _ _ _ c.all.ensures.ran
    (YieldsList-from_slice c.args.lines.now cc) (λ x b q k. search (rules, tests))
