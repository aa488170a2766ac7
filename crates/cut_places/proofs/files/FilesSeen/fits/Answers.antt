use Rattle.std.proofs.Common.{sym, ap, ◌∙◌}
use Rattle.sights.specs.AskedReads.Reads.{file_reads_asked}
use Rattle.cut_places.specs.FileFitting.{now_fits, reads_pass}
use Rattle.cut_places.specs.FilesState.{FilesState}
use Rattle.cut_places.proofs.InsideLemmas.{now_same}
use Rattle.cut_places.proofs.files.FilesSeen.fits.Goals as goal

pub returns-clause-fits : goal.returns-clause-fits
returns-clause-fits c =
    let reads = file_reads_asked c.args.reads.now in
    c.all_fit.ensures ∙ ap (reads_pass (now_fits reads) reads) (c.deref.ensures.value ∙ ap (λ (f : FilesState). f.files) c.self.view_is)

pub returns-clause-shown : goal.returns-clause-shown
returns-clause-shown c = λ h sees held.
    let reads = file_reads_asked c.args.reads.now in
    c.all_fit.ensures ∙ ap (reads_pass (now_fits reads) reads) (c.deref.ensures.value ∙ ap (λ (f : FilesState). f.files) c.self.view_is)
    ∙ sym (now_same reads c.args.self.now.numbers c.args.self.now.files h.files sees.files held)
