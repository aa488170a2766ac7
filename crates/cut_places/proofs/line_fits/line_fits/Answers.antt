-- A bad line is asked of, or a good one.
use Rattle.std.proofs.Common.{◌≡◌, true, false, ◌∙◌}
use Rattle.sights.specs.Outcomes.Pages.{all_allow_good}
use Rattle.sights.specs.Outcomes.Files.{reads_of}
use Rattle.sights.specs.AskedReads.Reads.{file_reads_asked}
use Rattle.sights.proofs.FitLemmas.{bad_fits, good_fits, no_good_fits}
use Rattle.cut_places.proofs.line_fits.line_fits.Goals as goal

pub returns-then-is_bad : goal.returns-then-is_bad
returns-then-is_bad c =
    bad_fits (reads_of c.args.name.now (file_reads_asked c.args.reads.now)) c.args.n c.args.line.now _ _ c.is_bad.ensures c.if-is_bad.true c.all_allow_bad.ensures

pub returns-then-all_allow_good : goal.returns-then-all_allow_good
returns-then-all_allow_good c =
    let reads = reads_of c.args.name.now (file_reads_asked c.args.reads.now) in
    let good : all_allow_good reads c.args.n ≡ true = cc in
    good_fits reads c.args.n c.args.line.now _ _ c.is_bad.ensures c.if-is_bad.false good c.words_fit.ensures

pub returns-else-all_allow_good : goal.returns-else-all_allow_good
returns-else-all_allow_good c =
    let reads = reads_of c.args.name.now (file_reads_asked c.args.reads.now) in
    let good : all_allow_good reads c.args.n ≡ false = cc in
    c.if-all_allow_good.false ∙ no_good_fits reads c.args.n c.args.line.now _ c.is_bad.ensures c.if-is_bad.false good
