-- A bad line is asked of, or a good one.
use Rattle.std.proofs.Common.{◌≡◌, true, false, ◌∙◌}
use Rattle.asked_reads.specs.Outcomes.Pages.{all_allow_good}
use Rattle.asked_reads.specs.Reads.{pages_asked}
use Rattle.sights.proofs.FitLemmas.{bad_fits, good_fits, no_good_fits}
use Rattle.sights.proofs.lines_fit.line_fits.Goals as goal

pub returns-then-is_bad : goal.returns-then-is_bad
returns-then-is_bad c =
    bad_fits (pages_asked c.args.reads.now) c.args.n c.args.line.now _ _ c.is_bad.ensures c.if-is_bad.true c.all_allow_bad.ensures

pub returns-then-all_allow_good : goal.returns-then-all_allow_good
returns-then-all_allow_good c =
    let reads = pages_asked c.args.reads.now in
    let good : all_allow_good reads c.args.n ≡ true = cc in
    good_fits reads c.args.n c.args.line.now _ _ c.is_bad.ensures c.if-is_bad.false good c.words_fit.ensures

pub returns-else-all_allow_good : goal.returns-else-all_allow_good
returns-else-all_allow_good c =
    let reads = pages_asked c.args.reads.now in
    let good : all_allow_good reads c.args.n ≡ false = cc in
    c.if-all_allow_good.false ∙ no_good_fits reads c.args.n c.args.line.now _ c.is_bad.ensures c.if-is_bad.false good
