-- The values of the log are asked after the durable one.
use Rattle.std.proofs.Common.{◌≡◌, ◌+◌, ◌*◌, ◌==◌, ◌&&◌, ◌||◌, false, ap, sym, ◌∙◌, rules, tests}
use Rattle.std.specs.List.{list_any}
use Rattle.std.proofs.lemmas.Iterator.{YieldsList-from_slice}
use Rattle.std.proofs.lemmas.Iterator.Search.{any_from_yields_List}
use Rattle.line_histories.specs.declared.log.Stored.{Stored}
use Rattle.sights.specs.Outcomes.Pages.{all_agree}
use Rattle.sights.specs.Outcomes.Files.{reads_of}
use Rattle.sights.specs.AskedReads.Reads.{file_reads_asked}
use Rattle.sights.proofs.FitLemmas.{word_fits_by}
use Rattle.cut_places.proofs.line_fits.word_fits.Goals as goal

pub returns-else-agree : goal.returns-else-agree
returns-else-agree c =
    let reads = reads_of c.args.name.now (file_reads_asked c.args.reads.now) in
    let n = c.args.n in
    let w = c.args.w in
    let durable = c.values-durable.result.0 in
    let log = c.values-durable.result.1.now in
    let others = any_from_yields_List (λ (stored : Stored). (stored.word == w) && all_agree reads (8 * n + w) stored.value) _ _ _ c.any.ensures.ran (YieldsList-from_slice log cc) (λ x b q k. search (rules, tests)) in
    let one : all_agree reads (8 * n + w) durable ≡ false = cc in
    word_fits_by reads n w durable log c.args.line.now _ c.values-durable.ensures
    (others ∙ sym (ap (λ b. b || list_any (λ (stored : Stored). (stored.word == w) && all_agree reads (8 * n + w) stored.value) log) one))
