-- Each word is asked.
use Rattle.std.proofs.Common.{◌≡◌, ◌+◌, ◌*◌, [], slice_index_or, subst, refl, rules, tests}
use Rattle.std.specs.List.{list_any}
use Rattle.std.proofs.lemmas.Iterator.{YieldsList-from_range}
use Rattle.std.proofs.lemmas.Iterator.Search.{all_from_yields_List}
use Rattle.nvm_model.specs.Cell.{Cell}
use Rattle.nvm_model.specs.Cell.Cell.{Bad, Kept}
use Rattle.asked_reads.specs.Outcomes.Pages.{all_agree}
use Rattle.asked_reads.specs.Reads.{pages_asked}
use Rattle.asked_reads.specs.Fitting.{WordFits, WordsFit}
use Rattle.sights.proofs.lines_fit.words_fit.Goals as goal

pub returns : goal.returns
returns c =
    let reads = pages_asked c.args.reads.now in
    let n = c.args.n in
    let line = c.args.line.now in
    let by : (cell : Cell) → line ≡ cell → WordsFit reads n cell c.all.result = λ cell.
    elim cell as (λ cell. line ≡ cell → WordsFit reads n cell c.all.result) [
      | Bad ↦ λ is. tt
      | Kept weak words ↦ λ is.
          all_from_yields_List (λ w. list_any (all_agree reads (8 * n + w)) (slice_index_or words w [])) _ _ _ c.all.ensures.ran (YieldsList-from_range 0 8 8 refl refl)
          (λ x b q k.
          let called : (q ≡ _) × WordFits reads n x line b = search (rules, tests) in
          (called.0, subst (λ cell. WordFits reads n x cell b) is called.1))
    ] in
    by line refl
