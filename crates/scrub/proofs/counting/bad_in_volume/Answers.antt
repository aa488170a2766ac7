use Rattle.std.proofs.Common.{◌<◌, ◌≤◌, length, sum_by, sym, ap, ◌∙◌, arith}
use Rattle.std.proofs.lemmas.List.{take_all}
use Rattle.std.proofs.lemmas.List.Sums.{sum_by_more}
use Rattle.nvm_model.specs.Page.Page.{Absent}
use Rattle.pm_volume.proofs.TurnLemmas.{length-pages}
use Rattle.marked_lines.specs.Counting.{bad_in_page}
use Rattle.marked_lines.proofs.CountLemmas.{bad_lines-sum}
use Rattle.scrub.proofs.counting.bad_in_volume.Goals as goal

pub loop-page-preserved : goal.loop-page-preserved
loop-page-preserved g c = record {
  count = λ pages holds.
      let size = length-pages c.args.volume.now (g.L.Lines.state c.args.dev.now).medium pages holds in
      let within : c.loop-page.page < length pages = omega (arith, size, c.requires.serves.all) in
      omega (arith, sum_by_more bad_in_page pages c.loop-page.page Absent within, c.loop-page.invariant.count pages holds, c.count_in_page-bad.ensures.count pages holds);
  few = omega arith;
}

pub returns-clause-count : goal.returns-clause-count
returns-clause-count g c pages holds =
    let size = length-pages c.args.volume.now (g.L.Lines.state c.args.dev.now).medium pages holds in
    let all : length pages ≤ c.loop-page.page = omega (arith, size, c.requires.serves.all) in
    c.loop-page.invariant.count pages holds ∙ ap (sum_by bad_in_page) (take_all c.loop-page.page pages all) ∙ sym (bad_lines-sum pages)
