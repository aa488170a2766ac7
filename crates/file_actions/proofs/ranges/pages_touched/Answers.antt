use Rattle.std.proofs.Common.{◌+◌, ◌∙◌, arith}
use Rattle.file_actions.specs.Rewriting.{touches_any_page}
use Rattle.file_actions.proofs.CountLemmas.{byte_of, counted-few, counted-more}
use Rattle.file_actions.proofs.ranges.pages_touched.Goals as goal

pub loop-page-preserved : goal.loop-page-preserved
loop-page-preserved c =
    let passes = touches_any_page c.args.ranges.now in
    let page = c.loop-page.page in
    let one = c.from-touched.ensures ∙ byte_of _ _ c.touches_any.ensures in
    let more = counted-more passes page in
    let few = counted-few passes (page + 1) in
    let touched = c.loop-page.invariant.touched in
    record { touched = omega (arith, touched, one, more); few = omega (arith, touched, one, more, few) }
