use Rattle.std.proofs.Common.{◌≡◌, ◌<◌, ◌+◌, ◌&&◌, true, not, is_some, length, slice_index_or, sym, ap, ◌∙◌, arith}
use Rattle.std.proofs.lemmas.List.{length-map}
use Rattle.inode_table.specs.Slots.{pages_at}
use Rattle.file_journal.proofs.ReplaceLemmas.{pages_at_most}
use Rattle.file_pages.specs.Object.{pages_there, units_of}
use Rattle.file_pages.proofs.HoleLemmas.{negated, page_there}
use Rattle.file_pages.proofs.PlaceLemmas.{length-units}
use Rattle.file_actions.specs.Made.{holes_below}
use Rattle.file_actions.specs.Rewriting.{touches_any_page}
use Rattle.file_actions.proofs.CountLemmas.{byte_of, counted-few, counted-more}
use Rattle.file_actions.proofs.checks.hole_count.Goals as goal
use Rattle.file_actions.proofs.checks.hole_count.Goals.{then-touches_any, else-touches_any}

pub loop-page-preserved : goal.loop-page-preserved
loop-page-preserved c =
    let j = c.args.journal.now in
    let ranges = c.args.ranges.now in
    let there = pages_there j c.args.inode in
    let page = c.loop-page.page in
    let within : page < pages_at j.tables.files c.args.inode = omega (arith, c.loop-page-test.true, c.pages-page-end.ensures.pages, c.loop-page.auto.page-end) in
    let test : c.if-touches_any.from ≡ (touches_any_page ranges page && not (slice_index_or there page true)) =
    elim c.if-touches_any.branch as (λ _. c.if-touches_any.from ≡ (touches_any_page ranges page && not (slice_index_or there page true))) [
      | then-touches_any w ↦
          w.from-is
          ∙ negated w.is_none.result _ (sym w.is_none.ensures ∙ ap is_some w.unit.ensures.unit ∙ page_there j c.args.inode page within)
          ∙ ap (λ b. b && not (slice_index_or there page true)) (sym w.if-touches_any.true ∙ c.touches_any.ensures)
      | else-touches_any w ↦ w.from-is ∙ w.if-touches_any.false ∙ ap (λ b. b && not (slice_index_or there page true)) (sym w.if-touches_any.false ∙ c.touches_any.ensures)
    ] in
    let one = c.from.ensures ∙ byte_of _ _ test in
    let more = counted-more (λ i. touches_any_page ranges i && not (slice_index_or there i true)) page in
    let few = counted-few (λ i. touches_any_page ranges i && not (slice_index_or there i true)) (page + 1) in
    let holes = c.loop-page.invariant.holes in
    record { holes = omega (arith, holes, one, more); few = omega (arith, holes, one, more, few) }

pub returns-clause-holes : goal.returns-clause-holes
returns-clause-holes c =
    let j = c.args.journal.now in
    let all : c.loop-page.page ≡ length (pages_there j c.args.inode) =
    omega (arith, c.loop-page-test.false, c.loop-page.auto.page-end, c.pages-page-end.ensures.pages, length-map (units_of j.tables c.args.inode) is_some, length-units j.tables c.args.inode) in
    c.loop-page.invariant.holes ∙ ap (holes_below c.args.ranges.now (pages_there j c.args.inode)) all

pub returns-clause-few : goal.returns-clause-few
returns-clause-few c =
    let j = c.args.journal.now in
    omega (arith, c.loop-page.invariant.few, c.loop-page.auto.page-end, c.pages-page-end.ensures.pages, pages_at_most j.tables.files c.args.inode c.pages-page-end.ensures.tables.names c.requires.inode)
