use Rattle.std.proofs.Common.{◌≡◌, ◌+◌, ◌*◌, ◌<◌, ◌≤◌, length, take, ap, arith}
use Rattle.page_table.specs.Pages.{used_pages}
use Rattle.nvm_model.proofs.SumLemmas.{sum-next}
use Rattle.file_journal.specs.Tables.{unit_at}
use Rattle.file_journal.proofs.ReplaceLemmas.{pages_at_most}
use Rattle.marked_lines.specs.Counting.{marked_on_unit}
use Rattle.marked_lines.proofs.FileCountLemmas.{used-fewer, used-next}
use Rattle.marked_lines.proofs.files.count_in_inode.Goals as goal

pub loop-page-preserved : goal.loop-page-preserved
loop-page-preserved g c =
    let s = c.args.journal.now in
    let m = (g.L.Lines.state c.args.dev.now).medium in
    let t = s.tables in
    let page = c.loop-page.page in
    let first = 256 * c.args.inode in
    let most = pages_at_most t.files c.args.inode c.pages-page-end.ensures.tables.names c.requires.inode in
    let within : first + page < length t.pages = omega (arith, most, c.pages-page-end.ensures.pages, c.loop-page-test.true, c.requires.inode, c.pages-page-end.ensures.tables.table.all) in
    let at : 0 + page ≡ page = omega arith in
    let next : first + page + 1 ≡ first + (page + 1) = omega arith in
    record {
      count = omega (arith, sum-next (marked_on_unit c.args.mark s.geo m) (unit_at t c.args.inode) 0 page, ap (λ k. marked_on_unit c.args.mark s.geo m (unit_at t c.args.inode k)) at, c.loop-page.invariant.count, c.count_on_unit-marked.ensures.count);
      few = omega (arith, used-next t.pages (first + page) within, ap (λ k. used_pages (take k t.pages)) next, c.loop-page.invariant.few, c.count_on_unit-marked.ensures.few);
    }

pub returns-clause-few : goal.returns-clause-few
returns-clause-few g c =
    let t = c.args.journal.now.tables in
    let most = pages_at_most t.files c.args.inode c.pages-page-end.ensures.tables.names c.requires.inode in
    let below : 256 * c.args.inode + c.loop-page.page ≤ 256 * (c.args.inode + 1) = omega (arith, most, c.pages-page-end.ensures.pages, c.loop-page.auto.page-end) in
    omega (arith, c.loop-page.invariant.few, used-fewer t.pages (256 * c.args.inode + c.loop-page.page) (256 * (c.args.inode + 1)) below)
