use Rattle.std.proofs.Common.{◌≡◌, ◌+◌, ◌*◌, ◌≤◌, sym, subst, arith}
use Rattle.inode_table.specs.Slots.{pages_at}
use Rattle.page_lines.specs.Placed.{AreApart}
use Rattle.page_lines.specs.Sought.{lowest_bad_in}
use Rattle.page_lines.specs.declared.finding.BadLines.TheVariants.{From}
use Rattle.file_journal.specs.Object.{JournalServes}
use Rattle.file_journal.proofs.ReplaceLemmas.{pages_at_most}
use Rattle.file_pages.specs.Object.{IsFileAt, PagesState, PlacesState, unit_place}
use Rattle.file_pages.proofs.PassLemmas.{next_found, next_small}
use Rattle.file_pages.proofs.PlaceLemmas.{places_apart, units_own}
use Rattle.file_pages.proofs.FilePages.next_bad.Goals as goal

pub lowest_bad-requires-clause-within : goal.lowest_bad-requires-clause-within
lowest_bad-requires-clause-within g c =
    let most = pages_at_most c.self.inside.journal.tables.files c.args.inode c.pages-size.ensures.tables.names c.requires.inode in
    let within = subst (λ (p : PagesState). c.args.span.start + c.args.span.len ≤ 4096 * pages_at p.journal.tables.files c.args.inode) (sym c.self.view_is) c.requires.within in
    omega (arith, most, within)

pub lowest_bad-requires-clause-apart : goal.lowest_bad-requires-clause-apart
lowest_bad-requires-clause-apart g c =
    let s = c.self.inside.journal in
    let m = (g.L.Lines.state c.args.dev.now).medium in
    let serves = subst (λ (p : PagesState). JournalServes p.journal m) (sym c.self.view_is) c.requires.serves in
    subst (λ (l : PlacesState). AreApart (unit_place l.geo l.units) m.count) (sym c.of-lines.ensures)
    (places_apart s.geo _ (units_own s.geo.fpages s.tables c.pages-size.ensures.tables c.args.inode c.requires.inode) m.count serves.count)

pub returns-clause-next : goal.returns-clause-next
returns-clause-next g c = λ files file at.
    let s = c.self.inside.journal in
    let m = (g.L.Lines.state c.args.dev.now).medium in
    let found = subst (λ (l : PlacesState). c.lowest_bad.result ≡ lowest_bad_in (From c.args.from) (unit_place l.geo l.units) m c.args.span) c.of-lines.ensures c.lowest_bad.ensures in
    let here = subst (λ (p : PagesState). IsFileAt p.journal m c.args.inode files file) (sym c.self.view_is) at in
    next_found s m c.args.inode c.pages-size.ensures.tables c.args.span c.args.from c.lowest_bad.result c.requires.some found files file here

pub returns-clause-below : goal.returns-clause-below
returns-clause-below g c =
    let s = c.self.inside.journal in
    let m = (g.L.Lines.state c.args.dev.now).medium in
    let most = pages_at_most s.tables.files c.args.inode c.pages-size.ensures.tables.names c.requires.inode in
    let within = subst (λ (p : PagesState). c.args.span.start + c.args.span.len ≤ 4096 * pages_at p.journal.tables.files c.args.inode) (sym c.self.view_is) c.requires.within in
    let found = subst (λ (l : PlacesState). c.lowest_bad.result ≡ lowest_bad_in (From c.args.from) (unit_place l.geo l.units) m c.args.span) c.of-lines.ensures c.lowest_bad.ensures in
    next_small s m c.args.inode c.args.span c.args.from c.lowest_bad.result c.requires.some (omega (arith, most, within)) found
