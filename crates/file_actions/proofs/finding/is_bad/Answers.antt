use Rattle.std.proofs.Common.{◌≡◌, ◌*◌, ◌/◌, ap, sym, subst, ◌∙◌, arith}
use Rattle.page_lines.specs.Sought.{is_bad_at}
use Rattle.file_journal.specs.Object.{JournalState}
use Rattle.file_journal.specs.Tables.{AreTables}
use Rattle.file_pages.specs.Object.{file_place}
use Rattle.file_actions.proofs.KeptLemmas.{line_bad, place_within}
use Rattle.file_actions.proofs.finding.is_bad.Goals as goal

pub is_bad-requires : goal.is_bad-requires
is_bad-requires g c =
    let s = c.args.files.now.journal in
    let are = subst (λ (j : JournalState). AreTables j.geo.fpages j.tables) c.journal.ensures c.used-used.ensures.tables in
    let m = (g.L.Lines.state c.args.dev.now).medium in
    let e : 64 * c.args.n / 64 ≡ c.args.n = omega arith in
    place_within s m c.args.inode are c.requires.inode c.requires.serves c.args.n c.in-Some.line.0
    (sym (ap (file_place s c.args.inode) e) ∙ sym c.in-Some.ensures.line)

pub returns-in-Some : goal.returns-in-Some
returns-in-Some g c = record {
  bad = λ files file at.
      let s = c.args.files.now.journal in
      let are = subst (λ (j : JournalState). AreTables j.geo.fpages j.tables) c.journal.ensures c.used-used.ensures.tables in
      let m = (g.L.Lines.state c.args.dev.now).medium in
      let e : 64 * c.args.n / 64 ≡ c.args.n = omega arith in
      let place = sym (ap (file_place s c.args.inode) e) ∙ sym c.in-Some.ensures.line in
      c.is_bad.ensures ∙ sym (ap (is_bad_at m) place) ∙ line_bad s m c.args.inode are files file at c.args.n;
}

pub returns-in-None : goal.returns-in-None
returns-in-None g c = record {
  bad = λ files file at.
      let s = c.args.files.now.journal in
      let are = subst (λ (j : JournalState). AreTables j.geo.fpages j.tables) c.journal.ensures c.used-used.ensures.tables in
      let m = (g.L.Lines.state c.args.dev.now).medium in
      let e : 64 * c.args.n / 64 ≡ c.args.n = omega arith in
      let place = sym (ap (file_place s c.args.inode) e) ∙ sym c.in-None.ensures.line in
      sym (ap (is_bad_at m) place) ∙ line_bad s m c.args.inode are files file at c.args.n;
}
