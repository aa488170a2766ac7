use Rattle.std.proofs.Common.{◌≡◌, ◌+◌, ◌-◌, ◌*◌, ◌/◌, refl, ap, sym, subst, ◌∙◌, arith}
use Rattle.line_device.proofs.PanelLemmas.{runs-refl, runs_then}
use Rattle.line_device.proofs.WriteBackLemmas.{write_back-refl, write_back-trans}
use Rattle.inode_table.specs.Slots.{pages_at}
use Rattle.file_journal.specs.Object.{JournalState}
use Rattle.file_journal.specs.Tables.{AreTables}
use Rattle.file_pages.specs.Object.{IsFileAt}
use Rattle.file_actions.specs.Checked.{AreKept, AreTogether}
use Rattle.file_actions.specs.Made.{IsNewLine}
use Rattle.file_actions.specs.Rewriting.{touches_any_page}
use Rattle.file_actions.proofs.LineLemmas.{file_at-write_back, lines_more, size_more}
use Rattle.file_actions.proofs.building.build_page.Goals as goal

pub loop-k-init : goal.loop-k-init
loop-k-init g c = record {
  size = c.requires.length;
  made = λ j lt. absurd (omega (arith, lt));
  lines = write_back-refl _;
  serves = c.requires.serves;
  journal = refl;
  settled = c.requires.settled;
  runs = runs-refl _;
}

pub build_line-requires-clause-tables : goal.build_line-requires-clause-tables
build_line-requires-clause-tables g c = subst (λ (j : JournalState). AreTables j.geo.fpages j.tables) (sym c.loop-k.invariant.journal) c.requires.tables

pub build_line-requires-clause-together : goal.build_line-requires-clause-together
build_line-requires-clause-together g c = subst (λ (j : JournalState). AreTogether (pages_at j.tables.files c.args.inode) c.args.ranges.now) (sym c.loop-k.invariant.journal) c.requires.together

pub build_line-requires-clause-kept : goal.build_line-requires-clause-kept
build_line-requires-clause-kept g c =
    let now = (g.L.Lines.state c.loop-k.dev).medium in
    subst (λ (j : JournalState). AreKept j now c.args.inode c.args.ranges.now) (sym c.loop-k.invariant.journal)
    (λ n line touched out place. c.loop-k.invariant.lines.bad line ∙ c.requires.kept n line touched out place)

pub build_line-requires-clause-touched : goal.build_line-requires-clause-touched
build_line-requires-clause-touched g c =
    let e : (64 * c.args.page + c.loop-k.k) / 64 ≡ c.args.page = omega (arith, c.loop-k-test.true) in
    ap (touches_any_page c.args.ranges.now) e ∙ c.requires.touched

pub build_line-requires-clause-line : goal.build_line-requires-clause-line
build_line-requires-clause-line g c =
    let pages = ap (λ (j : JournalState). pages_at j.tables.files c.args.inode) c.loop-k.invariant.journal in
    omega (arith, pages, c.requires.page, c.loop-k-test.true)

pub returns-in_err-build_line-clause-lines : goal.returns-in_err-build_line-clause-lines
returns-in_err-build_line-clause-lines g c = write_back-trans _ _ _ c.loop-k.invariant.lines c.in_err-build_line.ensures.lines

pub loop-k-preserved : goal.loop-k-preserved
loop-k-preserved g c =
    let s = c.args.files.now.journal in
    let old = (g.L.Lines.state c.args.dev.now).medium in
    let now = (g.L.Lines.state c.loop-k.dev).medium in
    let inode = c.args.inode in
    let ranges = c.args.ranges.now in
    let bytes = c.args.bytes.now in
    let k = c.loop-k.k in
    let before = c.loop-k.invariant in
    let after = c.in_ok-build_line.ensures in
    let here : IsNewLine s old inode ranges bytes (64 * c.args.page + k) c.build_line.new.out =
    λ listed file at.
    after.ok listed file (subst (λ (j : JournalState). IsFileAt j now inode listed file) (sym before.journal) (file_at-write_back s old now inode listed file c.requires.tables before.lines at)) in
    record {
      size =
          size_more s old inode ranges bytes (64 * c.args.page) k (64 * k) (64 * k + 64 - 64 * k) c.loop-k.out c.build_line.new.out before.size c.loop-k-test.true refl (omega arith) after.length
          before.made here;
      made =
          lines_more s old inode ranges bytes (64 * c.args.page) k (64 * k) (64 * k + 64 - 64 * k) c.loop-k.out c.build_line.new.out before.size c.loop-k-test.true refl (omega arith) after.length
          before.made here;
      lines = write_back-trans _ _ _ before.lines after.lines;
      serves = after.serves;
      journal = after.object.0 ∙ before.journal;
      settled = after.object.1;
      runs = runs_then _ _ _ _ _ _ _ _ before.runs after.runs;
    }
