use Rattle.std.proofs.lemmas.Result.{err_from_is_err_and}
use Rattle.line_device.specs.Panel.{Runs}
use Rattle.line_words.specs.Ending.{ended}
use Rattle.std.proofs.Common.{Err, None, MatchOption, ℕ, ◌≡◌, ◌+◌, ◌*◌, ◌<◌, List, Option, Some, length, refl, ap, sym, subst, ◌∙◌, arith}
use Rattle.line_device.proofs.PanelLemmas.{runs-refl, runs_then, runs_within}
use Rattle.free_pool.specs.Units.{free_count}
use Rattle.inode_table.specs.Slots.{pages_at}
use Rattle.file_journal.specs.Object.{JournalState}
use Rattle.file_journal.specs.Tables.{Tables}
use Rattle.file_journal.proofs.ReplaceLemmas.{pages_at_most}
use Rattle.file_actions.specs.Checked.{AreTogether}
use Rattle.file_actions.specs.Made.{AreMade, AreWritten, IsPassed, IsWritten}
use Rattle.file_actions.specs.Rewriting.{pages_touched, touches_any_page}
use Rattle.file_actions.proofs.CountLemmas.{counted-more, counted-one, counted-within}
use Rattle.file_actions.proofs.MadeLemmas.{made_none, step_passed, step_written}
use Rattle.file_actions.proofs.PreparedLemmas.{before-refl, before-trans, kept_still, tables_still}
use Rattle.file_actions.proofs.preparing.write_pages.Goals as goal
use Rattle.file_actions.proofs.preparing.write_pages.Goals.{in-Some, in_default}

pub loop-page-init : goal.loop-page-init
loop-page-init g c =
    let s = c.args.files.now.journal in
    let old = (g.L.Lines.state c.args.dev.now).medium in
    record {
      before = before-refl _ _ c.requires.serves;
      made = subst (λ (xs : List (ℕ × Option ℕ)). AreMade s c.args.inode c.args.ranges.now 0 xs s.free) (sym c.requires.none) (made_none s c.args.inode c.args.ranges.now);
      written = subst (λ (xs : List (ℕ × Option ℕ)). AreWritten s old c.args.inode c.args.ranges.now c.args.bytes.now old xs) (sym c.requires.none) (λ i page unit is. cc);
      left = omega (arith, ap (λ (xs : List (ℕ × Option ℕ)). length xs) c.requires.none);
      settled = c.requires.settled;
      runs = runs-refl _;
    }

pub write_touched-requires-clause-serves : goal.write_touched-requires-clause-serves
write_touched-requires-clause-serves g c = c.loop-page.invariant.before.serves

pub write_touched-requires-clause-tables : goal.write_touched-requires-clause-tables
write_touched-requires-clause-tables g c = tables_still _ _ (g.L.Lines.state c.args.dev.now).medium (g.L.Lines.state c.loop-page.dev).medium c.loop-page.invariant.before c.requires.tables

pub write_touched-requires-clause-together : goal.write_touched-requires-clause-together
write_touched-requires-clause-together g c = subst (λ (t : Tables). AreTogether (pages_at t.files c.args.inode) c.args.ranges.now) (sym c.loop-page.invariant.before.tables) c.requires.together

pub write_touched-requires-clause-kept : goal.write_touched-requires-clause-kept
write_touched-requires-clause-kept g c =
    kept_still _ _ (g.L.Lines.state c.args.dev.now).medium (g.L.Lines.state c.loop-page.dev).medium c.loop-page.invariant.before c.args.inode c.args.ranges.now c.requires.tables c.requires.inode c.requires.kept

pub write_touched-requires-clause-page : goal.write_touched-requires-clause-page
write_touched-requires-clause-page g c =
    let all = c.pages-page-end.ensures.pages ∙ ap (λ (j : JournalState). pages_at j.tables.files c.args.inode) c.journal.ensures in
    let pages = ap (λ (t : Tables). pages_at t.files c.args.inode) c.loop-page.invariant.before.tables in
    omega (arith, c.loop-page-test.true, c.loop-page.auto.page-end, all, pages)

pub write_touched-requires-clause-small : goal.write_touched-requires-clause-small
write_touched-requires-clause-small g c =
    let all = c.pages-page-end.ensures.pages ∙ ap (λ (j : JournalState). pages_at j.tables.files c.args.inode) c.journal.ensures in
    omega (arith, c.loop-page-test.true, c.loop-page.auto.page-end, all, pages_at_most c.args.files.now.journal.tables.files c.args.inode c.requires.tables.names c.requires.inode)

pub write_touched-requires-clause-free : goal.write_touched-requires-clause-free
write_touched-requires-clause-free g c = λ touched.
    let all = c.pages-page-end.ensures.pages ∙ ap (λ (j : JournalState). pages_at j.tables.files c.args.inode) c.journal.ensures in
    let page = c.loop-page.page in
    let one = counted-one (touches_any_page c.args.ranges.now) page touched in
    let within = counted-within (touches_any_page c.args.ranges.now) (page + 1) (pages_at c.args.files.now.journal.tables.files c.args.inode) (omega (arith, c.loop-page-test.true, c.loop-page.auto.page-end, all)) in
    omega (arith, one, within, c.requires.together.few, c.loop-page.invariant.made.number, c.loop-page.invariant.left, c.requires.free)

pub returns-in_err-unit-clause-before : goal.returns-in_err-unit-clause-before
returns-in_err-unit-clause-before g c = before-trans _ _ _ _ _ _ c.loop-page.invariant.before c.in_err-unit.ensures.before

pub returns-in_err-unit-clause-runs : goal.returns-in_err-unit-clause-runs
returns-in_err-unit-clause-runs g c =
    let passes = touches_any_page c.args.ranges.now in
    let pages = pages_at c.args.files.now.journal.tables.files c.args.inode in
    let all = c.pages-page-end.ensures.pages ∙ ap (λ (j : JournalState). pages_at j.tables.files c.args.inode) c.journal.ensures in
    let page = c.loop-page.page in
    let more = counted-more passes page in
    let within = counted-within passes (page + 1) pages (omega (arith, c.loop-page-test.true, c.loop-page.auto.page-end, all)) in
    let failed = err_from_is_err_and c.from_residual.result c.from_residual.ensures.1 in
    let same : ended {T = Unit {0}} (Err c.in_err-unit.field-0.0) ≡ ended c.from_residual.result = sym (ap ended (failed.1 ∙ ap (λ e. Err e) failed.2)) in
    subst (λ end. Runs (256 * pages_touched c.args.ranges.now pages) (64 * pages_touched c.args.ranges.now pages) end (g.L.Lines.state c.args.dev.now).panel (g.L.Lines.state c.write_touched.new.dev).panel) same
    (runs_within _ _ _ _ _ _ _ (runs_then _ _ _ _ _ _ _ _ c.loop-page.invariant.runs c.in_err-unit.ensures.runs) (omega (arith, more, within)) (omega (arith, more, within)))

pub push-requires : goal.push-requires
push-requires g c =
    let w : IsWritten c.loop-page.files (g.L.Lines.state c.loop-page.dev).medium c.args.inode c.args.ranges.now c.args.bytes.now c.loop-page.page c.write_touched.new.files (g.L.Lines.state c.write_touched.new.dev).medium c.in-Some.unit =
    subst (λ (o : Option ℕ). MatchOption o (IsPassed c.loop-page.files (g.L.Lines.state c.loop-page.dev).medium c.args.ranges.now c.loop-page.page c.write_touched.new.files (g.L.Lines.state c.write_touched.new.dev).medium)
    (IsWritten c.loop-page.files (g.L.Lines.state c.loop-page.dev).medium c.args.inode c.args.ranges.now c.args.bytes.now c.loop-page.page c.write_touched.new.files (g.L.Lines.state c.write_touched.new.dev).medium)) c.in-Some.is c.in_ok-unit.ensures.page in
    let all = c.pages-page-end.ensures.pages ∙ ap (λ (j : JournalState). pages_at j.tables.files c.args.inode) c.journal.ensures in
    let page = c.loop-page.page in
    let one = counted-one (touches_any_page c.args.ranges.now) page w.touched in
    let within = counted-within (touches_any_page c.args.ranges.now) (page + 1) (pages_at c.args.files.now.journal.tables.files c.args.inode) (omega (arith, c.loop-page-test.true, c.loop-page.auto.page-end, all)) in
    (omega arith, omega (arith, one, within, c.requires.together.few, c.loop-page.invariant.made.number))

pub loop-page-preserved : goal.loop-page-preserved
loop-page-preserved g c =
    let a = c.args.files.now in
    let b = c.loop-page.files in
    let d = c.write_touched.new.files in
    let old = (g.L.Lines.state c.args.dev.now).medium in
    let mid = (g.L.Lines.state c.loop-page.dev).medium in
    let new = (g.L.Lines.state c.write_touched.new.dev).medium in
    let inode = c.args.inode in
    let ranges = c.args.ranges.now in
    let bytes = c.args.bytes.now in
    let page = c.loop-page.page in
    let before = c.loop-page.invariant in
    let after = c.in_ok-unit.ensures in
    let all = c.pages-page-end.ensures.pages ∙ ap (λ (j : JournalState). pages_at j.tables.files inode) c.journal.ensures in
    let within : page < pages_at a.journal.tables.files inode = omega (arith, c.loop-page-test.true, c.loop-page.auto.page-end, all) in
    let more = counted-more (touches_any_page ranges) page in
    let step : AreMade a.journal inode ranges (page + 1) c.match-branch-2.switches.items d.journal.free × AreWritten a.journal old inode ranges bytes new c.match-branch-2.switches.items
    × (free_count d.journal.free + length c.match-branch-2.switches.items ≡ free_count a.journal.free) =
    elim c.match-branch-2.branch as (λ _. AreMade a.journal inode ranges (page + 1) c.match-branch-2.switches.items d.journal.free × AreWritten a.journal old inode ranges bytes new c.match-branch-2.switches.items × (free_count d.journal.free + length c.match-branch-2.switches.items ≡ free_count a.journal.free)) [
      | in-Some w ↦
          step_written a b d old mid new inode ranges bytes page (free_count a.journal.free) c.loop-page.switches.items c.match-branch-2.switches.items before.before before.made before.written before.left w.in-Some.unit within
          (subst (λ (o : Option ℕ). MatchOption o (IsPassed b mid ranges page d new) (IsWritten b mid inode ranges bytes page d new)) w.in-Some.is after.page)
          (ap (λ f. f.items) w.switches-is ∙ w.push.ensures.items)
      | in_default w ↦
          step_passed a b d old mid new inode ranges bytes page (free_count a.journal.free) c.loop-page.switches.items c.match-branch-2.switches.items before.before before.made before.written before.left
          (subst (λ (o : Option ℕ). MatchOption o (IsPassed b mid ranges page d new) (IsWritten b mid inode ranges bytes page d new)) (none_of c.in_ok-unit.field-0 w.in_default.not-Some) after.page)
          (ap (λ f. f.items) w.switches-is)
    ] in
    record {
      before = before-trans _ _ _ _ _ _ before.before after.before;
      made = step.0;
      written = step.1;
      left = step.2;
      settled = after.settled;
      runs = runs_within _ _ _ _ _ _ _ (runs_then _ _ _ _ _ _ _ _ before.runs after.runs) (omega (arith, more)) (omega (arith, more));
    }
  where
    none_of : (o : Option ℕ) → ((u : ℕ) → o ≡ Some u → ⊥) → o ≡ None
    none_of None out = refl
    none_of (Some u) out = absurd (out u refl)
