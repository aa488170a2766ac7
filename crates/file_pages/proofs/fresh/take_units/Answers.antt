use Rattle.std.proofs.Common.{◌≡◌, ◌+◌, ◌<◌, ℕ, Bool, List, Option, Some, None, MatchOption, length, refl, ap, ap₂, subst, ◌∙◌, arith}
use Rattle.free_pool.specs.Units.{free_count}
use Rattle.inode_table.specs.Slots.{pages_at}
use Rattle.file_journal.specs.Object.{JournalState}
use Rattle.file_journal.specs.Tables.{unit_at}
use Rattle.file_pages.specs.Fresh.{AreFresh, GetsUnit, NeedsNone}
use Rattle.file_pages.proofs.FreshLemmas.{fresh_of, left_taken, room_left, step_more, step_past}
use Rattle.file_pages.proofs.fresh.take_units.Goals as goal
use Rattle.file_pages.proofs.fresh.take_units.Goals.{in-Some, in_default}

pub unit_for-requires-clause-free : goal.unit_for-requires-clause-free
unit_for-requires-clause-free c = λ hole.
    let s = c.args.journal.now in
    let x = c.loop-k.invariant.fresh in
    let is_hole = subst (λ (j : JournalState). unit_at j.tables c.args.inode (c.args.pages.start + c.loop-k.k) ≡ None) c.loop-k.invariant.journal hole in
    let room = room_left s c.args.inode c.args.pages.start c.loop-k.k (omega (arith, c.requires.within, c.loop-k-test.true)) c.args.pages.len _ c.loop-k-test.true c.requires.free is_hole in
    omega (arith, room, c.loop-k.invariant.left, x.number)

none_of : (o : Option ℕ) → ((u : ℕ) → o ≡ Some u → ⊥) → o ≡ None
none_of None out = refl
none_of (Some u) out = absurd (out u refl)

pub loop-k-preserved : goal.loop-k-preserved
loop-k-preserved c =
    let s = c.args.journal.now in
    let j = c.loop-k.journal in
    let next = c.unit_for.new.journal in
    let page = c.args.pages.start + c.loop-k.k in
    let inside : page < pages_at s.tables.files c.args.inode = omega (arith, c.requires.within, c.loop-k-test.true) in
    elim c.match-unit_for.branch [
      | in-Some w ↦
          let gets = subst (λ (o : Option ℕ). MatchOption o (NeedsNone j next c.args.inode page) (GetsUnit j next c.args.inode page)) w.in-Some.is c.unit_for.ensures.unit in
          let step = step_more s j next c.args.inode c.args.pages.start c.loop-k.k inside c.loop-k.fresh.items c.match-unit_for.fresh.items w.in-Some.unit c.loop-k.invariant.fresh c.loop-k.invariant.journal gets
          (ap (λ f. f.items) w.fresh-is ∙ w.push.ensures.items) in
          let left = left_taken j.free next.free w.in-Some.unit 0 _ c.loop-k.fresh.items (page, Some w.in-Some.unit) gets.takes.free (ap (λ (t : JournalState). t.free) gets.takes.after) c.loop-k.invariant.left in
          record {
            fresh = step.0;
            left = ap (λ (fs : List (ℕ × Option ℕ)). free_count next.free + length fs) (ap (λ f. f.items) w.fresh-is ∙ w.push.ensures.items) ∙ left;
            journal = step.1;
          }
      | in_default w ↦
          let none = none_of c.unit_for.result w.in_default.not-Some in
          let needs = subst (λ (o : Option ℕ). MatchOption o (NeedsNone j next c.args.inode page) (GetsUnit j next c.args.inode page)) none c.unit_for.ensures.unit in
          let step = step_past s j next c.args.inode c.args.pages.start c.loop-k.k inside c.loop-k.fresh.items c.match-unit_for.fresh.items c.loop-k.invariant.fresh c.loop-k.invariant.journal needs
          (ap (λ f. f.items) w.fresh-is) in
          record {
            fresh = step.0;
            left = ap₂ (λ (f : List Bool) (fs : List (ℕ × Option ℕ)). free_count f + length fs) (ap (λ (t : JournalState). t.free) needs.same) (ap (λ f. f.items) w.fresh-is) ∙ c.loop-k.invariant.left;
            journal = step.1;
          }
    ]

pub returns-clause-fresh : goal.returns-clause-fresh
returns-clause-fresh c =
    let s = c.args.journal.now in
    let last : c.loop-k.k ≡ c.args.pages.len = omega (arith, c.loop-k-test.false, c.loop-k.auto.k-end) in
    fresh_of s c.loop-k.journal c.args.inode c.args.pages.start c.args.pages.len c.loop-k.fresh.items c.loop-k.journal.free c.loop-k.journal.free c.loop-k.invariant.journal
    (subst (λ n. AreFresh s c.args.inode c.args.pages.start n c.loop-k.fresh.items c.loop-k.journal.free) last c.loop-k.invariant.fresh)
