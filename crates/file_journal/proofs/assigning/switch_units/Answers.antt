use Rattle.std.proofs.lemmas.List.{take_all}
use Rattle.std.proofs.Common.{◌≡◌, ◌≤◌, refl, ◌+◌, Bool, List, Option, None, Some, ℕ, length, take, sym, ◌∙◌, ap, subst}
use Rattle.page_table.specs.Pages.{TableState}
use Rattle.file_journal.proofs.StepLemmas.{AreStepped, left_taken, may_take, stepped_hole, stepped_none, stepped_unit}
use Rattle.file_journal.proofs.assigning.switch_units.Goals as goal
use Rattle.file_journal.proofs.assigning.switch_units.Goals.{in-Some, in_default}

pub loop-page-init : goal.loop-page-init
loop-page-init c = stepped_none c.args.table.now c.requires.table c.requires.can c.requires.taken

pub set-requires-clause-unit : goal.set-requires-clause-unit
set-requires-clause-unit c =
    may_take c.args.table.now c.requires.table c.requires.can
    c.loop-page.page-index c.loop-page-test.true _ _ c.loop-page.invariant

pub give-requires : goal.give-requires
give-requires c =
    left_taken c.args.table.now c.requires.table c.requires.can
    c.loop-page.page-index c.loop-page-test.true _ _ c.loop-page.invariant c.set.new.self c.set.ensures.pages c.set.ensures.table
    c.in-Some.unit (c.get-left.ensures.unit ∙ ap (λ (o : Option ℕ). Some o) c.in-Some.is)

no_unit : (o : Option ℕ) → ((u : ℕ) → o ≡ Some u → ⊥) → o ≡ None
no_unit None none = refl
no_unit (Some u) none = absurd (none u refl)

pub loop-page-preserved : goal.loop-page-preserved
loop-page-preserved c =
    let inode = c.args.inode in
    let switches = c.args.switches.now in
    let i = c.loop-page.page-index in
    let next = c.set.new.self in
    elim c.match-left.branch [
      | in-Some w ↦
          subst (λ (left : List Bool). AreStepped inode (take (i + 1) switches) c.args.table.now c.args.pool.now next left) (sym (w.pool-is ∙ w.give.ensures))
          (stepped_unit c.args.table.now c.requires.table c.requires.can
          i c.loop-page-test.true _ _ c.loop-page.invariant next c.set.ensures.pages c.set.ensures.table
          w.in-Some.unit (c.get-left.ensures.unit ∙ ap (λ (o : Option ℕ). Some o) w.in-Some.is))
      | in_default w ↦
          subst (λ (left : List Bool). AreStepped inode (take (i + 1) switches) c.args.table.now c.args.pool.now next left) (sym w.pool-is)
          (stepped_hole c.args.table.now c.requires.table c.requires.can
          i c.loop-page-test.true _ _ c.loop-page.invariant next c.set.ensures.pages c.set.ensures.table
          (c.get-left.ensures.unit ∙ ap (λ (o : Option ℕ). Some o) (no_unit c.get-left.result w.in_default.not-Some)))
    ]

done : (inode : ℕ) (switches : List (ℕ × Option ℕ)) (old table : TableState) (free left : List Bool) (i : ℕ) → length switches ≤ i → AreStepped inode (take i switches) old free table left → AreStepped inode switches old free table left
done inode switches old table free left i all step = subst (λ (ss : List (ℕ × Option ℕ)). AreStepped inode ss old free table left) (take_all i switches all) step

pub returns : goal.returns
returns c =
    let all = done c.args.inode c.args.switches.now c.args.table.now c.loop-page.table c.args.pool.now c.loop-page.pool c.loop-page.page-index c.loop-page-test.false c.loop-page.invariant in
    record { pages = all.pages; table = all.is_table; all = all.all; taken = all.taken; held = all.held; known = all.known }
