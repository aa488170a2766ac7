-- Each change finds map and pool in step with the changes that are left.
use Rattle.std.proofs.Common.{◌≡◌, ◌+◌, true, drop, length, slice_set, slice_index_or, sym, ◌∙◌, ap, subst, refl, length-set}
use Rattle.block_map.specs.declared.state.BlockState.TheVariants.{Absent}
use Rattle.block_device.specs.declared.Blocks.TheInside.{Inside}
use Rattle.block_device.specs.declared.change.Change.{Change}
use Rattle.block_device.specs.Object.{BlocksState, IsKept}
use Rattle.block_device.specs.Changes.{changed_map}
use Rattle.block_device.proofs.ChangeLemmas.{vacant_may_take}
use Rattle.block_device.proofs.AssignLemmas.{IsAssigning, assigning_at, assigned_bare, assigned_unit, left_taken, kept_unsettled, bare_from_other}
use Rattle.block_device.proofs.Blocks.assign.Goals as goal
use Rattle.block_device.proofs.Blocks.assign.Goals.{in-At, in_default}

abbrev none : Change
none = record { block = 0; state = Absent }

pub get-left-requires : goal.get-left-requires
get-left-requires c =
    (assigning_at c.args.changes.now c.loop-change.change-index none _ _ _ c.loop-change-test.true c.loop-change.invariant.0).may.0

pub set-requires-clause-block : goal.set-requires-clause-block
set-requires-clause-block c =
    (assigning_at c.args.changes.now c.loop-change.change-index none _ _ _ c.loop-change-test.true c.loop-change.invariant.0).may.0

pub set-requires-clause-state : goal.set-requires-clause-state
set-requires-clause-state c =
    vacant_may_take _ _ _ (assigning_at c.args.changes.now c.loop-change.change-index none _ _ _ c.loop-change-test.true c.loop-change.invariant.0).may.1

pub give-requires : goal.give-requires
give-requires c =
    let now = assigning_at c.args.changes.now c.loop-change.change-index none _ _ _ c.loop-change-test.true c.loop-change.invariant.0 in
    left_taken _ _ _ _ _ c.get-left.result now c.get-left.ensures.state c.in-At.unit c.in-At.is

pub loop-change-preserved : goal.loop-change-preserved
loop-change-preserved c =
    let changes = c.args.changes.now in
    let i = c.loop-change.change-index in
    let old = c.loop-change.self-inside in
    let kept = c.loop-change.invariant in
    let now = assigning_at changes i none _ _ _ c.loop-change-test.true kept.0 in
    let change = slice_index_or changes i none in
    let goes : Inside → Type 0 =
    λ s. IsAssigning (drop (i + 1) changes) (changed_map changes c.args.self.now.map) s.map s.pool
    × IsKept (record { geo = s.geo; map = s.map; free = s.pool; quiet = s.log.settled; settled = s.settled }) s.log.area
    × (s.geo ≡ c.args.self.now.geo)
    × (s.log.settled ≡ c.args.self.now.quiet)
    × (s.settled ≡ c.args.self.now.settled) in
    let state : BlocksState = record { geo = old.geo; map = old.map; free = old.pool; quiet = old.log.settled; settled = old.settled } in
    let all : length c.set.new.self ≡ length old.map = ap length c.set.ensures.states ∙ length-set old.map change.block change.state in
    elim c.match-left.branch [
      | in-At w ↦
          let unit = w.in-At.unit in
          subst goes (sym w.self-inside-is) (
            subst (λ m. IsAssigning (drop (i + 1) changes) (changed_map changes c.args.self.now.map) m w.give.new.self) (sym c.set.ensures.states)
                (subst (λ f. IsAssigning (drop (i + 1) changes) (changed_map changes c.args.self.now.map) (slice_set old.map change.block change.state) f) (sym w.give.ensures)
                (assigned_unit change (drop (i + 1) changes) _ old.map old.pool c.get-left.result now c.get-left.ensures.state unit w.in-At.is c.get-left.ensures.map)),
            kept_unsettled state old.log.area c.set.new.self w.give.new.self kept.1 (kept.4 ∙ c.requires.unsettled) all c.set.ensures.map (ap length w.give.ensures ∙ length-set old.pool unit true),
            kept.2,
            kept.3,
            kept.4,
          )
      | in_default w ↦
          subst goes (sym w.self-inside-is) (
            subst (λ m. IsAssigning (drop (i + 1) changes) (changed_map changes c.args.self.now.map) m old.pool) (sym c.set.ensures.states)
                (assigned_bare change (drop (i + 1) changes) _ old.map old.pool c.get-left.result now c.get-left.ensures.state (bare_from_other c.get-left.result w.in_default.not-At)),
            kept_unsettled state old.log.area c.set.new.self old.pool kept.1 (kept.4 ∙ c.requires.unsettled) all c.set.ensures.map refl,
            kept.2,
            kept.3,
            kept.4,
          )
    ]
