use Rattle.std.proofs.Common.{◌+◌, Bool, List, sym, ◌∙◌, subst, arith}
use Rattle.block_device.proofs.MarkLemmas.{AreLeft, bare_state, left_all, left_bare, next_free, left_marked, left_in_step}
use Rattle.block_device.proofs.mounting.pool_beside.Goals as goal
use Rattle.block_device.proofs.mounting.pool_beside.Goals.{in-At, in_default}

pub loop-block-init : goal.loop-block-init
loop-block-init c = left_all c.args.map.now c.args.blocks c.in_ok-pool.pool c.in_ok-pool.ensures

pub mark-requires : goal.mark-requires
mark-requires c =
    next_free c.args.map.now c.args.blocks c.loop-block.block c.loop-block.pool c.loop-block.invariant (omega arith) c.in-At.unit c.in-At.ensures.map c.requires.all c.in-At.ensures.state

pub loop-block-preserved : goal.loop-block-preserved
loop-block-preserved c =
    let map = c.args.map.now in
    let k = c.loop-block.block in
    elim c.match-get.branch [
      | in-At w ↦
          subst (λ (pool : List Bool). AreLeft map c.args.blocks (k + 1) pool) (sym (w.pool-is ∙ w.mark.ensures))
          (left_marked map c.args.blocks k c.loop-block.pool c.loop-block.invariant (omega arith) w.in-At.unit w.in-At.ensures.map c.requires.all w.in-At.ensures.state)
      | in_default w ↦
          subst (λ (pool : List Bool). AreLeft map c.args.blocks (k + 1) pool) (sym w.pool-is)
          (left_bare map c.args.blocks k c.loop-block.pool c.loop-block.invariant (omega arith) c.get.result c.get.ensures.state (bare_state c.get.result w.in_default.not-At))
    ]

pub returns-clause-units : goal.returns-clause-units
returns-clause-units c = c.loop-block.invariant.size

pub returns-clause-in_step : goal.returns-clause-in_step
returns-clause-in_step c = left_in_step c.args.map.now c.args.blocks c.loop-block.block c.loop-block.pool c.loop-block.invariant c.requires.all (omega arith)
