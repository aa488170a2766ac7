use Rattle.std.proofs.Common.{◌∙◌}
use Rattle.line_histories.proofs.LogLemmas.{newest-more_same, newest-more_other}
use Rattle.cut_places.proofs.rewriting.newest.Goals as goal
use Rattle.cut_places.proofs.rewriting.newest.Goals.{then-stored-w, else-stored-w}

pub loop-stored-preserved : goal.loop-stored-preserved
loop-stored-preserved c =
    let log = c.args.log.now in
    let i = c.loop-stored.stored-index in
    elim c.if-stored-w.branch [
      | then-stored-w w ↦ w.value-is ∙ newest-more_same c.args.durable log i c.args.w _ c.loop-stored-test.true w.if-stored-w.true
      | else-stored-w w ↦ w.value-is ∙ c.loop-stored.invariant ∙ newest-more_other c.args.durable log i c.args.w _ c.loop-stored-test.true w.if-stored-w.false
    ]
