use Rattle.std.proofs.Common.{◌∙◌, get_or, ap, arith}
use Rattle.line_histories.specs.declared.log.Stored.{Stored}
use Rattle.line_histories.proofs.LogLemmas.{newest-more_other, settled-put}
use Rattle.line_histories.proofs.log.settle.Goals as goal
use Rattle.line_histories.proofs.log.settle.Goals.{then-stored-lt8, else-stored-lt8}

pub loop-stored-preserved : goal.loop-stored-preserved
loop-stored-preserved c =
    let log = c.args.log.now in
    let i = c.loop-stored.stored-index in
    let durable = c.loop-stored.durable in
    let first = c.args.durable.now in
    let none : Stored = record { word = 0; value = 0 } in
    record {
      eight = c.if-stored-lt8.array_long;
      words = λ k below.
          elim c.if-stored-lt8.branch [
            | then-stored-lt8 w ↦
                ap (λ l. get_or l k 0) w.durable-is
                ∙ settled-put durable log i k (get_or first k 0) none (omega (arith, c.loop-stored.invariant.eight, w.if-stored-lt8.true)) c.loop-stored-test.true (c.loop-stored.invariant.words k below)
            | else-stored-lt8 w ↦
                ap (λ l. get_or l k 0) w.durable-is
                ∙ c.loop-stored.invariant.words k below
                ∙ newest-more_other (get_or first k 0) log i k none c.loop-stored-test.true (λ e. omega (arith, e, w.if-stored-lt8.false))
          ];
    }
