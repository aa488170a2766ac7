use Rattle.std.proofs.lemmas.Result.{err_from_is_err_and}
use Rattle.host_program.proofs.CountLemmas.{counting-broken, counting-end, counting-line, counting-start}
use Rattle.host_program.proofs.TellLemmas.{unanswered-none}
use Rattle.host_program.proofs.bench.perform_all.Goals as goal

pub loop-out-init : goal.loop-out-init
loop-out-init g c = record { counting = counting-start _ _ _; serves = c.requires }

pub returns-in_err-line : goal.returns-in_err-line
returns-in_err-line g c =
    let p = err_from_is_err_and c.from_residual.result c.from_residual.ensures.1 in
    rw p.1 (counting-broken _ _ _ _ _ _ _ _ _ p.0 c.loop-out.invariant.counting (unanswered-none _))

pub loop-out-preserved : goal.loop-out-preserved
loop-out-preserved g c =
    let gives = c.in_ok-line.ensures.ok in
    let line = rw c.in-Some.is at gives in
    let counting = c.loop-out.invariant.counting in
    let goes = c.in_ok-perform_line.ensures.goes in
    let adds = c.count_reply.ensures in
    record {
      counting = counting-line _ c.in-Some.line.items _ _ _ _ _ _ _ _ _ _ (rw line at counting) (rw (c.clear.ensures.items, c.as_slice.ensures) at goes) (rw (c.as_slice-in-Some.ensures, c.as_slice-in-Some-2.ensures) at adds);
      serves = c.in_ok-perform_line.ensures.serves;
    }

pub returns : goal.returns
returns g c =
    let gives = c.in_ok-line.ensures.ok in
    let none = rw c.in_default.is at gives in
    let counting = c.loop-out.invariant.counting in
    counting-end _ _ _ _ _ _ (rw none.0 at counting)
