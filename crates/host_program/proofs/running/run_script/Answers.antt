use Rattle.std.proofs.Common.{arith}
use Rattle.std.proofs.lemmas.Result.{err_from_is_err_and}
use Rattle.host_program.proofs.GoingLemmas.{going-end, going-flush, going-line, going-start, going-stopped, going-unbegun, going-unwritten}
use Rattle.host_program.proofs.running.run_script.Goals as goal

pub returns-in_err-reader-clause-performs : goal.returns-in_err-reader-clause-performs
returns-in_err-reader-clause-performs g c =
    let p = err_from_is_err_and c.from_residual.result c.from_residual.ensures.1 in
    rw (p.1, p.2) (going-unbegun _ _ _ _)

pub loop-out-init : goal.loop-out-init
loop-out-init g c = record {
  going = going-start _ _ _ _ _ _ c.in_ok-reader.ensures c.new-out.ensures;
  waits = λ _. c.new-out.ensures;
  serves = c.requires;
  reads = omega arith;
  writes = omega arith;
}

pub returns-in_err-answer_next-clause-performs : goal.returns-in_err-answer_next-clause-performs
returns-in_err-answer_next-clause-performs g c =
    let p = err_from_is_err_and c.from_residual-in_err-answer_next.result c.from_residual-in_err-answer_next.ensures.1 in
    rw (p.1, p.2) (going-stopped _ _ _ _ _ _ _ _ _ _ _ _ _ _ _ _ c.loop-out.invariant.going c.in_err-answer_next.ensures.answers c.loop-out.invariant.waits)

pub loop-out-preserved : goal.loop-out-preserved
loop-out-preserved g c =
    let answers = c.in_ok-answer_next.ensures.answers in
    let next = going-line _ _ _ _ _ _ _ _ _ _ _ _ _ _ _ c.loop-out.invariant.going (rw c.if-branch.true at answers) in
    record {
      going = going-flush _ _ _ _ _ _ _ _ _ _ _ _ next c.in_ok-write_waiting.ensures.bytes;
      waits = c.in_ok-write_waiting.ensures.none;
      serves = c.in_ok-answer_next.ensures.serves;
      reads = omega (arith, c.loop-out.invariant.reads, c.in_ok-answer_next.ensures.later);
      writes = omega (arith, c.loop-out.invariant.writes, c.in_ok-write_waiting.ensures.later);
    }

pub returns-in_err-write_waiting-clause-performs : goal.returns-in_err-write_waiting-clause-performs
returns-in_err-write_waiting-clause-performs g c =
    let p = err_from_is_err_and c.from_residual-in_err-write_waiting.result c.from_residual-in_err-write_waiting.ensures.1 in
    let answers = c.in_ok-answer_next.ensures.answers in
    let next = going-line _ _ _ _ _ _ _ _ _ _ _ _ _ _ _ c.loop-out.invariant.going (rw c.if-branch.true at answers) in
    rw (p.1, p.2) (going-unwritten _ _ _ _ _ _ _ _ _ _ _ _ next c.in_err-write_waiting.ensures.bytes)

pub returns-clause-performs : goal.returns-clause-performs
returns-clause-performs g c =
    let answers = c.in_ok-answer_next.ensures.answers in
    going-end _ _ _ _ _ _ _ _ _ _ _ _ _ _ _ c.loop-out.invariant.going (rw c.if-branch.false at answers) c.loop-out.invariant.waits
