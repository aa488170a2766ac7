use Rattle.std.proofs.Common.{◌-◌, length, take, drop, arith, [], ◌∷◌, Ok, Err}
use Rattle.std.specs.declared.alloc.AllocError.{AllocError}
use Rattle.std.proofs.lemmas.Result.{err_from_is_err_and}
use Rattle.nvm_base.proofs.AppendLemmas.{Appended-none, Appended-as, Appended-more, Appends-stopped, Appends-done, Appends-last, Appends-whole}
use Rattle.nvm_base.proofs.RunLemmas.{data_text-other, data_text-same, data_text-last, data_text-none}
use Rattle.nvm_base.proofs.printing.print_runs.Goals as goal
use Rattle.nvm_base.proofs.printing.print_runs.Goals.{then-next-byte, else-next-byte+in_ok-print_run+in_ok-push}

pub returns-in_default : goal.returns-in_default
returns-in_default c =
    rw (data_text-none c.args.bytes.now c.in_default.len_below) (Appends-done [] _ _ tt (Appended-none [] c.args.out.now))

pub returns-in_err-print_run : goal.returns-in_err-print_run
returns-in_err-print_run c =
    let rest = take (length c.args.bytes.now - 1) (drop 1 c.args.bytes.now) in
    let loop = c.loop-next in
    let split = data_text-other loop.count loop.byte loop.next-index rest loop.invariant.some c.loop-next-test.true c.if-next-byte.false in
    let p = err_from_is_err_and c.from_residual.result c.from_residual.ensures.1 in
    rw p.1 (Appends-stopped _ _ _ _ _ _ _ (Appended-as _ _ _ _ _ loop.invariant.text split) c.in_err-print_run.ensures)

pub returns-in_err-push : goal.returns-in_err-push
returns-in_err-push c =
    let rest = take (length c.args.bytes.now - 1) (drop 1 c.args.bytes.now) in
    let loop = c.loop-next in
    let split = data_text-other loop.count loop.byte loop.next-index rest loop.invariant.some c.loop-next-test.true c.if-next-byte.false in
    let run = Appended-more _ _ _ _ _ _ tt (Appended-as _ _ _ _ _ loop.invariant.text split) c.in_ok-print_run.ensures in
    let p = err_from_is_err_and c.from_residual-in_err-push.result c.from_residual-in_err-push.ensures.1 in
    let push = c.in_err-push.ensures in
    rw p.1 (Appends-stopped _ _ _ _ _ _ _ run (Appends-whole (44 ∷ []) _ _ (Err c.in_err-push.field-0.0) push.ok push.err push.succeeds push.spare))

pub loop-next-preserved : goal.loop-next-preserved
loop-next-preserved c =
    let rest = take (length c.args.bytes.now - 1) (drop 1 c.args.bytes.now) in
    elim c.if-next-byte.branch [
      | then-next-byte w ↦ rw (w.out-is, w.byte-is, w.count-is) (record {
        text = Appended-as _ _ _ _ _ c.loop-next.invariant.text (data_text-same c.loop-next.count c.loop-next.byte c.loop-next.next-index rest c.loop-next-test.true w.if-next-byte.true);
        some = omega arith;
        few = let f = c.loop-next.invariant.few in omega arith;
      })
      | else-next-byte+in_ok-print_run+in_ok-push w ↦ rw (w.out-is, w.byte-is, w.count-is) (record {
        text =
            let loop = c.loop-next in
            let split = data_text-other loop.count loop.byte loop.next-index rest loop.invariant.some c.loop-next-test.true w.if-next-byte.false in
            let run = Appended-more _ _ _ _ _ _ tt (Appended-as _ _ _ _ _ loop.invariant.text split) w.in_ok-print_run.ensures in
            let push = w.in_ok-push.ensures in
            Appended-more {E = AllocError} _ _ _ _ _ _ tt run (Appends-whole (44 ∷ []) _ _ (Ok tt) push.ok push.err push.succeeds push.spare);
        some = omega arith;
        few = omega arith;
      })
    ]

pub returns : goal.returns
returns c =
    let rest = take (length c.args.bytes.now - 1) (drop 1 c.args.bytes.now) in
    let loop = c.loop-next in
    let split = data_text-last loop.count loop.byte loop.next-index rest loop.invariant.some c.loop-next-test.false in
    Appends-last _ _ _ _ _ _ (Appended-as _ _ _ _ _ loop.invariant.text split) c.print_run-2.ensures
