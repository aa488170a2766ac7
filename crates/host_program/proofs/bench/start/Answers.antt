use Rattle.std.proofs.Common.{arith, refl}
use Rattle.std.proofs.lemmas.Result.{err_from_is_err_and}
use Rattle.recovery.proofs.FreshLemmas.{fresh_first, fresh_told}
use Rattle.recovery.proofs.SuperblockLemmas.{some_lines}
use Rattle.host_program.specs.Bench.{bench_sizes, new_image}
use Rattle.host_program.proofs.BenchLemmas.{depicts_new, is_started, unstarted}
use Rattle.host_program.proofs.bench.start.Goals as goal

pub mount-requires-clause-some : goal.mount-requires-clause-some
mount-requires-clause-some g c = omega (arith, c.in_ok-format.ensures.ok.count, some_lines bench_sizes)

pub returns-in_err-mount-clause-cause : goal.returns-in_err-mount-clause-cause
returns-in_err-mount-clause-cause g c =
    let p = err_from_is_err_and c.from_residual-in_err-mount.result c.from_residual-in_err-mount.ensures.1 in
    let mid = g.D.Lines.state c.format.new.device in
    let made = c.in_ok-format.ensures in
    let done = c.in_err-mount.ensures in
    rw (p.1, p.2) (unstarted c.in_err-mount.field-0.0 mid.medium _ mid.panel _ (fresh_first bench_sizes mid.medium made.ok (g.met.D.Lines.sound c.format.new.device)) done.finds done.runs made.sets_up)

pub returns-clause-started : goal.returns-clause-started
returns-clause-started g c =
    let mid = g.D.Lines.state c.format.new.device in
    let made = c.in_ok-format.ensures in
    let done = c.in_ok-mount.ensures in
    is_started c.in_ok-mount.field-0 (g.D.Lines.state c.args.device.now) mid (g.D.Lines.state c.mount.new.device) made.ok (fresh_told bench_sizes mid.medium made.ok (g.met.D.Lines.sound c.format.new.device))
    made.sets_up done.serves (done.stands (new_image bench_sizes) (depicts_new bench_sizes mid.medium made.ok) refl) done.runs
