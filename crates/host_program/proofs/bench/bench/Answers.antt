use Rattle.std.proofs.Common.{Err, Ok, inl, inr, refl, subst}
use Rattle.std.proofs.lemmas.Result.{err_from_is_err_and}
use Rattle.host_program.specs.Bench.{PerformsAll, summary_text}
use Rattle.host_program.specs.Forms.{IsUnwritten}
use Rattle.program_base.specs.Ending.{of_write}
use Rattle.program_base.specs.World.{world}
use Rattle.program_base.specs.declared.ending.Ending.TheVariants.{Memory}
use Rattle.host_program.proofs.BenchLemmas.{benches, breaks_off, breaks_unwritten}
use Rattle.program_base.proofs.WritingLemmas.{told_all, told_front}
use Rattle.host_program.proofs.FormLemmas.{unwritten}
use Rattle.host_program.proofs.bench.bench.Goals as goal

pub returns-in_err-summary : goal.returns-in_err-summary
returns-in_err-summary g c held images left reads =
    let p = err_from_is_err_and c.from_residual-in_err-summary.result c.from_residual-in_err-summary.ensures.1 in
    let started = g.D.Lines.state c.start.new.device in
    let old = world (g.D.Lines.state c.args.device.now) held images left reads (g.K.Sink.written c.args.replies.now) (g.K.Sink.count c.args.replies.now) in
    let new = world (g.D.Lines.state c.perform_all.new.device) held images left reads (g.K.Sink.written c.args.replies.now) (g.K.Sink.count c.args.replies.now) in
    let performs = subst (λ ls. PerformsAll c.in_ok-host.host c.perform_all.new.host ls (Err c.in_err-summary.field-0.0) started new.device) c.new.ensures c.in_err-summary.ensures in
    rw (p.1, p.2) (inr (breaks_off c.args.seed c.args.count c.in_ok-host.host c.perform_all.new.host started (IsUnwritten Memory old new) old new c.in_ok-host.ensures.started c.in_err-summary.field-0.0 performs tt refl
    (record { held = refl; images = refl; script = record { left = refl; reads = refl } })))

pub returns-in_err-tell : goal.returns-in_err-tell
returns-in_err-tell g c held images left reads =
    let p = err_from_is_err_and c.from_residual-in_err-tell.result c.from_residual-in_err-tell.ensures.1 in
    let started = g.D.Lines.state c.start.new.device in
    let old = world (g.D.Lines.state c.args.device.now) held images left reads (g.K.Sink.written c.args.replies.now) (g.K.Sink.count c.args.replies.now) in
    let new = world (g.D.Lines.state c.perform_all.new.device) held images left reads (g.K.Sink.written c.tell.new.replies) (g.K.Sink.count c.tell.new.replies) in
    let summary = c.in_ok-summary.summary in
    let performs = subst (λ ls. PerformsAll c.in_ok-host.host c.perform_all.new.host ls (Ok summary) started new.device) c.new.ensures c.in_ok-summary.ensures in
    rw (p.1, p.2) (inr (breaks_unwritten c.args.seed c.args.count c.in_ok-host.host c.perform_all.new.host summary started (IsUnwritten (of_write c.in_err-tell.field-0.0) old new) old new c.in_ok-host.ensures.started performs
    (unwritten c.in_err-tell.field-0.0 old new (λ is. inl (c.in_err-tell.ensures.cause is)))
    (told_front c.summary_line.result c.tell.result (summary_text summary) old.written new.written c.summary_line.ensures c.tell.ensures.bytes)
    (record { held = refl; images = refl; script = record { left = refl; reads = refl } })))

pub returns : goal.returns
returns g c held images left reads =
    let started = g.D.Lines.state c.start.new.device in
    let old = world (g.D.Lines.state c.args.device.now) held images left reads (g.K.Sink.written c.args.replies.now) (g.K.Sink.count c.args.replies.now) in
    let new = world (g.D.Lines.state c.perform_all.new.device) held images left reads (g.K.Sink.written c.tell.new.replies) (g.K.Sink.count c.tell.new.replies) in
    let summary = c.in_ok-summary.summary in
    let performs = subst (λ ls. PerformsAll c.in_ok-host.host c.perform_all.new.host ls (Ok summary) started new.device) c.new.ensures c.in_ok-summary.ensures in
    benches c.args.seed c.args.count c.in_ok-host.host c.perform_all.new.host summary started old new c.in_ok-host.ensures.started performs
    (told_all c.summary_line.result c.tell.result (summary_text summary) old.written new.written c.in_ok-tell.field-0 c.summary_line.ensures c.tell.ensures.bytes c.in_ok-tell.was)
    (record { held = refl; images = refl; script = record { left = refl; reads = refl } })
