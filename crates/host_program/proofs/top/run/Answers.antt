use Rattle.std.proofs.Common.{inl, inr, sym, subst}
use Rattle.std.proofs.lemmas.Result.{err_from_is_err_and}
use Rattle.line_device.specs.Panel.{IsUnit}
use Rattle.program_base.specs.World.{world}
use Rattle.program_base.specs.declared.ending.Ending.TheVariants.{Memory}
use Rattle.host_program.proofs.FormLemmas.{run_over, served_settled, unit_settled}
use Rattle.host_program.proofs.GoingLemmas.{memory_not_source, memory_not_write}
use Rattle.host_program.proofs.RestLemmas.{fit_served, rests-unsettled}
use Rattle.host_program.proofs.RunLemmas.{halts-unperformed, halts-unstored}
use Rattle.host_program.proofs.top.run.Goals as goal

pub returns-in_err-run_script : goal.returns-in_err-run_script
returns-in_err-run_script g c =
    let p = err_from_is_err_and c.from_residual-in_err-run_script.result c.from_residual-in_err-run_script.ensures.1 in
    let old = world (g.D.Lines.state c.args.device.now) (g.F.Images.held c.args.images.now) (g.F.Images.count c.args.images.now) (g.T.Source.left c.args.script.now) (g.T.Source.count c.args.script.now) (g.K.Sink.written c.args.replies.now) (g.K.Sink.count c.args.replies.now) in
    let new = world (g.D.Lines.state c.run_script.new.device) (g.F.Images.held c.open.new.images) (g.F.Images.count c.open.new.images) (g.T.Source.left c.run_script.new.script) (g.T.Source.count c.run_script.new.script) (g.K.Sink.written c.run_script.new.replies) (g.K.Sink.count c.run_script.new.replies) in
    let opened = c.in_ok-host.ensures in
    let ran = c.in_err-run_script.ensures in
    rw (p.1, p.2) (inr (halts-unperformed c.args.from.now c.args.to.now c.in_err-run_script.field-0.0 c.in_ok-host.host c.run_script.new.host (g.D.Lines.state c.open.new.device) old new opened.ready ran.performs ran.cause opened.held opened.counts))

pub returns-in_err-settle : goal.returns-in_err-settle
returns-in_err-settle g c =
    let p = err_from_is_err_and c.from_residual-in_err-settle.result c.from_residual-in_err-settle.ensures.1 in
    let old = world (g.D.Lines.state c.args.device.now) (g.F.Images.held c.args.images.now) (g.F.Images.count c.args.images.now) (g.T.Source.left c.args.script.now) (g.T.Source.count c.args.script.now) (g.K.Sink.written c.args.replies.now) (g.K.Sink.count c.args.replies.now) in
    let new = world (g.D.Lines.state c.settle.new.device) (g.F.Images.held c.open.new.images) (g.F.Images.count c.open.new.images) (g.T.Source.left c.run_script.new.script) (g.T.Source.count c.run_script.new.script) (g.K.Sink.written c.run_script.new.replies) (g.K.Sink.count c.run_script.new.replies) in
    let opened = c.in_ok-host.ensures in
    let ran = g.D.Lines.state c.run_script.new.device in
    rw (p.1, p.2) (inr (halts-unstored c.args.from.now c.args.to.now Memory c.in_ok-host.host c.run_script.new.host (g.D.Lines.state c.open.new.device) ran old new opened.ready c.in_ok-run_script.ensures.performs
    (rests-unsettled c.run_script.new.host c.settle.new.self ran new.device c.in_err-settle.ensures.memory) memory_not_source (λ is end stands. absurd (memory_not_write is)) tt (inl opened.counts.replaces) opened.counts.fetches (inl opened.held)))

pub store-requires : goal.store-requires
store-requires g c =
    let ran = g.D.Lines.state c.run_script.new.device in
    let opened = g.D.Lines.state c.open.new.device in
    let serves = served_settled c.args.from.now (g.F.Images.held c.args.images.now) c.in_ok-host.host c.run_script.new.host c.settle.new.self (g.T.Source.left c.args.script.now) (g.T.Source.left c.run_script.new.script)
    (g.K.Sink.written c.args.replies.now) (g.K.Sink.written c.run_script.new.replies) (g.D.Lines.state c.args.device.now) opened ran (g.D.Lines.state c.settle.new.device) c.in_ok-host.ensures.ready
    c.in_ok-run_script.ensures.performs c.in_ok-settle.ensures.settled in
    let known = unit_settled c.args.from.now (g.F.Images.held c.args.images.now) c.in_ok-host.host c.run_script.new.host c.settle.new.self (g.T.Source.left c.args.script.now) (g.T.Source.left c.run_script.new.script)
    (g.K.Sink.written c.args.replies.now) (g.K.Sink.written c.run_script.new.replies) (g.D.Lines.state c.args.device.now) opened ran (g.D.Lines.state c.settle.new.device) c.in_ok-host.ensures.ready
    c.in_ok-run_script.ensures.performs c.in_ok-settle.ensures.settled in
    record { known = subst IsUnit (sym c.unit.ensures) known; fit = fit_served c.settle.new.self (g.D.Lines.state c.settle.new.device) serves }

pub returns : goal.returns
returns g c =
    let old = world (g.D.Lines.state c.args.device.now) (g.F.Images.held c.args.images.now) (g.F.Images.count c.args.images.now) (g.T.Source.left c.args.script.now) (g.T.Source.count c.args.script.now) (g.K.Sink.written c.args.replies.now) (g.K.Sink.count c.args.replies.now) in
    let new = world (g.D.Lines.state c.store.new.device) (g.F.Images.held c.store.new.images) (g.F.Images.count c.store.new.images) (g.T.Source.left c.run_script.new.script) (g.T.Source.count c.run_script.new.script) (g.K.Sink.written c.run_script.new.replies) (g.K.Sink.count c.run_script.new.replies) in
    let opened = g.D.Lines.state c.open.new.device in
    let ran = g.D.Lines.state c.run_script.new.device in
    let rest = g.D.Lines.state c.settle.new.device in
    let ready = c.in_ok-host.ensures in
    run_over c.args.from.now c.args.to.now c.unit.result c.in_ok-host.host c.run_script.new.host c.settle.new.self opened ran rest (g.F.Images.held c.open.new.images) (g.F.Images.count c.open.new.images) c.store.result old new
    c.unit.ensures ready.ready c.in_ok-run_script.ensures.performs c.in_ok-settle.ensures.settled (g.met.D.Lines.sound c.settle.new.device) ready.held ready.counts c.store.ensures
