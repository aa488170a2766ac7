use Rattle.std.proofs.Common.{inl, inr, refl, ◌∙◌}
use Rattle.std.proofs.lemmas.Result.{err_from_is_err_and, IfOk-weaker}
use Rattle.host_program.specs.Forms.{checked_text}
use Rattle.program_base.specs.World.{world}
use Rattle.program_base.proofs.WritingLemmas.{told_all, told_front}
use Rattle.host_program.proofs.FormLemmas.{checked_ready, on_ready, unwritten}
use Rattle.host_program.proofs.top.check.Goals as goal

pub returns-in_err-tell : goal.returns-in_err-tell
returns-in_err-tell g c left reads =
    let p = err_from_is_err_and c.from_residual-in_err-tell.result c.from_residual-in_err-tell.ensures.1 in
    let old = world (g.D.Lines.state c.args.device.now) (g.F.Images.held c.args.images.now) (g.F.Images.count c.args.images.now) left reads (g.K.Sink.written c.args.replies.now) (g.K.Sink.count c.args.replies.now) in
    let new = world (g.D.Lines.state c.open.new.device) (g.F.Images.held c.open.new.images) (g.F.Images.count c.open.new.images) left reads (g.K.Sink.written c.tell.new.replies) (g.K.Sink.count c.tell.new.replies) in
    let ready = c.in_ok-host.ensures.ready in
    let text = checked_ready c.args.name.now (g.F.Images.held c.args.images.now) c.in_ok-host.host (g.D.Lines.state c.args.device.now) (g.D.Lines.state c.open.new.device) ready c.lines.result c.bad_lines-bad.result c.lines.ensures c.bad_lines-bad.ensures in
    let line = IfOk-weaker c.checked.result _ _ (λ l is. is ∙ text) c.checked.ensures in
    rw (p.1, p.2) (inr (record {
      image = ready.image;
      there = ready.held_there;
      right = ready.mounted.right;
      cause = unwritten c.in_err-tell.field-0.0 old new (λ is. inl (c.in_err-tell.ensures.cause is));
      wrote = told_front c.checked.result c.tell.result (checked_text ready.image) old.written new.written line c.tell.ensures.bytes;
      tells = ready.mounted.tells;
      held = c.in_ok-host.ensures.held;
      counts = c.in_ok-host.ensures.counts;
      script = record { left = refl; reads = refl };
    }))

pub returns : goal.returns
returns g c left reads =
    let ready = c.in_ok-host.ensures.ready in
    let text = checked_ready c.args.name.now (g.F.Images.held c.args.images.now) c.in_ok-host.host (g.D.Lines.state c.args.device.now) (g.D.Lines.state c.open.new.device) ready c.lines.result c.bad_lines-bad.result c.lines.ensures c.bad_lines-bad.ensures in
    let line = IfOk-weaker c.checked.result _ _ (λ l is. is ∙ text) c.checked.ensures in
    record {
      image = ready.image;
      there = ready.held_there;
      right = ready.mounted.right;
      wrote = told_all c.checked.result c.tell.result (checked_text ready.image) (g.K.Sink.written c.args.replies.now) (g.K.Sink.written c.tell.new.replies) c.in_ok-tell.field-0 line c.tell.ensures.bytes c.in_ok-tell.was;
      tells = ready.mounted.tells;
      held = c.in_ok-host.ensures.held;
      counts = c.in_ok-host.ensures.counts;
      script = record { left = refl; reads = refl };
    }

pub bad_lines-bad-requires-clause-on : goal.bad_lines-bad-requires-clause-on
bad_lines-bad-requires-clause-on g c =
    on_ready c.args.name.now (g.F.Images.held c.args.images.now) c.in_ok-host.host (g.D.Lines.state c.args.device.now) (g.D.Lines.state c.open.new.device) c.in_ok-host.ensures.ready
