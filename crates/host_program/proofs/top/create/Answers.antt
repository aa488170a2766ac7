use Rattle.std.proofs.Common.{◌≡◌, Err, ap, codes, refl, ◌∙◌}
use Rattle.std.proofs.lemmas.Result.{IfOk-weaker, err_from_is_err_and}
use Rattle.host_io.specs.declared.sink.WriteFault.TheVariants as write
use Rattle.program_base.specs.Ending.{numbered_line}
use Rattle.host_program.specs.Forms.{created_text}
use Rattle.program_base.specs.World.{world}
use Rattle.program_base.proofs.WritingLemmas.{told_all, told_front}
use Rattle.host_program.proofs.FormLemmas.{unreplaced, untold}
use Rattle.host_program.proofs.top.create.Goals as goal

pub returns-in_err-tell : goal.returns-in_err-tell
returns-in_err-tell g c device left reads =
    let p = err_from_is_err_and c.from_residual-in_err-tell.result c.from_residual-in_err-tell.ensures.1 in
    let held = g.F.Images.held c.args.images.now in
    let counts = g.F.Images.count c.args.images.now in
    let old = world device held counts left reads (g.K.Sink.written c.args.replies.now) (g.K.Sink.count c.args.replies.now) in
    let new = world device held counts left reads (g.K.Sink.written c.tell.new.replies) (g.K.Sink.count c.tell.new.replies) in
    let line = IfOk-weaker c.numbered.result _ _ (λ l is. is ∙ ap (λ n. numbered_line (codes "ok ") n) c.total_lines.ensures.lines) c.numbered.ensures in
    rw (p.1, p.2) (untold c.args.name.now c.args.geometry c.in_err-tell.field-0.0 old new
    (told_front c.numbered.result c.tell.result (created_text c.args.geometry) old.written new.written line c.tell.ensures.bytes)
    c.in_err-tell.ensures.cause refl refl refl refl refl)

pub returns-in_err-replace : goal.returns-in_err-replace
returns-in_err-replace g c device left reads =
    let p = err_from_is_err_and c.from_residual-in_err-replace.result c.from_residual-in_err-replace.ensures.1 in
    let old = world device (g.F.Images.held c.args.images.now) (g.F.Images.count c.args.images.now) left reads (g.K.Sink.written c.args.replies.now) (g.K.Sink.count c.args.replies.now) in
    let new = world device (g.F.Images.held c.replace.new.self) (g.F.Images.count c.replace.new.self) left reads (g.K.Sink.written c.tell.new.replies) (g.K.Sink.count c.tell.new.replies) in
    let failed = c.in_err-replace.ensures in
    let line = IfOk-weaker c.numbered.result _ _ (λ l is. is ∙ ap (λ n. numbered_line (codes "ok ") n) c.total_lines.ensures.lines) c.numbered.ensures in
    rw (p.1, p.2) (unreplaced c.args.name.now c.args.geometry c.in_err-replace.field-0.0 old new
    (told_all c.numbered.result c.tell.result (created_text c.args.geometry) old.written new.written c.in_ok-tell.field-0 line c.tell.ensures.bytes c.in_ok-tell.was)
    failed.memory failed.others (c.replace.result ≡ Err write.Failed) (λ is. c.in_err-replace.was ∙ ap (λ e. Err e) is) c.replace.ensures.counts refl refl refl)
