use Rattle.std.proofs.Common.{◌≡◌, ◌||◌, ◌++◌, [], Ok, Err, inr, refl, rules, ap, subst, sym, ◌∙◌, append-nil, arith}
use Rattle.std.proofs.lemmas.Result.{err_from_is_err_and}
use Rattle.exploration.specs.Exploration.{script_of}
use Rattle.exploration.specs.Reading.{ReadsScript}
use Rattle.outcome_lists.specs.Explorer.Tabulating.{looked}
use Rattle.image_file.specs.Text.{snapshot_of}
use Rattle.program_base.specs.Opening.{opened}
use Rattle.program_base.specs.World.{world}
use Rattle.explore_program.proofs.BeginLemmas.{mounted_sizes, mounted_valid}
use Rattle.explore_program.specs.Calls.{AnswersAll, AreMountable, Outcome}
use Rattle.explore_program.proofs.CallLemmas.{behind_first, behind_shown, halts_unread, halts_untaken, no_shown, outcome_read, read_found, read_refused, read_shown}
use Rattle.explore_program.proofs.top.answer_script.Goals.{then-refused, else-refused}
use Rattle.explore_program.proofs.top.answer_script.Goals as goal

pub read_script-requires-clause-valid : goal.read_script-requires-clause-valid
read_script-requires-clause-valid g c = rw c.geometry.ensures (mounted_valid (snapshot_of c.in_ok-image.image) c.in_ok-host.host _ _ c.in_ok-host.ensures.mounts)

pub returns-in_err-text : goal.returns-in_err-text
returns-in_err-text g c =
    let p = err_from_is_err_and c.from_residual-in_err-text.result c.from_residual-in_err-text.ensures.1 in
    let old = world (g.D.Lines.state c.args.device.now) (g.F.Images.held c.args.images.now) (g.F.Images.count c.args.images.now) (g.T.Source.left c.args.script.now) (g.T.Source.count c.args.script.now) (g.K.Sink.written c.args.answers.now) (g.K.Sink.count c.args.answers.now) in
    let new = world (g.D.Lines.state c.start.new.device) (g.F.Images.held c.fetch.new.images) (g.F.Images.count c.fetch.new.images) (g.T.Source.left c.read_all.new.script) (g.T.Source.count c.read_all.new.script) (g.K.Sink.written c.args.answers.now) (g.K.Sink.count c.args.answers.now) in
    let fetched = c.in_ok-image.ensures in
    rw (p.1, p.2) (inr (halts_unread c.args.name.now (snapshot_of c.in_ok-image.image) old new fetched.there c.in_ok-host.ensures.mounts.right (record { held = fetched.held; counts = fetched.counts }) c.in_err-text.field-0.0 c.in_err-text.ensures refl))

pub returns-in_err-exploration : goal.returns-in_err-exploration
returns-in_err-exploration g c =
    let p = err_from_is_err_and c.from_residual-in_err-exploration.result c.from_residual-in_err-exploration.ensures.1 in
    let old = world (g.D.Lines.state c.args.device.now) (g.F.Images.held c.args.images.now) (g.F.Images.count c.args.images.now) (g.T.Source.left c.args.script.now) (g.T.Source.count c.args.script.now) (g.K.Sink.written c.args.answers.now) (g.K.Sink.count c.args.answers.now) in
    let new = world (g.D.Lines.state c.start.new.device) (g.F.Images.held c.fetch.new.images) (g.F.Images.count c.fetch.new.images) (g.T.Source.left c.read_all.new.script) (g.T.Source.count c.read_all.new.script) (g.K.Sink.written c.args.answers.now) (g.K.Sink.count c.args.answers.now) in
    let fetched = c.in_ok-image.ensures in
    let text = c.in_ok-text.ensures in
    rw (p.1, p.2) (inr (halts_untaken c.args.name.now (snapshot_of c.in_ok-image.image) old new fetched.there c.in_ok-host.ensures.mounts.right (record { held = fetched.held; counts = fetched.counts })
    c.in_err-exploration.field-0.0 c.in_ok-text.text.items text.0 text.1
    (subst (λ script. ReadsScript (script_of (opened (snapshot_of c.in_ok-image.image)).geometry script) (Err c.in_err-exploration.field-0.0)) c.as_slice.ensures
    (subst (λ geo. ReadsScript (script_of geo c.as_slice.result.now) (Err c.in_err-exploration.field-0.0)) (c.geometry.ensures ∙ mounted_sizes (snapshot_of c.in_ok-image.image) c.in_ok-host.host _ _ c.in_ok-host.ensures.mounts) c.in_err-exploration.ensures.script)) refl))

pub answer_all-requires-clause-sizes : goal.answer_all-requires-clause-sizes
answer_all-requires-clause-sizes g c = sym (c.geometry-geometry.ensures ∙ mounted_sizes (snapshot_of c.in_ok-image.image) c.in_ok-host.host _ _ c.in_ok-host.ensures.mounts)

pub answer_all-requires-clause-valid : goal.answer_all-requires-clause-valid
answer_all-requires-clause-valid g c = rw c.geometry-geometry.ensures (mounted_valid (snapshot_of c.in_ok-image.image) c.in_ok-host.host _ _ c.in_ok-host.ensures.mounts)

pub report-requires-clause-first_marks : goal.report-requires-clause-first_marks
report-requires-clause-first_marks g c = omega (arith, c.in_ok-exploration.ensures.first_len, c.in_ok-exploration.ensures.refused_len)

pub report-requires-clause-marks : goal.report-requires-clause-marks
report-requires-clause-marks g c = omega (arith, c.in_ok-exploration.ensures.refused_len)

pub returns-in_err-refused : goal.returns-in_err-refused
returns-in_err-refused g c =
    let p = err_from_is_err_and c.from_residual-in_err-refused.result c.from_residual-in_err-refused.ensures.1 in
    let old = world (g.D.Lines.state c.args.device.now) (g.F.Images.held c.args.images.now) (g.F.Images.count c.args.images.now) (g.T.Source.left c.args.script.now) (g.T.Source.count c.args.script.now) (g.K.Sink.written c.args.answers.now) (g.K.Sink.count c.args.answers.now) in
    let new = world (g.D.Lines.state c.report.new.device) (g.F.Images.held c.fetch.new.images) (g.F.Images.count c.fetch.new.images) (g.T.Source.left c.read_all.new.script) (g.T.Source.count c.read_all.new.script) (g.K.Sink.written c.report.new.answers) (g.K.Sink.count c.report.new.answers) in
    let fetched = c.in_ok-image.ensures in
    let text = c.in_ok-text.ensures in
    let image = snapshot_of c.in_ok-image.image in
    let right = c.in_ok-host.ensures.mounts.right in
    let mountable : AreMountable image = record { snapshot = fetched.there.right; unit = fetched.there.taken; bytes = fetched.bytes; right = right } in
    let opens = c.in_ok-host.ensures.opens in
    let x = c.in_ok-exploration.exploration in
    let asks = c.in_ok-exploration.ensures in
    rw (p.1, p.2) (outcome_read c.args.name.now image old new fetched.there right (record { held = fetched.held; counts = fetched.counts }) c.in_ok-text.text.items x (Err c.in_err-refused.field-0.0) _
    (g.D.Lines.state c.start.new.device).panel (record { setups = opens.setups; faults = opens.faults; cuts = opens.cuts }) text.0 text.1 text.2
    (subst (λ script. ReadsScript (script_of (opened image).geometry script) (Ok x)) c.as_slice.ensures
    (subst (λ geo. ReadsScript (script_of geo c.as_slice.result.now) (Ok x)) (c.geometry.ensures ∙ mounted_sizes image c.in_ok-host.host _ _ c.in_ok-host.ensures.mounts) asks.script))
    (record { program = asks.first; bounds = asks.first_bounds }) (record { program = asks.program; bounds = asks.bounds })
    (λ e is first program. c.answers_are_theorems.ensures image (opened image).geometry c.in_ok-text.text.items e mountable is first program)
    refl (λ asked ask under. no_shown _ _ _ _ asked c.in_err-refused.field-0.0 _ _ _ _ _ _ c.in_err-refused.ensures.tells))

pub returns-in_err-show : goal.returns-in_err-show
returns-in_err-show g c =
    let p = err_from_is_err_and c.from_residual-in_err-show.result c.from_residual-in_err-show.ensures.1 in
    let old = world (g.D.Lines.state c.args.device.now) (g.F.Images.held c.args.images.now) (g.F.Images.count c.args.images.now) (g.T.Source.left c.args.script.now) (g.T.Source.count c.args.script.now) (g.K.Sink.written c.args.answers.now) (g.K.Sink.count c.args.answers.now) in
    let new = world (g.D.Lines.state c.show.new.device) (g.F.Images.held c.fetch.new.images) (g.F.Images.count c.fetch.new.images) (g.T.Source.left c.read_all.new.script) (g.T.Source.count c.read_all.new.script) (g.K.Sink.written c.show.new.answers) (g.K.Sink.count c.show.new.answers) in
    let fetched = c.in_ok-image.ensures in
    let text = c.in_ok-text.ensures in
    let image = snapshot_of c.in_ok-image.image in
    let right = c.in_ok-host.ensures.mounts.right in
    let mountable : AreMountable image = record { snapshot = fetched.there.right; unit = fetched.there.taken; bytes = fetched.bytes; right = right } in
    let opens = c.in_ok-host.ensures.opens in
    let x = c.in_ok-exploration.exploration in
    let asks = c.in_ok-exploration.ensures in
    rw (p.1, p.2) (outcome_read c.args.name.now image old new fetched.there right (record { held = fetched.held; counts = fetched.counts }) c.in_ok-text.text.items x (Err c.in_err-show.field-0.0) c.in_ok-refused.refused
    (g.D.Lines.state c.start.new.device).panel (record { setups = opens.setups; faults = opens.faults; cuts = opens.cuts }) text.0 text.1 text.2
    (subst (λ script. ReadsScript (script_of (opened image).geometry script) (Ok x)) c.as_slice.ensures
    (subst (λ geo. ReadsScript (script_of geo c.as_slice.result.now) (Ok x)) (c.geometry.ensures ∙ mounted_sizes image c.in_ok-host.host _ _ c.in_ok-host.ensures.mounts) asks.script))
    (record { program = asks.first; bounds = asks.first_bounds }) (record { program = asks.program; bounds = asks.bounds })
    (λ e is first program. c.answers_are_theorems.ensures image (opened image).geometry c.in_ok-text.text.items e mountable is first program)
    c.in_ok-refused.ensures.is
    (λ asked ask under. subst (λ front. AnswersAll (looked (opened image).geometry x.reads.items) front (read_found (opened image) x) asked (Err c.in_err-show.field-0.0) old.written new.written old.writes new.writes (g.D.Lines.state c.start.new.device).panel new.device.panel)
    (ap (λ t. read_refused (opened image) x ++ t) (append-nil (read_shown (opened image) x)))
    (behind_shown (read_refused (opened image) x) (read_shown (opened image) x ++ []) (looked (opened image).geometry x.reads.items) (read_found (opened image) x) asked (Err c.in_err-show.field-0.0) old.written (g.K.Sink.written c.report.new.answers) new.written old.writes (g.K.Sink.count c.report.new.answers) new.writes (g.D.Lines.state c.start.new.device).panel (g.D.Lines.state c.report.new.device).panel new.device.panel
    c.in_ok-refused.ensures.tells c.report.ensures.later c.in_ok-refused.ensures.counts
    (no_shown (read_shown (opened image) x) [] _ _ asked c.in_err-show.field-0.0 _ _ _ _ _ _ c.in_err-show.ensures.tells))))

pub returns-in_err-missed : goal.returns-in_err-missed
returns-in_err-missed g c =
    let p = err_from_is_err_and c.from_residual-in_err-missed.result c.from_residual-in_err-missed.ensures.1 in
    let old = world (g.D.Lines.state c.args.device.now) (g.F.Images.held c.args.images.now) (g.F.Images.count c.args.images.now) (g.T.Source.left c.args.script.now) (g.T.Source.count c.args.script.now) (g.K.Sink.written c.args.answers.now) (g.K.Sink.count c.args.answers.now) in
    let new = world (g.D.Lines.state c.answer_all.new.device) (g.F.Images.held c.fetch.new.images) (g.F.Images.count c.fetch.new.images) (g.T.Source.left c.read_all.new.script) (g.T.Source.count c.read_all.new.script) (g.K.Sink.written c.answer_all.new.answers) (g.K.Sink.count c.answer_all.new.answers) in
    let fetched = c.in_ok-image.ensures in
    let text = c.in_ok-text.ensures in
    let image = snapshot_of c.in_ok-image.image in
    let right = c.in_ok-host.ensures.mounts.right in
    let mountable : AreMountable image = record { snapshot = fetched.there.right; unit = fetched.there.taken; bytes = fetched.bytes; right = right } in
    let opens = c.in_ok-host.ensures.opens in
    let x = c.in_ok-exploration.exploration in
    let asks = c.in_ok-exploration.ensures in
    rw (p.1, p.2) (outcome_read c.args.name.now image old new fetched.there right (record { held = fetched.held; counts = fetched.counts }) c.in_ok-text.text.items x (Err c.in_err-missed.field-0.0) c.in_ok-refused.refused
    (g.D.Lines.state c.start.new.device).panel (record { setups = opens.setups; faults = opens.faults; cuts = opens.cuts }) text.0 text.1 text.2
    (subst (λ script. ReadsScript (script_of (opened image).geometry script) (Ok x)) c.as_slice.ensures
    (subst (λ geo. ReadsScript (script_of geo c.as_slice.result.now) (Ok x)) (c.geometry.ensures ∙ mounted_sizes image c.in_ok-host.host _ _ c.in_ok-host.ensures.mounts) asks.script))
    (record { program = asks.first; bounds = asks.first_bounds }) (record { program = asks.program; bounds = asks.bounds })
    (λ e is first program. c.answers_are_theorems.ensures image (opened image).geometry c.in_ok-text.text.items e mountable is first program)
    c.in_ok-refused.ensures.is
    (λ asked ask under. behind_shown (read_refused (opened image) x) (read_shown (opened image) x) (looked (opened image).geometry x.reads.items) (read_found (opened image) x) asked (Err c.in_err-missed.field-0.0) old.written (g.K.Sink.written c.report.new.answers) new.written old.writes (g.K.Sink.count c.report.new.answers) new.writes (g.D.Lines.state c.start.new.device).panel (g.D.Lines.state c.report.new.device).panel new.device.panel
    c.in_ok-refused.ensures.tells c.report.ensures.later c.in_ok-refused.ensures.counts
    (behind_first (read_shown (opened image) x) (looked (opened image).geometry x.reads.items) (read_found (opened image) x) asked (Err c.in_err-missed.field-0.0) (g.K.Sink.written c.report.new.answers) (g.K.Sink.written c.show.new.answers) new.written (g.K.Sink.count c.report.new.answers) (g.K.Sink.count c.show.new.answers) new.writes (g.D.Lines.state c.report.new.device).panel (g.D.Lines.state c.show.new.device).panel new.device.panel
    c.in_ok-show.ensures.tells c.show.ensures.later c.in_ok-show.ensures.counts (c.in_err-missed.ensures asked ask under))))

pub returns : goal.returns
returns g c =
    let old = world (g.D.Lines.state c.args.device.now) (g.F.Images.held c.args.images.now) (g.F.Images.count c.args.images.now) (g.T.Source.left c.args.script.now) (g.T.Source.count c.args.script.now) (g.K.Sink.written c.args.answers.now) (g.K.Sink.count c.args.answers.now) in
    let new = world (g.D.Lines.state c.answer_all.new.device) (g.F.Images.held c.fetch.new.images) (g.F.Images.count c.fetch.new.images) (g.T.Source.left c.read_all.new.script) (g.T.Source.count c.read_all.new.script) (g.K.Sink.written c.answer_all.new.answers) (g.K.Sink.count c.answer_all.new.answers) in
    let fetched = c.in_ok-image.ensures in
    let text = c.in_ok-text.ensures in
    let image = snapshot_of c.in_ok-image.image in
    let right = c.in_ok-host.ensures.mounts.right in
    let mountable : AreMountable image = record { snapshot = fetched.there.right; unit = fetched.there.taken; bytes = fetched.bytes; right = right } in
    let opens = c.in_ok-host.ensures.opens in
    let x = c.in_ok-exploration.exploration in
    let asks = c.in_ok-exploration.ensures in
    let same : c.if-refused.result ≡ (c.in_ok-refused.refused || c.in_ok-missed.missed) = elim c.if-refused.branch [
      | then-refused w ↦ w.result-is ∙ w.if-refused.true ∙ sym (ap (λ b. b || c.in_ok-missed.missed) w.if-refused.true)
      | else-refused w ↦ w.result-is ∙ sym (ap (λ b. b || c.in_ok-missed.missed) w.if-refused.false)
    ] in
    subst (λ b. Outcome c.args.name.now (Ok b) old new) (sym same) (outcome_read c.args.name.now image old new fetched.there right (record { held = fetched.held; counts = fetched.counts }) c.in_ok-text.text.items x (Ok c.in_ok-missed.missed) c.in_ok-refused.refused
    (g.D.Lines.state c.start.new.device).panel (record { setups = opens.setups; faults = opens.faults; cuts = opens.cuts }) text.0 text.1 text.2
    (subst (λ script. ReadsScript (script_of (opened image).geometry script) (Ok x)) c.as_slice.ensures
    (subst (λ geo. ReadsScript (script_of geo c.as_slice.result.now) (Ok x)) (c.geometry.ensures ∙ mounted_sizes image c.in_ok-host.host _ _ c.in_ok-host.ensures.mounts) asks.script))
    (record { program = asks.first; bounds = asks.first_bounds }) (record { program = asks.program; bounds = asks.bounds })
    (λ e is first program. c.answers_are_theorems.ensures image (opened image).geometry c.in_ok-text.text.items e mountable is first program)
    c.in_ok-refused.ensures.is
    (λ asked ask under. behind_shown (read_refused (opened image) x) (read_shown (opened image) x) (looked (opened image).geometry x.reads.items) (read_found (opened image) x) asked (Ok c.in_ok-missed.missed) old.written (g.K.Sink.written c.report.new.answers) new.written old.writes (g.K.Sink.count c.report.new.answers) new.writes (g.D.Lines.state c.start.new.device).panel (g.D.Lines.state c.report.new.device).panel new.device.panel
    c.in_ok-refused.ensures.tells c.report.ensures.later c.in_ok-refused.ensures.counts
    (behind_first (read_shown (opened image) x) (looked (opened image).geometry x.reads.items) (read_found (opened image) x) asked (Ok c.in_ok-missed.missed) (g.K.Sink.written c.report.new.answers) (g.K.Sink.written c.show.new.answers) new.written (g.K.Sink.count c.report.new.answers) (g.K.Sink.count c.show.new.answers) new.writes (g.D.Lines.state c.report.new.device).panel (g.D.Lines.state c.show.new.device).panel new.device.panel
    c.in_ok-show.ensures.tells c.show.ensures.later c.in_ok-show.ensures.counts (c.in_ok-missed.ensures asked ask under))))
