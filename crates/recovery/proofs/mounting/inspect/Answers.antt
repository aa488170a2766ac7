use Rattle.std.proofs.Common.{Ok, Err, option_map, subst}
use Rattle.line_device.proofs.WriteBackLemmas.{write_back-trans}
use Rattle.word_tables.specs.declared.geometry.Geometry.{Geometry}
use Rattle.word_log.specs.Mount.Finding.{wrong_word}
use Rattle.recovery.specs.Findings.{inspection_finding}
use Rattle.recovery.specs.Mounting.{Finds}
use Rattle.recovery.proofs.FindingLemmas.{finds_early_one, finds_inspected, finds_on, handed}
use Rattle.recovery.proofs.MountLemmas.{logs_same}
use Rattle.recovery.proofs.mounting.inspect.Goals as goal

pub returns-in_err-geo-clause-finds : goal.returns-in_err-geo-clause-finds
returns-in_err-geo-clause-finds g c =
    let m = (g.L.Lines.state c.args.dev.now).medium in
    let f = c.in_err-geo.field-0.0 in
    finds_on (inspection_finding m) c.from_residual.result f (handed c.from_residual.result f c.from_residual.ensures.1) (finds_early_one Geometry Geometry m f c.in_err-geo.ensures.finds)

pub returns-in_err-inspect_logs-clause-finds : goal.returns-in_err-inspect_logs-clause-finds
returns-in_err-inspect_logs-clause-finds g c =
    let old = (g.L.Lines.state c.args.dev.now).medium in
    let now = (g.L.Lines.state c.find_sizes.new.dev).medium in
    let f = c.in_err-inspect_logs.field-0.0 in
    let r = c.from_residual-in_err-inspect_logs.result in
    finds_on (inspection_finding old) r f (handed r f c.from_residual-in_err-inspect_logs.ensures.1)
    (finds_inspected {T = Geometry} old (Err f) c.in_ok-geo.ensures.finds
    (subst (λ o. Finds {T = Geometry} (option_map wrong_word o) (Err f)) (logs_same old now c.in_ok-geo.geo c.in_ok-geo.ensures.geo c.in_ok-geo.ensures.lines) c.in_err-inspect_logs.ensures.finds))

pub returns-in_err-inspect_logs-clause-lines : goal.returns-in_err-inspect_logs-clause-lines
returns-in_err-inspect_logs-clause-lines g c = write_back-trans _ _ _ c.in_ok-geo.ensures.lines c.in_err-inspect_logs.ensures.lines

pub returns-clause-finds : goal.returns-clause-finds
returns-clause-finds g c =
    let old = (g.L.Lines.state c.args.dev.now).medium in
    let now = (g.L.Lines.state c.find_sizes.new.dev).medium in
    finds_inspected {T = Geometry} old (Ok c.in_ok-geo.geo) c.in_ok-geo.ensures.finds
    (subst (λ o. Finds {T = Geometry} (option_map wrong_word o) (Ok c.in_ok-geo.geo)) (logs_same old now c.in_ok-geo.geo c.in_ok-geo.ensures.geo c.in_ok-geo.ensures.lines) c.in_ok-inspect_logs.ensures.finds)

pub returns-clause-lines : goal.returns-clause-lines
returns-clause-lines g c = write_back-trans _ _ _ c.in_ok-geo.ensures.lines c.in_ok-inspect_logs.ensures.lines
