use Rattle.std.proofs.Common.{◌≡◌, ◌+◌, ◌*◌, List, subst, length, arith}
use Rattle.std.proofs.lemmas.Bool.{ne_eqb}
use Rattle.line_words.specs.Told.{Checks}
use Rattle.nvm_model.specs.Page.{Page}
use Rattle.pm_volume.specs.Object.{VolumeHolds}
use Rattle.append_log.specs.Log.{LogState}
use Rattle.append_log.specs.Refusals.{check_refusal, log_says}
use Rattle.append_log.proofs.CheckLemmas.{check-first, check-second}
use Rattle.append_log.proofs.log.AppendLog.check.Goals as goal

pub returns-in_err-check_line-clause-refused : goal.returns-in_err-check_line-clause-refused
returns-in_err-check_line-clause-refused g c =
    let m = (g.L.Lines.state c.args.dev.now).medium in
    let inside : LogState = record { volume = c.self.inside.volume; len = c.self.inside.len } in
    let size : c.count.result * 64 ≡ 64 * c.self.inside.volume.geo.vpages = omega (arith, c.count.ensures.count) in
    subst (λ (t : LogState). (pages : List Page) → VolumeHolds t.volume m pages → Checks log_says (check_refusal t pages (length c.args.record.now)) c.from_residual.result) c.self.view_is
    (λ pages holds.
    check-first inside pages (length c.args.record.now) c.if-record-gt-MOST_BYTES.false (ne_eqb (c.self.inside.len + 1) (64 * c.self.inside.volume.geo.vpages) (λ is. c.if-self-count.false (omega (arith, is, size)))) (Unit {0}) _
    c.in_err-check_line.field-0.0 c.from_residual.result c.from_residual.ensures.1 (c.in_err-check_line.ensures pages holds))

pub returns-clause-refused : goal.returns-clause-refused
returns-clause-refused g c =
    let m = (g.L.Lines.state c.args.dev.now).medium in
    let inside : LogState = record { volume = c.self.inside.volume; len = c.self.inside.len } in
    let size : c.count.result * 64 ≡ 64 * c.self.inside.volume.geo.vpages = omega (arith, c.count.ensures.count) in
    subst (λ (t : LogState). (pages : List Page) → VolumeHolds t.volume m pages → Checks log_says (check_refusal t pages (length c.args.record.now)) c.check_line-2.result) c.self.view_is
    (λ pages holds.
    check-second inside pages (length c.args.record.now) c.if-record-gt-MOST_BYTES.false (ne_eqb (c.self.inside.len + 1) (64 * c.self.inside.volume.geo.vpages) (λ is. c.if-self-count.false (omega (arith, is, size)))) (Unit {0}) _
    c.in_ok-check_line.field-0 c.check_line-2.result (c.in_ok-check_line.ensures pages holds) (c.check_line-2.ensures pages holds))
