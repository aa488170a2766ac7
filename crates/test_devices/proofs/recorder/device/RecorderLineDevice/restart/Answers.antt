use Rattle.std.proofs.Common.{◌≡◌, [], ◌∷◌, ◌++◌, List, map, sym, ◌∙◌, ap, subst}
use Rattle.std.proofs.lemmas.List.{map-append}
use Rattle.std.proofs.lemmas.Result.{MatchResult-from_err, IfOk-at_ok}
use Rattle.line_device.specs.Panel as panel
use Rattle.line_device.specs.Device.{Device, Restarted}
use Rattle.line_device.proofs.RestartLemmas.{waited_same}
use Rattle.test_devices.specs.Starts.{told_start}
use Rattle.test_devices.specs.Recorder.{recorded}
use Rattle.test_devices.specs.declared.start.Start.{Start}
use Rattle.test_devices.proofs.RecorderLemmas.{telling, restarted-telling}
use Rattle.test_devices.proofs.recorder.device.RecorderLineDevice.restart.Goals as goal

pub returns-in_err-lines-clause-restarted : goal.returns-in_err-lines-clause-restarted
returns-in_err-lines-clause-restarted g c = MatchResult-from_err c.from_residual.result _ _ c.from_residual.ensures.0 (λ _. waited_same _ _ c.in_err-lines.ensures.same)

pub returns-clause-restarted : goal.returns-clause-restarted
returns-clause-restarted g c =
    let choice = c.args.choice in
    let before = c.room.new.self in
    let start : Start = record { choice = choice; unit = c.unit-unit.result; lines = c.look.new.lines } in
    let pushed : c.push.new.self.items ≡ before.starts.items ++ start ∷ [] = IfOk-at_ok (λ _. c.push.new.self.items ≡ before.starts.items ++ start ∷ []) c.unwrap.ensures c.push.ensures.ok in
    let told : map told_start c.push.new.self.items ≡ map told_start before.starts.items ++ told_start start ∷ [] =
    ap (map told_start) pushed ∙ map-append told_start before.starts.items (start ∷ []) in
    let new = g.D.Lines.state c.restart.new.self in
    let r = restarted-telling c.unit-unit.result choice (g.D.Lines.state before.inner) new c.in_ok-restart.ensures.0 (map told_start before.starts.items) before.last c.look.new.lines.items (g.met.D.Lines.sound c.restart.new.self) c.unit-unit.ensures c.in_ok-restart.ensures.1 c.look.ensures.count c.look.ensures.lines in
    let from_old = subst (λ (d : Device). Restarted choice d (telling (map told_start before.starts.items ++ told_start start ∷ []) before.last new) (told_start start)) c.room.ensures.same r in
    (told_start start, subst (λ (l : List panel.Start). Restarted choice (recorded g.D.Lines.state c.args.self.now) (telling l before.last new) (told_start start)) (sym told) from_old)
