use Rattle.std.proofs.Common.{◌≡◌, refl, sym, ◌∙◌, ap, subst}
use Rattle.std.specs.Prelude.{Option, Some}
use Rattle.line_device.specs.Medium.{Survivors}
use Rattle.line_device.specs.Panel.{Start}
use Rattle.line_device.specs.Device.{Restarted}
use Rattle.line_device.specs.Switches.{panel_of, switches_after_restart}
use Rattle.line_device.specs.declared.line.Choice.{Choice}
use Rattle.line_device.specs.declared.switches.Switches.{Switches}
use Rattle.line_device.proofs.RestartLemmas.{image_of, depicts-survivors}
use Rattle.line_module.specs.Memory.{Memory, memory_after_restart}
use Rattle.line_module.specs.Module.{memory_held}
use Rattle.line_module.specs.ModuleSound.{is_sound-held}
use Rattle.line_module.specs.declared.cells.Cells.{Cells}
use Rattle.line_module.proofs.MemoryLemmas.{survivors-memory}
use Rattle.line_module.proofs.RestartLemmas.{restart-zeros}
use Rattle.line_module.proofs.module.device.ModuleLineDevice.restart.Goals as goal

restarted_by : (choice : Choice) (old new : Option Cells) (before after : Switches) → (memory_held new).medium ≡ (memory_after_restart before.unit (memory_held old) choice).medium → after ≡ switches_after_restart before → (start : Start) × Restarted choice (record { medium = (memory_held old).medium; panel = panel_of before }) (record { medium = (memory_held new).medium; panel = panel_of after }) start
restarted_by choice old new before after is switched =
    let m = (memory_held old).medium in
    let m' = (memory_held new).medium in
    let unit = before.unit in
    let survivors : Survivors unit choice m m' = subst (Survivors unit choice m) (sym is) (survivors-memory unit choice (memory_held old) (is_sound-held old)) in
    (record { choice = choice; image = image_of unit m' }, record { lines = survivors; asked = refl; unit = refl; image = depicts-survivors unit choice m m' survivors; panel = ap panel_of switched })

pub returns-in-Some-clause-restarted : goal.returns-in-Some-clause-restarted
returns-in-Some-clause-restarted c =
    let old = c.args.self.now in
    let cells = c.restart-in-Some.new.self in
    let unit : c.unit-unit.result ≡ old.switches.unit = c.unit-unit.ensures ∙ ap (λ (s : Switches). s.unit) c.restart.ensures in
    let is : (memory_held (Some cells)).medium ≡ (memory_after_restart old.switches.unit (memory_held old.cells) c.args.choice).medium =
    ap (λ (s : Memory). s.medium) c.restart-in-Some.ensures
    ∙ ap (λ u. (memory_after_restart u (memory_held (Some c.in-Some.cells)) c.args.choice).medium) unit
    ∙ sym (ap (λ k. (memory_after_restart old.switches.unit (memory_held k) c.args.choice).medium) c.in-Some.is) in
    restarted_by c.args.choice old.cells (Some cells) old.switches c.restart.new.self is c.restart.ensures

pub returns-in-None-clause-restarted : goal.returns-in-None-clause-restarted
returns-in-None-clause-restarted c =
    let old = c.args.self.now in
    let choice = c.args.choice in
    let is : (memory_held old.cells).medium ≡ (memory_after_restart old.switches.unit (memory_held old.cells) choice).medium =
    ap (λ k. (memory_held k).medium) c.in-None.is ∙ restart-zeros old.switches.unit choice ∙ sym (ap (λ k. (memory_after_restart old.switches.unit (memory_held k) choice).medium) c.in-None.is) in
    restarted_by choice old.cells old.cells old.switches c.restart.new.self is c.restart.ensures
