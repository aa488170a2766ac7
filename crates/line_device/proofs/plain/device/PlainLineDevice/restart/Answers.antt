use Rattle.std.proofs.Common.{refl, sym, ap, subst}
use Rattle.line_device.specs.Medium.{Survivors}
use Rattle.line_device.specs.Panel.{Start}
use Rattle.line_device.specs.Cells.{medium_of}
use Rattle.line_device.specs.Plain.{plain_medium}
use Rattle.line_device.specs.Switches.{panel_of}
use Rattle.line_device.specs.PlainSound.{is_sound-plain}
use Rattle.line_device.proofs.RestartLemmas.{survivors-kept, image_of, depicts-survivors}
use Rattle.line_device.proofs.plain.device.PlainLineDevice.restart.Goals as goal

pub returns-clause-restarted : goal.returns-clause-restarted
returns-clause-restarted c =
    let old = plain_medium c.args.self.now in
    let new = medium_of c.keep.new.self in
    let unit = c.args.self.now.switches.unit in
    let survivors : Survivors unit c.args.choice old new = subst (Survivors unit c.args.choice old) (sym c.keep.ensures) (survivors-kept unit c.args.choice old (is_sound-plain c.args.self.now)) in
    let start : Start = record { choice = c.args.choice; image = image_of unit new } in
    (start, record { lines = survivors; asked = refl; unit = refl; image = depicts-survivors unit c.args.choice old new survivors; panel = ap panel_of c.restart.ensures })
