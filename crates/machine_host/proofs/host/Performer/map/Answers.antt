use Rattle.machine_host.proofs.MapLemmas.{map_done, map_faulted}
use Rattle.machine_host.proofs.host.Performer.map.Goals as goal

pub returns-in-Ok : goal.returns-in-Ok
returns-in-Ok g c =
    let said = c.in-Ok.ensures in
    map_done g.D.Lines.state c.args.self.now _ c.map-call.new.files c.map-call.new.self c.args.name.now c.args.span c.args.kind c.in-Ok.handle c.args.device.now c.map-call.new.dev c.self.view_is c.requires.on c.requires.serves
    said.refused said.ok said.handle said.lines said.serves said.object said.runs said.shown

pub returns-in-Err : goal.returns-in-Err
returns-in-Err g c =
    let said = c.in-Err.ensures in
    map_faulted g.D.Lines.state c.args.self.now _ _ c.map-call.new.files c.map-call.new.self c.args.name.now c.args.span c.args.kind c.in-Err.fault c.args.device.now c.map-call.new.dev c.map_fault.result c.self.view_is
    c.map_fault.ensures.state c.map_fault.ensures.answer c.requires.on c.requires.serves
    said.refused said.untouched said.memory said.err said.lines said.serves said.object said.runs said.shown
