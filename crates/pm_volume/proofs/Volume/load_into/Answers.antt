use Rattle.std.proofs.Common.{rules, true, false}
use Rattle.line_device.proofs.WriteBackLemmas.{write_back-refl}
use Rattle.pm_volume.proofs.ServesLemmas.{serves-loaded}
use Rattle.pm_volume.proofs.Volume.load_into.Goals as goal

pub returns-in_err-check_readable-clause-loads : goal.returns-in_err-check_readable-clause-loads
returns-in_err-check_readable-clause-loads g c = record { ok = search rules; err = search rules; lines = write_back-refl _; runs = search rules }

pub returns-in_err-load-clause-serves : goal.returns-in_err-load-clause-serves
returns-in_err-load-clause-serves g c = serves-loaded _ c.args.self.now c.self.view_is false _ _ c.load.ensures.loads.lines c.requires.ready.serves

pub returns-clause-serves : goal.returns-clause-serves
returns-clause-serves g c = serves-loaded _ c.args.self.now c.self.view_is true _ _ c.load.ensures.loads.lines c.requires.ready.serves
