use Rattle.line_device.proofs.WriteBackLemmas.{write_back-refl}
use Rattle.line_module.specs.Module.{module_medium}
use Rattle.line_module.proofs.module.device.ModuleLineDevice.extract.Goals as goal

pub returns-clause-lines : goal.returns-clause-lines
returns-clause-lines c = write_back-refl (module_medium c.args.self.now)
