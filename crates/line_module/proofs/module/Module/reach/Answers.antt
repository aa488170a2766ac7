use Rattle.line_device.proofs.WriteBackLemmas.{write_back-refl}
use Rattle.line_module.specs.Module.{module_medium}
use Rattle.line_module.proofs.module.Module.reach.Goals as goal

pub returns-in_err-count_call-clause-lines : goal.returns-in_err-count_call-clause-lines
returns-in_err-count_call-clause-lines c = write_back-refl (module_medium c.args.self.now)

pub returns-then-bad-clause-lines : goal.returns-then-bad-clause-lines
returns-then-bad-clause-lines c = write_back-refl (module_medium c.args.self.now)

pub returns-clause-lines : goal.returns-clause-lines
returns-clause-lines c = write_back-refl (module_medium c.args.self.now)
