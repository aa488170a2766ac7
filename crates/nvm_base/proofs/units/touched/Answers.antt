use Rattle.nvm_base.proofs.UnitLemmas.{Holds-units_of}
use Rattle.nvm_base.proofs.units.touched.Goals as goal

pub returns-clause-touched : goal.returns-clause-touched
returns-clause-touched c = Holds-units_of c.args.unit c.args.span c.requires.unit c.requires.some
