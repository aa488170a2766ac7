use Rattle.std.proofs.Common.{Some, take, sym, ap, ◌∙◌}
use Rattle.nvm_base.specs.Names.{name_in}
use Rattle.nvm_base.proofs.NameLemmas.{name_in-padded}
use Rattle.nvm_base.proofs.names.Name.padded.Goals as goal

pub returns-clause-read_back : goal.returns-clause-read_back
returns-clause-read_back c =
    ap name_in (sym c.self.invariant.zeros) ∙ name_in-padded (take c.self.inside.len c.self.inside.bytes) c.self.invariant.name ∙ ap Some c.self.view_is
