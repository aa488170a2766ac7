use Rattle.pm_volume.proofs.AddressLemmas.{address_none, address_some}
use Rattle.pm_volume.proofs.laws.addresses_are_found.Goals as goal

pub returns-clause-none : goal.returns-clause-none
returns-clause-none c = λ geo address len valid some. address_none geo valid address len some

pub returns-clause-some : goal.returns-clause-some
returns-clause-some c = λ geo address len offset k valid is below. address_some geo valid address len offset k is below
