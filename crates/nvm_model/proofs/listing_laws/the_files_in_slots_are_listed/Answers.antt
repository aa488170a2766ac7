use Rattle.nvm_model.proofs.RiseLemmas.{rises-in_order}
use Rattle.nvm_model.proofs.ListedLemmas.{in_order-contains, contains-in_order, length-in_order}
use Rattle.nvm_model.proofs.listing_laws.the_files_in_slots_are_listed.Goals as goal

pub returns-clause-rises : goal.returns-clause-rises
returns-clause-rises g c = rises-in_order

pub returns-clause-files : goal.returns-clause-files
returns-clause-files g c = λ name slots file. (in_order-contains name slots file, contains-in_order name slots file)

pub returns-clause-once : goal.returns-clause-once
returns-clause-once g c = length-in_order
