use Rattle.nvm_model.proofs.SlotLemmas.{file_of-in_order, file_of-missing}
use Rattle.nvm_model.proofs.listing_laws.listed_files_are_found.Goals as goal

pub returns-clause-found : goal.returns-clause-found
returns-clause-found g c = file_of-in_order

pub returns-clause-missing : goal.returns-clause-missing
returns-clause-missing g c = file_of-missing
