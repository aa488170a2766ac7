use Rattle.nvm_model.proofs.PutLemmas.{byte_in-put}
use Rattle.nvm_model.proofs.laws.what_was_put_is_seen.Goals as goal

pub returns : goal.returns
returns c = byte_in-put
