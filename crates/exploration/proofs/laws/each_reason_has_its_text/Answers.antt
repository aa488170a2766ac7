use Rattle.exploration.proofs.ReasonTextLemmas.{reasons-apart}
use Rattle.exploration.proofs.laws.each_reason_has_its_text.Goals as goal

pub returns : goal.returns
returns c = reasons-apart
