use Rattle.std.proofs.Common.{replicate, ◌∙◌, ap, false}
use Rattle.nvm_model.specs.Cell.Cell.{Kept}
use Rattle.line_histories.specs.Held.{histories}
use Rattle.line_histories.proofs.HeldLemmas.{histories-zeros}
use Rattle.line_histories.proofs.line.HeldLine.zeros.Goals as goal

pub returns : goal.returns
returns c = ap (λ log. Kept false (histories (replicate 8 0) log)) c.new.ensures.items ∙ ap (Kept false) histories-zeros
