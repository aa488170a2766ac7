use Rattle.std.proofs.Common.{ℕ, List, [], ◌∷◌, false, ap, ◌∙◌}
use Rattle.line_device.specs.Word.{word_at}
use Rattle.nvm_model.specs.Cell.Cell.{Kept}
use Rattle.nvm_model.specs.Numbered.{list_from}
use Rattle.cut_places.proofs.rewriting.rewritten.Goals as goal

pub returns : goal.returns
returns c = c.of_bytes.ensures ∙ ap (λ (bytes : List ℕ). Kept false (list_from (λ w. word_at bytes w ∷ []) 0 8)) c.new_bytes.ensures
