use Rattle.std.proofs.Common.{sym, ◌∙◌}
use Rattle.line_words.proofs.BesideLemmas.{beside-clear}
use Rattle.nvm_model.specs.Cell.{CellStands, zero_cell}
use Rattle.page_lines.proofs.OthersLemmas.{others-refl}
use Rattle.page_lines.proofs.PutLemmas.{ok_there, others_there}
use Rattle.page_lines.proofs.ClearLemmas.{err_cleared, ok_cleared, others-clear}
use Rattle.page_lines.proofs.clearing.clear_at.Goals as goal

pub returns-in-Some-clause-ok : goal.returns-in-Some-clause-ok
returns-in-Some-clause-ok g c =
    ok_there c.clear_line.result _ c.in-Some.line (λ line. CellStands (g.L.Lines.state c.clear_line.new.dev).medium line zero_cell) (sym c.line.ensures ∙ c.in-Some.is)
    (ok_cleared c.clear_line.result _ _ c.in-Some.line c.clear_line.ensures.lines)

pub returns-in-Some-clause-err : goal.returns-in-Some-clause-err
returns-in-Some-clause-err g c = err_cleared c.clear_line.result _ _ c.in-Some.line c.clear_line.ensures.lines

pub returns-in-Some-clause-good : goal.returns-in-Some-clause-good
returns-in-Some-clause-good g c = (beside-clear c.clear_line.result _ _ c.in-Some.line c.clear_line.ensures.lines).stays_good

pub returns-in-Some-clause-outside : goal.returns-in-Some-clause-outside
returns-in-Some-clause-outside g c =
    others_there _ c.in-Some.line _ _ (sym c.line.ensures ∙ c.in-Some.is) (others-clear c.clear_line.result _ _ c.in-Some.line c.clear_line.ensures.lines)

pub returns-in-None-clause-outside : goal.returns-in-None-clause-outside
returns-in-None-clause-outside g c = others-refl _ _
