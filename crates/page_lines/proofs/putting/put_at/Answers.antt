use Rattle.std.proofs.Common.{sym, ◌∙◌}
use Rattle.nvm_model.specs.Cell.{put_cell}
use Rattle.nvm_model.specs.Interrupted.{MayPut}
use Rattle.page_lines.specs.Turns.{Turns, MayTurn}
use Rattle.page_lines.proofs.OthersLemmas.{others-refl}
use Rattle.page_lines.proofs.PutLemmas.{ok_there, err_there, others_there}
use Rattle.page_lines.proofs.putting.put_at.Goals as goal

pub returns-in-Some-clause-ok : goal.returns-in-Some-clause-ok
returns-in-Some-clause-ok g c =
    ok_there c.put_one.result _ c.in-Some.line (λ line. Turns (put_cell c.args.offset c.args.bytes.now c.args.n) line _ _) (sym c.line.ensures ∙ c.in-Some.is) c.put_one.ensures.ok

pub returns-in-Some-clause-err : goal.returns-in-Some-clause-err
returns-in-Some-clause-err g c =
    err_there c.put_one.result _ c.in-Some.line (λ line. MayTurn (MayPut c.args.offset c.args.bytes.now c.args.n) line _ _) (sym c.line.ensures ∙ c.in-Some.is) c.put_one.ensures.err

pub returns-in-Some-clause-outside : goal.returns-in-Some-clause-outside
returns-in-Some-clause-outside g c = others_there _ c.in-Some.line _ _ (sym c.line.ensures ∙ c.in-Some.is) c.put_one.ensures.outside

pub returns-in-None-clause-outside : goal.returns-in-None-clause-outside
returns-in-None-clause-outside g c = others-refl _ _
