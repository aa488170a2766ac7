use Rattle.std.proofs.Common.{sym, ◌∙◌}
use Rattle.page_lines.proofs.OthersLemmas.{others-refl}
use Rattle.page_lines.proofs.TurnLemmas.{turns-persist, others-persist}
use Rattle.page_lines.proofs.persisting.persist_at.Goals as goal

pub returns-in-Some-clause-ok : goal.returns-in-Some-clause-ok
returns-in-Some-clause-ok g c = turns-persist c.persist_one.result _ c.in-Some.line _ _ (sym c.line.ensures ∙ c.in-Some.is) c.persist_one.ensures.lines

pub returns-in-Some-clause-outside : goal.returns-in-Some-clause-outside
returns-in-Some-clause-outside g c = others-persist c.persist_one.result _ c.in-Some.line _ _ (sym c.line.ensures ∙ c.in-Some.is) c.persist_one.ensures.lines

pub returns-in-None-clause-outside : goal.returns-in-None-clause-outside
returns-in-None-clause-outside g c = others-refl _ _
