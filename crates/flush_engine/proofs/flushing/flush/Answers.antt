use Rattle.page_lines.proofs.OthersLemmas.{others-refl}
use Rattle.flush_engine.proofs.RefusedLemmas.{flushed-err, flushed-stop}
use Rattle.flush_engine.proofs.flushing.flush.Goals as goal

pub returns-in_err-check-clause-beside : goal.returns-in_err-check-clause-beside
returns-in_err-check-clause-beside g c = others-refl _ _

pub returns-in_err-check-clause-outside : goal.returns-in_err-check-clause-outside
returns-in_err-check-clause-outside g c = others-refl _ _

pub returns-in_err-check-clause-verify : goal.returns-in_err-check-clause-verify
returns-in_err-check-clause-verify g c = flushed-err c.in_err-check.field-0.0 c.from_residual.result c.from_residual.ensures.1 c.in_err-check.ensures.verify

pub returns-in_err-persist_all-clause-verify : goal.returns-in_err-persist_all-clause-verify
returns-in_err-persist_all-clause-verify g c = flushed-stop c.in_err-persist_all.field-0.0 c.from_residual-in_err-persist_all.result c.from_residual-in_err-persist_all.ensures.1
