use Rattle.file_actions.proofs.PreparedLemmas.{before-refl}
use Rattle.file_actions.proofs.preparing.write_touched.Goals as goal

pub returns-then-not-touches_any-clause-before : goal.returns-then-not-touches_any-clause-before
returns-then-not-touches_any-clause-before g c = before-refl _ _ c.requires.serves
