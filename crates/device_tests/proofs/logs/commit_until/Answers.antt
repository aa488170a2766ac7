use Rattle.std.proofs.Common.{ℕ, ap, sym, subst}
use Rattle.word_log.specs.State.{LogState}
use Rattle.word_log.specs.Rest.{IsAtRest}
use Rattle.word_log.proofs.PhaseLemmas.{rest-write_back}
use Rattle.device_tests.proofs.logs.commit_until.Goals as goal

pub commit-requires-clause-rest : goal.commit-requires-clause-rest
commit-requires-clause-rest g c =
    let new = (g.D.Lines.state c.arm_cut.new.self).medium in
    subst (λ a. (words : ℕ → ℕ) × IsAtRest a new words) (sym (ap (λ (s : LogState). s.area) c.in-Ok.ensures.log))
    (_, rest-write_back _ _ _ new c.in-Ok.ensures.ok c.arm_cut.ensures.lines)
