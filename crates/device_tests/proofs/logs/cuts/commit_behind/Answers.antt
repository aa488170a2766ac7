use Rattle.std.proofs.Common.{◌≡◌, ℕ, ap, sym, subst}
use Rattle.line_device.specs.Medium.{Medium}
use Rattle.word_log.specs.declared.area.LogArea.{LogArea}
use Rattle.word_log.specs.State.{LogState}
use Rattle.word_log.specs.Rest.{IsAtRest}
use Rattle.device_tests.proofs.logs.cuts.commit_behind.Goals as goal

-- a log at rest, over equal lines
rest-same : (a : LogArea) (words : ℕ → ℕ) (m n : Medium) → n ≡ m → IsAtRest a m words → IsAtRest a n words
rest-same a words m n same rest = subst (λ k. IsAtRest a k words) (sym same) rest

pub commit-answer-requires-clause-rest : goal.commit-answer-requires-clause-rest
commit-answer-requires-clause-rest g c =
    let behind = (g.D.Lines.state c.new-fuse.result.inner).medium in
    subst (λ a. (words : ℕ → ℕ) × IsAtRest a behind words) (sym (ap (λ (s : LogState). s.area) c.in-Ok.ensures.log))
    (_, rest-same _ _ _ behind c.new-fuse.ensures.lines c.in-Ok.ensures.ok)
