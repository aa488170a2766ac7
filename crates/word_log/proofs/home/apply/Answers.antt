use Rattle.std.proofs.Common.{subst}
use Rattle.line_words.specs.Words.{IsOnly}
use Rattle.line_words.proofs.FrameLemmas.{outside-trans, outside-write_back}
use Rattle.word_log.proofs.StepLemmas.{on_ok-then}
use Rattle.word_log.proofs.home.apply.Goals as goal

pub returns-clause-outside : goal.returns-clause-outside
returns-clause-outside g c = outside-trans _ _ _ _ c.in_ok-store_home.ensures.outside (outside-write_back _ _ _ c.persist_home.ensures.lines)

pub returns-clause-ok : goal.returns-clause-ok
returns-clause-ok g c =
    let new = (g.L.Lines.state c.persist_home.new.dev).medium in
    on_ok-then c.persist_home.result c.persist_home.ensures.ok (λ durable p listed. subst (λ v. IsOnly v (new.history p)) (c.in_ok-store_home.ensures.ok p) (durable p listed))
