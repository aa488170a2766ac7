use Rattle.std.proofs.Common.{inl, inr, subst, arith}
use Rattle.line_device.specs.Medium.{last_image}
use Rattle.line_device.proofs.WriteBackLemmas.{write_back-trans, newest-write_back}
use Rattle.line_words.specs.Words.{IsGoodLine}
use Rattle.line_words.specs.Words.{IsOnly}
use Rattle.word_log.proofs.FrameLemmas.{log_good_line, home_good_line}
use Rattle.line_words.proofs.FrameLemmas.{good_line-write_back, is_only-write_back}
use Rattle.word_log.proofs.StepLemmas.{on_ok-then}
use Rattle.word_log.proofs.lines.make_durable.Goals as goal

pub persist_lines-requires-clause-good_line : goal.persist_lines-requires-clause-good_line
persist_lines-requires-clause-good_line g c = λ line from to. log_good_line c.args.area _ line c.requires.usable.fits c.requires.usable.strong c.requires.usable.whole from to

pub persist_lines-requires-2-clause-end : goal.persist_lines-requires-2-clause-end
persist_lines-requires-2-clause-end g c = omega (arith, c.home_lines-home.ensures.end, c.requires.usable.fits.home, c.in_ok-persist_lines.ensures.lines.count)

pub persist_lines-requires-2-clause-good_line : goal.persist_lines-requires-2-clause-good_line
persist_lines-requires-2-clause-good_line g c = λ line from to.
    let at = c.home_lines-home.ensures.only line from to in
    let good_line = home_good_line c.args.area _ at.0 c.requires.usable.fits c.requires.usable.strong c.requires.usable.whole at.1 in
    subst (IsGoodLine (g.L.Lines.state c.persist_lines.new.dev).medium) at.2 (good_line-write_back _ _ _ good_line c.in_ok-persist_lines.ensures.lines)

pub returns-clause-lines : goal.returns-clause-lines
returns-clause-lines g c = write_back-trans _ _ _ c.in_ok-persist_lines.ensures.lines c.persist_lines-2.ensures.lines

pub returns-clause-ok : goal.returns-clause-ok
returns-clause-ok g c =
    let new = (g.L.Lines.state c.persist_lines-2.new.dev).medium in
    let old = (g.L.Lines.state c.args.dev.now).medium in
    on_ok-then c.persist_lines-2.result c.persist_lines-2.ensures.ok (λ durable p of.
    elim of as (λ _. IsOnly (last_image old p) (new.history p)) [
      | inl log ↦ is_only-write_back _ new p (last_image old p) c.persist_lines-2.ensures.lines (c.in_ok-persist_lines.ensures.ok p (omega (arith, log)) (omega (arith, log)))
      | inr home ↦
          let at = c.home_lines-home.ensures.covers p home in
          subst (λ v. IsOnly v (new.history p)) (newest-write_back old _ c.in_ok-persist_lines.ensures.lines p) (durable p at.0 at.1)
    ])
