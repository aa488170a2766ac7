use Rattle.std.proofs.Common.{◌≡◌, ◌⊎◌, inl, inr, ◌/◌, IsTrue, take, get_or, sym, ap, subst}
use Rattle.std.proofs.lemmas.List.{take_all, take_more}
use Rattle.std.proofs.lemmas.Bool.{false≢true}
use Rattle.line_device.specs.Medium.{last_image}
use Rattle.line_device.proofs.WriteBackLemmas.{write_back-refl, write_back-trans}
use Rattle.line_device.proofs.PanelLemmas.{runs-refl, runs_then}
use Rattle.word_log.specs.Changes.{lists}
use Rattle.line_words.specs.Words.{IsOnly}
use Rattle.line_words.proofs.FrameLemmas.{is_only-one_more, write_back-one_more}
use Rattle.word_log.proofs.ChangeLemmas.{lists-at, lists-more}
use Rattle.word_log.proofs.home.persist_home.Goals as goal

pub loop-change-init : goal.loop-change-init
loop-change-init g c = record {
  lines = write_back-refl _;
  durable = λ p h. absurd (false≢true h);
  runs = runs-refl _;
}

pub returns-in_err-persist_line-clause-lines : goal.returns-in_err-persist_line-clause-lines
returns-in_err-persist_line-clause-lines g c = write_back-trans _ _ _ c.loop-change.invariant.lines c.in_err-persist_line.ensures.lines

pub loop-change-preserved : goal.loop-change-preserved
loop-change-preserved g c =
    let changes = c.args.changes.now in
    let i = c.loop-change.change-index in
    let old = (g.L.Lines.state c.args.dev.now).medium in
    let now = (g.L.Lines.state c.loop-change.dev).medium in
    let at = get_or changes i (0, 0) in
    let strong = (c.requires.good_line at.0 (lists-at changes i (0, 0) c.loop-change-test.true)).strong in
    record {
      lines = write_back-one_more old now _ (at.0 / 8) c.loop-change.invariant.lines strong c.in_ok-persist_line.ensures.lines;
      durable = λ p h.
          is_only-one_more old now _ (at.0 / 8) p c.loop-change.invariant.lines strong c.in_ok-persist_line.ensures.lines
          (elim (lists-more (take i changes) at p (subst (λ cs. IsTrue (lists cs p)) (take_more changes i (0, 0) c.loop-change-test.true) h)) as (λ _. IsOnly (last_image old p) (now.history p) ⊎ (p / 8 ≡ at.0 / 8)) [
            | inl before ↦ inl (c.loop-change.invariant.durable p before)
            | inr is ↦ inr (ap (λ q. q / 8) is)
          ]);
      runs = runs_then _ _ 1 1 _ _ _ _ c.loop-change.invariant.runs c.in_ok-persist_line.ensures.runs;
    }

pub returns-clause-ok : goal.returns-clause-ok
returns-clause-ok g c = λ p h. c.loop-change.invariant.durable p (subst (λ cs. IsTrue (lists cs p)) (sym (take_all c.loop-change.change-index c.args.changes.now c.loop-change-test.false)) h)
