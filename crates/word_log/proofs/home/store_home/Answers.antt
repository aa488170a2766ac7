use Rattle.std.proofs.Common.{◌≡◌, IsTrue, get_or, refl, sym, subst}
use Rattle.line_device.proofs.PanelLemmas.{runs-refl, runs_then}
use Rattle.word_log.specs.Changes.{lists}
use Rattle.word_log.proofs.ChangeLemmas.{lists-at}
use Rattle.line_words.proofs.FrameLemmas.{outside-refl, outside-trans, outside-wider, outside-write_back, outside-stored}
use Rattle.word_log.proofs.StepLemmas.{changed-more}
use Rattle.word_log.proofs.home.store_home.Goals as goal

pub loop-change-init : goal.loop-change-init
loop-change-init g c = record { outside = outside-refl _ _; words = λ p. refl; runs = runs-refl _ }

pub returns-in_err-store_word-clause-outside : goal.returns-in_err-store_word-clause-outside
returns-in_err-store_word-clause-outside g c =
    outside-trans _ _ _ _ c.loop-change.invariant.outside (outside-write_back _ _ _ c.in_err-store_word.ensures.lines)

pub loop-change-preserved : goal.loop-change-preserved
loop-change-preserved g c =
    let changes = c.args.changes.now in
    let at = get_or changes c.loop-change.change-index (0, 0) in
    record {
      outside =
          outside-trans _ _ _ _ c.loop-change.invariant.outside
          (outside-wider (λ p. p ≡ at.0) _ _ _ (λ p is. subst (λ q. IsTrue (lists changes q)) (sym is) (lists-at changes c.loop-change.change-index (0, 0) c.loop-change-test.true))
          (outside-stored _ _ at.0 at.1 c.in_ok-store_word.ensures.lines));
      words = changed-more changes c.loop-change.change-index (0, 0) _ _ _ c.loop-change-test.true c.requires.distinct c.loop-change.invariant.words c.in_ok-store_word.ensures.lines;
      runs = runs_then _ _ 1 0 _ _ _ _ c.loop-change.invariant.runs c.in_ok-store_word.ensures.runs;
    }
