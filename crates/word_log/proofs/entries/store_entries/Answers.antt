use Rattle.std.proofs.Common.{refl, arith}
use Rattle.line_device.proofs.PanelLemmas.{runs-refl, runs_then, runs_within}
use Rattle.line_words.proofs.FrameLemmas.{outside-refl, outside-trans, outside-wider}
use Rattle.word_log.proofs.StepLemmas.{entries-more}
use Rattle.word_log.proofs.entries.store_entries.Goals as goal

pub loop-k-init : goal.loop-k-init
loop-k-init g c = record { outside = outside-refl _ _; words = refl; runs = runs-refl _ }

pub returns-in_err-store_entry-clause-outside : goal.returns-in_err-store_entry-clause-outside
returns-in_err-store_entry-clause-outside g c =
    outside-trans _ _ _ _ c.loop-k.invariant.outside (outside-wider _ _ _ _ (λ p within. (omega (arith, within), omega (arith, within))) c.in_err-store_entry.ensures.outside)

pub loop-k-preserved : goal.loop-k-preserved
loop-k-preserved g c = record {
  outside = outside-trans _ _ _ _ c.loop-k.invariant.outside (outside-wider _ _ _ _ (λ p within. (omega (arith, within), omega (arith, within))) c.in_ok-store_entry.ensures.outside);
  words = entries-more c.args.area c.args.changes.now c.loop-k.k _ _ _ c.loop-k-test.true c.loop-k.invariant.words c.in_ok-store_entry.ensures.outside c.in_ok-store_entry.ensures.place c.in_ok-store_entry.ensures.value;
  runs = runs_within _ _ _ _ _ _ _ (runs_then _ _ 2 0 _ _ _ _ c.loop-k.invariant.runs c.in_ok-store_entry.ensures.runs) (omega arith) (omega arith);
}
