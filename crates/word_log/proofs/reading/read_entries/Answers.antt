use Rattle.std.proofs.Common.{◌≡◌, ℕ, ◌+◌, ◌*◌, [], ◌∷◌, ◌++◌, sym, ◌∙◌, ap, arith}
use Rattle.line_device.proofs.WriteBackLemmas.{write_back-refl, write_back-trans, newest-write_back}
use Rattle.line_device.proofs.PanelLemmas.{runs-refl, runs_then, runs_within}
use Rattle.line_device.specs.Medium.{last_image}
use Rattle.word_log.specs.Area.{entry_place}
use Rattle.word_log.specs.Replay.{entries}
use Rattle.word_log.proofs.EntryLemmas.{entries-push}
use Rattle.word_log.proofs.AnswerLemmas.{pair_same}
use Rattle.word_log.proofs.reading.read_entries.Goals as goal

pub loop-k-init : goal.loop-k-init
loop-k-init g c = record { entries = c.new-changes.ensures; lines = write_back-refl _; runs = runs-refl _ }

pub returns-in_err-entry-clause-lines : goal.returns-in_err-entry-clause-lines
returns-in_err-entry-clause-lines g c = write_back-trans _ _ _ c.loop-k.invariant.lines c.in_err-entry.ensures.lines

pub returns-in_err-push-clause-lines : goal.returns-in_err-push-clause-lines
returns-in_err-push-clause-lines g c = write_back-trans _ _ _ c.loop-k.invariant.lines c.in_ok-entry.ensures.lines

pub loop-k-preserved : goal.loop-k-preserved
loop-k-preserved g c =
    let k = c.loop-k.k in
    let at = entry_place c.args.area 0 in
    let old : ℕ → ℕ = last_image (g.L.Lines.state c.args.dev.now).medium in
    let words = newest-write_back _ _ c.loop-k.invariant.lines in
    let is : entry_place c.args.area k ≡ at + 2 * k = omega arith in
    record {
      entries =
          c.in_ok-push.ensures.ok
          ∙ ap (λ es. es ++ c.in_ok-entry.entry ∷ []) c.loop-k.invariant.entries
          ∙ ap (λ e. entries old at k ++ e ∷ []) (c.in_ok-entry.ensures.entry ∙ pair_same _ _ _ _ (words (entry_place c.args.area k) ∙ ap old is) (words (entry_place c.args.area k + 1) ∙ ap (λ p. old (p + 1)) is))
          ∙ sym (entries-push old at k);
      lines = write_back-trans _ _ _ c.loop-k.invariant.lines c.in_ok-entry.ensures.lines;
      runs = runs_within _ _ _ _ _ _ _ (runs_then _ _ 2 0 _ _ _ _ c.loop-k.invariant.runs c.in_ok-entry.ensures.runs) (omega arith) (omega arith);
    }
