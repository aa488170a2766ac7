use Rattle.std.proofs.Common.{◌≡◌, ◌+◌, Err, sym, ap, subst, ◌∙◌, arith}
use Rattle.std.proofs.lemmas.Result.{err_from_is_err_and}
use Rattle.line_device.specs.Panel.{Runs}
use Rattle.line_device.proofs.PanelLemmas.{runs-refl, runs_then, runs_within}
use Rattle.line_words.specs.Ending.{ended}
use Rattle.page_lines.specs.Placed.{IsPlacedAmong, one_there, there_among}
use Rattle.page_lines.specs.Turns.{WritesBackOthers}
use Rattle.page_lines.proofs.OthersLemmas.{others-refl, others-wider}
use Rattle.page_lines.proofs.LoopLemmas.{IsReached, others-next}
use Rattle.page_lines.proofs.SpanLemmas.{on_err, there_among-next, there_among-within}
use Rattle.page_lines.proofs.ClearLemmas.{AreZeros, may_clear-stopped, zeros-next}
use Rattle.page_lines.proofs.StretchLemmas.{apart_along, others_along}
use Rattle.page_lines.proofs.clearing.clear_lines.Goals as goal

pub loop-k-init : goal.loop-k-init
loop-k-init g c = record { along = c.stretch-stretch.ensures.lines; zeros = λ n line from below at. absurd (omega (arith, from, below)); good = λ _ h. h; others = others-refl _ _; runs = runs-refl _ }

pub returns-in_err-clear_at-clause-err : goal.returns-in_err-clear_at-clause-err
returns-in_err-clear_at-clause-err g c =
    let place = g.P.Places.place c.args.places.now in
    let first = c.args.first in
    on_err c.from_residual.result
    (may_clear-stopped place first (first + c.loop-k.k) (g.L.Lines.state c.args.dev.now).medium.count (g.L.Lines.state c.args.dev.now).medium (g.L.Lines.state c.loop-k.dev).medium (g.L.Lines.state c.clear_at.new.dev).medium
    c.requires.apart c.loop-k.invariant.zeros c.loop-k.invariant.others c.in_err-clear_at.ensures.err)

pub returns-in_err-clear_at-clause-good : goal.returns-in_err-clear_at-clause-good
returns-in_err-clear_at-clause-good g c line h = c.in_err-clear_at.ensures.good line (c.loop-k.invariant.good line h)

pub returns-in_err-clear_at-clause-outside : goal.returns-in_err-clear_at-clause-outside
returns-in_err-clear_at-clause-outside g c =
    let place = g.P.Places.place c.args.places.now in
    let first = c.args.first in
    let limit = first + c.loop-k.k in
    others-wider (IsReached place first (limit + 1)) (IsPlacedAmong place first c.args.count) _ _ (λ line r. (r.0, r.1, omega (arith, r.2), r.3))
    (others-next place first limit _ _ _ (omega arith) c.loop-k.invariant.others (others_along _ _ _ _ c.reaching-stretch.ensures.line c.in_err-clear_at.ensures.outside))

pub returns-in_err-clear_at-clause-runs : goal.returns-in_err-clear_at-clause-runs
returns-in_err-clear_at-clause-runs g c =
    let place = g.P.Places.place c.args.places.now in
    let first = c.args.first in
    let k = c.loop-k.k in
    let more = there_among-next place first k in
    let most = there_among-within place first (k + 1) c.args.count (omega arith) in
    let failed = err_from_is_err_and c.from_residual.result c.from_residual.ensures.1 in
    let same : ended {T = Unit {0}} (Err c.in_err-clear_at.field-0.0) ≡ ended c.from_residual.result = sym (ap ended (failed.1 ∙ ap (λ e. Err e) failed.2)) in
    subst (λ end. Runs (there_among place first c.args.count) 0 end (g.L.Lines.state c.args.dev.now).panel (g.L.Lines.state c.clear_at.new.dev).panel) same
    (runs_within _ _ _ _ _ _ _ (runs_then _ _ _ _ _ _ _ _ c.loop-k.invariant.runs c.in_err-clear_at.ensures.runs) (omega (arith, more, most, ap one_there c.reaching-stretch.ensures.line)) (omega arith))

pub loop-k-preserved : goal.loop-k-preserved
loop-k-preserved g c =
    let place = g.P.Places.place c.args.places.now in
    let first = c.args.first in
    let k = c.loop-k.k in
    let old = (g.L.Lines.state c.args.dev.now).medium in
    let now = (g.L.Lines.state c.loop-k.dev).medium in
    let new = (g.L.Lines.state c.clear_at.new.dev).medium in
    let more = there_among-next place first k in
    let next : first + k + 1 ≡ first + (k + 1) = omega arith in
    record {
      along = c.reaching-stretch.ensures.lines;
      zeros =
          subst (λ limit. AreZeros place first limit new) next
          (zeros-next place first (first + k) old.count now new c.requires.apart c.loop-k.invariant.zeros (λ line at. c.in_ok-clear_at.ensures.ok line (c.reaching-stretch.ensures.line ∙ at)) (others_along _ _ now new c.reaching-stretch.ensures.line c.in_ok-clear_at.ensures.outside));
      good = λ line h. c.in_ok-clear_at.ensures.good line (c.loop-k.invariant.good line h);
      others =
          subst (λ limit. WritesBackOthers (IsReached place first limit) old new) next
          (others-next place first (first + k) old now new (omega arith) c.loop-k.invariant.others (others_along _ _ now new c.reaching-stretch.ensures.line c.in_ok-clear_at.ensures.outside));
      runs = runs_within _ _ _ _ _ _ _ (runs_then _ _ _ _ _ _ _ _ c.loop-k.invariant.runs c.in_ok-clear_at.ensures.runs) (omega (arith, more, ap one_there c.reaching-stretch.ensures.line)) (omega arith);
    }

pub returns-clause-ok : goal.returns-clause-ok
returns-clause-ok g c n line from below at = c.loop-k.invariant.zeros n line from (omega (arith, below)) at

pub returns-clause-outside : goal.returns-clause-outside
returns-clause-outside g c =
    let place = g.P.Places.place c.args.places.now in
    let first = c.args.first in
    others-wider (IsReached place first (first + c.loop-k.k)) (IsPlacedAmong place first c.args.count) _ _ (λ line r. (r.0, r.1, omega (arith, r.2), r.3)) c.loop-k.invariant.others

pub clear_at-requires-clause-apart : goal.clear_at-requires-clause-apart
clear_at-requires-clause-apart g c =
    apart_along (g.P.Places.place c.args.places.now) c.reaching-stretch.result c.reaching-stretch.ensures.lines _ _ c.loop-k.invariant.others.count c.requires.apart
