use Rattle.std.proofs.Common.{◌+◌, ◌≡◌, Err, inl, inr, refl, sym, ap, subst, ◌∙◌, arith}
use Rattle.std.proofs.lemmas.Result.{err_from_is_err_and}
use Rattle.line_device.specs.Panel.{Runs}
use Rattle.line_device.proofs.PanelLemmas.{runs-refl, runs_then, runs_within}
use Rattle.line_words.specs.Ending.{ended}
use Rattle.nvm_model.specs.Cell.{persist_cell}
use Rattle.nvm_model.specs.Interrupted.{MayPersist}
use Rattle.page_lines.specs.Placed.{one_there, there_in}
use Rattle.page_lines.proofs.LoopLemmas.{Reached, reached-none, reached-next, reached-interrupted, others-next, turns-touched, turns-untouched, may_persist-left}
use Rattle.page_lines.proofs.SpanLemmas.{on_err, touches-among, all_turned, others_placed, there_among-next, there_in-next}
use Rattle.page_lines.proofs.StretchLemmas.{apart_along, others_along}
use Rattle.page_lines.proofs.persisting.persist_lines.Goals as goal

pub loop-k-init : goal.loop-k-init
loop-k-init g c = record { along = c.stretch-stretch.ensures.lines; reached = reached-none _ _ _ _; runs = runs-refl _ }

pub returns-in_err-persist_at-clause-err : goal.returns-in_err-persist_at-clause-err
returns-in_err-persist_at-clause-err g c =
    let span = c.args.span in
    let t = c.lines_of-touched.result in
    on_err c.from_residual.result
    (reached-interrupted (g.P.Places.place c.args.places.now) (persist_cell span.start span.len) (MayPersist span.start span.len) t.start (t.start + c.loop-k.k) _ _ _ _ c.requires.apart c.loop-k.invariant.reached
    (λ line at. may_persist-left span.start span.len (t.start + c.loop-k.k) line _ _ c.in_err-persist_at.ensures.err) (others_along _ _ _ _ c.reaching-stretch.ensures.line c.in_err-persist_at.ensures.outside)
    (λ n cell. inl refl) (λ n cell. inr refl))

pub returns-in_err-persist_at-clause-outside : goal.returns-in_err-persist_at-clause-outside
returns-in_err-persist_at-clause-outside g c =
    let t = c.lines_of-touched.result in
    let place = g.P.Places.place c.args.places.now in
    let limit = t.start + c.loop-k.k in
    others_placed place c.args.span t (limit + 1) _ _ c.lines_of-touched.ensures.value c.requires.some (omega arith)
    (others-next place t.start limit _ _ _ (omega arith) c.loop-k.invariant.reached.others (others_along _ _ _ _ c.reaching-stretch.ensures.line c.in_err-persist_at.ensures.outside))

pub loop-k-preserved : goal.loop-k-preserved
loop-k-preserved g c =
    let span = c.args.span in
    let t = c.lines_of-touched.result in
    let k = c.loop-k.k in
    let place = g.P.Places.place c.args.places.now in
    let touched = touches-among span t (t.start + k) c.lines_of-touched.ensures.value c.requires.some (omega arith) (omega arith) in
    let more = there_among-next place t.start k in
    let there = ap one_there c.reaching-stretch.ensures.line in
    let next : t.start + k + 1 ≡ t.start + (k + 1) = omega arith in
    record {
      along = c.reaching-stretch.ensures.lines;
      reached =
          subst (λ limit. Reached place (persist_cell span.start span.len) t.start limit (g.L.Lines.state c.args.dev.now).medium (g.L.Lines.state c.persist_at.new.dev).medium) next
          (reached-next place (persist_cell span.start span.len) t.start (t.start + k) _ _ _ _ c.requires.apart (omega arith) c.loop-k.invariant.reached
          (λ line at. turns-touched span.start span.len (t.start + k) line _ _ touched (c.in_ok-persist_at.ensures.ok line (c.reaching-stretch.ensures.line ∙ at))) (others_along _ _ _ _ c.reaching-stretch.ensures.line c.in_ok-persist_at.ensures.outside));
      runs = runs_within _ _ _ _ _ _ _ (runs_then _ _ _ _ _ _ _ _ c.loop-k.invariant.runs c.in_ok-persist_at.ensures.runs) (omega (arith, more, there)) (omega (arith, more, there));
    }

pub returns-clause-ok : goal.returns-clause-ok
returns-clause-ok g c =
    let span = c.args.span in
    let t = c.lines_of-touched.result in
    all_turned (g.P.Places.place c.args.places.now) (persist_cell span.start span.len) span t (t.start + c.loop-k.k) _ _ _ c.lines_of-touched.ensures.value c.requires.some (omega arith) c.requires.apart c.loop-k.invariant.reached
    (λ n line m not. turns-untouched span.start span.len n line m not)

pub returns-clause-outside : goal.returns-clause-outside
returns-clause-outside g c =
    let t = c.lines_of-touched.result in
    others_placed (g.P.Places.place c.args.places.now) c.args.span t (t.start + c.loop-k.k) _ _ c.lines_of-touched.ensures.value c.requires.some (omega arith) c.loop-k.invariant.reached.others

pub returns-in_err-persist_at-clause-runs : goal.returns-in_err-persist_at-clause-runs
returns-in_err-persist_at-clause-runs g c =
    let span = c.args.span in
    let t = c.lines_of-touched.result in
    let k = c.loop-k.k in
    let place = g.P.Places.place c.args.places.now in
    let there = ap one_there c.reaching-stretch.ensures.line in
    let most = there_in-next place span t k c.lines_of-touched.ensures.value (omega arith) in
    let failed = err_from_is_err_and c.from_residual.result c.from_residual.ensures.1 in
    let same : ended {T = Unit {0}} (Err c.in_err-persist_at.field-0.0) ≡ ended c.from_residual.result = sym (ap ended (failed.1 ∙ ap (λ e. Err e) failed.2)) in
    subst (λ end. Runs (there_in place span) (there_in place span) end (g.L.Lines.state c.args.dev.now).panel (g.L.Lines.state c.persist_at.new.dev).panel) same
    (runs_within _ _ _ _ _ _ _ (runs_then _ _ _ _ _ _ _ _ c.loop-k.invariant.runs c.in_err-persist_at.ensures.runs) (omega (arith, most, there)) (omega (arith, most, there)))

pub persist_at-requires-clause-apart : goal.persist_at-requires-clause-apart
persist_at-requires-clause-apart g c =
    apart_along (g.P.Places.place c.args.places.now) c.reaching-stretch.result c.reaching-stretch.ensures.lines _ _ c.loop-k.invariant.reached.others.count c.requires.apart
