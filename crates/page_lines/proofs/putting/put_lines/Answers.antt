use Rattle.std.proofs.Common.{◌+◌, ◌*◌, ◌≡◌, Err, length, sym, ap, subst, ◌∙◌, arith}
use Rattle.std.proofs.lemmas.Result.{err_from_is_err_and}
use Rattle.nvm_base.specs.declared.units.Span.{Span}
use Rattle.line_device.specs.Panel.{Runs}
use Rattle.line_device.proofs.PanelLemmas.{runs-refl, runs_then, runs_within}
use Rattle.line_words.specs.Ending.{ended}
use Rattle.nvm_model.specs.Cell.{put_cell}
use Rattle.nvm_model.specs.Interrupted.{MayPut}
use Rattle.page_lines.specs.Placed.{one_there, there_in}
use Rattle.page_lines.proofs.LoopLemmas.{Reached, reached-none, reached-next, reached-interrupted, not_reached, others-next}
use Rattle.page_lines.proofs.SpanLemmas.{on_err, touches-among, all_turned, others_placed, there_among-next, there_in-next}
use Rattle.page_lines.proofs.PutLemmas.{turns-unput, may_put-left, may_put-done}
use Rattle.page_lines.proofs.StretchLemmas.{apart_along, others_along, placed_along}
use Rattle.page_lines.proofs.putting.put_lines.Goals as goal

pub loop-k-init : goal.loop-k-init
loop-k-init g c = record { along = c.stretch-stretch.ensures.lines; reached = reached-none _ _ _ _; runs = runs-refl _ }

pub returns-in_err-put_at-clause-err : goal.returns-in_err-put_at-clause-err
returns-in_err-put_at-clause-err g c =
    let bytes = c.args.bytes.now in
    let span : Span = record { start = c.args.offset; len = length bytes } in
    let t = c.lines_of-touched.result in
    on_err c.from_residual.result
    (reached-interrupted (g.P.Places.place c.args.places.now) (put_cell c.args.offset bytes) (MayPut c.args.offset bytes) t.start (t.start + c.loop-k.k) _ _ _ _ c.requires.apart c.loop-k.invariant.reached
    (λ line at. c.in_err-put_at.ensures.err line (c.reaching-stretch.ensures.line ∙ at)) (others_along _ _ _ _ c.reaching-stretch.ensures.line c.in_err-put_at.ensures.outside)
    (λ n cell. may_put-left c.args.offset n bytes cell) (λ n cell. may_put-done c.args.offset n bytes cell))

pub returns-in_err-put_at-clause-outside : goal.returns-in_err-put_at-clause-outside
returns-in_err-put_at-clause-outside g c =
    let t = c.lines_of-touched.result in
    let place = g.P.Places.place c.args.places.now in
    let limit = t.start + c.loop-k.k in
    others_placed place (record { start = c.args.offset; len = length c.args.bytes.now }) t (limit + 1) _ _ c.lines_of-touched.ensures.value c.requires.some (omega arith)
    (others-next place t.start limit _ _ _ (omega arith) c.loop-k.invariant.reached.others (others_along _ _ _ _ c.reaching-stretch.ensures.line c.in_err-put_at.ensures.outside))

pub loop-k-preserved : goal.loop-k-preserved
loop-k-preserved g c =
    let bytes = c.args.bytes.now in
    let span : Span = record { start = c.args.offset; len = length bytes } in
    let t = c.lines_of-touched.result in
    let k = c.loop-k.k in
    let place = g.P.Places.place c.args.places.now in
    let more = there_among-next place t.start k in
    let there = ap one_there c.reaching-stretch.ensures.line in
    let next : t.start + k + 1 ≡ t.start + (k + 1) = omega arith in
    record {
      along = c.reaching-stretch.ensures.lines;
      reached =
          subst (λ limit. Reached place (put_cell c.args.offset bytes) t.start limit (g.L.Lines.state c.args.dev.now).medium (g.L.Lines.state c.put_at.new.dev).medium) next
          (reached-next place (put_cell c.args.offset bytes) t.start (t.start + k) _ _ _ _ c.requires.apart (omega arith) c.loop-k.invariant.reached
          (λ line at. c.in_ok-put_at.ensures.ok line (c.reaching-stretch.ensures.line ∙ at)) (others_along _ _ _ _ c.reaching-stretch.ensures.line c.in_ok-put_at.ensures.outside));
      runs = runs_within _ _ _ _ _ _ _ (runs_then _ _ _ _ _ _ _ _ c.loop-k.invariant.runs c.in_ok-put_at.ensures.runs) (omega (arith, more, there)) (omega arith);
    }

pub returns-clause-ok : goal.returns-clause-ok
returns-clause-ok g c =
    let bytes = c.args.bytes.now in
    let span : Span = record { start = c.args.offset; len = length bytes } in
    let t = c.lines_of-touched.result in
    all_turned (g.P.Places.place c.args.places.now) (put_cell c.args.offset bytes) span t (t.start + c.loop-k.k) _ _ _ c.lines_of-touched.ensures.value c.requires.some (omega arith) c.requires.apart c.loop-k.invariant.reached
    (λ n line m not. turns-unput line n c.args.offset bytes m c.requires.some not)

pub returns-clause-outside : goal.returns-clause-outside
returns-clause-outside g c =
    let t = c.lines_of-touched.result in
    others_placed (g.P.Places.place c.args.places.now) (record { start = c.args.offset; len = length c.args.bytes.now }) t (t.start + c.loop-k.k) _ _ c.lines_of-touched.ensures.value c.requires.some (omega arith) c.loop-k.invariant.reached.others

pub returns-in_err-put_at-clause-runs : goal.returns-in_err-put_at-clause-runs
returns-in_err-put_at-clause-runs g c =
    let bytes = c.args.bytes.now in
    let span : Span = record { start = c.args.offset; len = length bytes } in
    let t = c.lines_of-touched.result in
    let k = c.loop-k.k in
    let place = g.P.Places.place c.args.places.now in
    let most = there_in-next place span t k c.lines_of-touched.ensures.value (omega arith) in
    let failed = err_from_is_err_and c.from_residual.result c.from_residual.ensures.1 in
    let same : ended {T = Unit {0}} (Err c.in_err-put_at.field-0.0) ≡ ended c.from_residual.result = sym (ap ended (failed.1 ∙ ap (λ e. Err e) failed.2)) in
    subst (λ end. Runs (2 * there_in place span) 0 end (g.L.Lines.state c.args.dev.now).panel (g.L.Lines.state c.put_at.new.dev).panel) same
    (runs_within _ _ _ _ _ _ _ (runs_then _ _ _ _ _ _ _ _ c.loop-k.invariant.runs c.in_err-put_at.ensures.runs) (omega (arith, most, ap one_there c.reaching-stretch.ensures.line)) (omega arith))

pub put_at-requires-clause-apart : goal.put_at-requires-clause-apart
put_at-requires-clause-apart g c =
    apart_along (g.P.Places.place c.args.places.now) c.reaching-stretch.result c.reaching-stretch.ensures.lines _ _ c.loop-k.invariant.reached.others.count c.requires.apart

pub put_at-requires-clause-poison : goal.put_at-requires-clause-poison
put_at-requires-clause-poison g c = λ line at bad.
    let span : Span = record { start = c.args.offset; len = length c.args.bytes.now } in
    let t = c.lines_of-touched.result in
    let n = t.start + c.loop-k.k in
    let place = g.P.Places.place c.args.places.now in
    let here = placed_along place c.reaching-stretch.result c.reaching-stretch.ensures.lines n line at in
    let others = c.loop-k.invariant.reached.others in
    c.requires.poison n line (touches-among span t n c.lines_of-touched.ensures.value c.requires.some (omega arith) (omega arith)) here
    (sym (others.bad line (not_reached place t.start n _ n line c.requires.apart here (λ _ less. omega (arith, less)))) ∙ bad)
