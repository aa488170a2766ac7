use Rattle.std.proofs.Common.{◌≡◌, ◌+◌, ◌-◌, ◌/◌, ℕ, Err, Some, length, length-take, length-drop, take, drop, refl, sym, ap, subst, ◌∙◌, arith}
use Rattle.std.proofs.lemmas.Result.{err_from_is_err_and}
use Rattle.nvm_base.specs.declared.units.Span.{Span}
use Rattle.line_device.specs.Panel.{Runs}
use Rattle.line_device.proofs.PanelLemmas.{runs-refl, runs_then, runs_within}
use Rattle.line_device.proofs.WriteBackLemmas.{write_back-refl, write_back-trans}
use Rattle.line_words.specs.Ending.{ended}
use Rattle.nvm_model.specs.Numbered.{AreMixed, list_from}
use Rattle.nvm_model.proofs.MixedLemmas.{mixed-filled}
use Rattle.page_lines.specs.Placed.{one_there, there_in}
use Rattle.page_lines.specs.Shown.{before_line, placed_byte}
use Rattle.page_lines.specs.Stretches.{stretch_place}
use Rattle.page_lines.proofs.LoadLemmas.{placed-same, placed-write_back}
use Rattle.page_lines.proofs.BufferLemmas.{filled_none, filled_more, put_back}
use Rattle.page_lines.proofs.SpanLemmas.{on_err, touches-among, there_among-next, there_in-next}
use Rattle.page_lines.proofs.StretchLemmas.{apart_along, placed_along}
use Rattle.page_lines.proofs.loading.load_lines.Goals as goal

pub loop-k-init : goal.loop-k-init
loop-k-init g c =
    let first : c.lines_of-touched.result.start ≡ c.args.offset / 64 = ap (λ s. s.start) c.lines_of-touched.ensures.value in
    record {
      along = c.stretch-stretch.ensures.lines;
      bytes = filled_none (placed_byte (g.P.Places.place c.args.places.now) (g.L.Lines.state c.args.dev.now).medium) _ _ c.args.out.now (omega (arith, first));
      lines = write_back-refl _;
      runs = runs-refl _;
    }

pub load_at-requires-clause-good : goal.load_at-requires-clause-good
load_at-requires-clause-good g c = λ line at.
    let span : Span = record { start = c.args.offset; len = length c.args.out.now } in
    let t = c.lines_of-touched.result in
    let n = t.start + c.loop-k.k in
    let first : t.start ≡ c.args.offset / 64 = ap (λ s. s.start) c.lines_of-touched.ensures.value in
    let count = ap (λ s. s.len) c.lines_of-touched.ensures.value in
    let start = ap (λ s. s.start) c.part_in-part.ensures in
    let is : c.part_in-part.result.start / 64 ≡ n = omega (arith, first, count, start) in
    c.loop-k.invariant.lines.bad line
    ∙ c.requires.good n line (touches-among span t n c.lines_of-touched.ensures.value c.requires.some (omega arith) (omega arith))
    (placed_along (g.P.Places.place c.args.places.now) c.reaching-stretch.result c.reaching-stretch.ensures.lines n line (subst (λ i. stretch_place c.reaching-stretch.result i ≡ Some line) is at))

pub returns-in_err-load_at-clause-err : goal.returns-in_err-load_at-clause-err
returns-in_err-load_at-clause-err g c =
    let span : Span = record { start = c.args.offset; len = length c.args.out.now } in
    let t = c.lines_of-touched.result in
    let byte = placed_byte (g.P.Places.place c.args.places.now) (g.L.Lines.state c.args.dev.now).medium in
    let first : t.start ≡ span.start / 64 = ap (λ s. s.start) c.lines_of-touched.ensures.value in
    let count = ap (λ s. s.len) c.lines_of-touched.ensures.value in
    let same : c.load_at.new.out ≡ take (c.part_in-part.result.start - c.args.offset + c.part_in-part.result.len - (c.part_in-part.result.start - c.args.offset)) (drop (c.part_in-part.result.start - c.args.offset) c.loop-k.out) = c.in_err-load_at.ensures.err in
    on_err c.from_residual.result
    (subst (AreMixed ℕ c.args.out.now (list_from byte c.args.offset (length c.args.out.now))) (sym (put_back _ _ c.loop-k.out c.load_at.new.out same))
    (mixed-filled byte c.args.offset (before_line span (t.start + c.loop-k.k)) (length c.args.out.now) c.args.out.now c.loop-k.out (omega (arith, first, count)) refl c.loop-k.invariant.bytes))

pub returns-in_err-load_at-clause-lines : goal.returns-in_err-load_at-clause-lines
returns-in_err-load_at-clause-lines g c = write_back-trans _ _ _ c.loop-k.invariant.lines c.in_err-load_at.ensures.lines

pub loop-k-preserved : goal.loop-k-preserved
loop-k-preserved g c =
    let span : Span = record { start = c.args.offset; len = length c.args.out.now } in
    let t = c.lines_of-touched.result in
    let part = c.part_in-part.result in
    let k = c.loop-k.k in
    let place = g.P.Places.place c.args.places.now in
    let old = (g.L.Lines.state c.args.dev.now).medium in
    let now = (g.L.Lines.state c.loop-k.dev).medium in
    let first : t.start ≡ span.start / 64 = ap (λ s. s.start) c.lines_of-touched.ensures.value in
    let count = ap (λ s. s.len) c.lines_of-touched.ensures.value in
    let start = ap (λ s. s.start) c.part_in-part.ensures in
    let len = ap (λ s. s.len) c.part_in-part.ensures in
    let is : part.start / 64 ≡ t.start + k = omega (arith, first, count, start) in
    let there = ap (λ i. one_there (stretch_place c.reaching-stretch.result i)) is ∙ ap one_there c.reaching-stretch.ensures.line in
    let more = there_among-next place t.start k in
    let size : length (take (part.start - c.args.offset + part.len - (part.start - c.args.offset)) (drop (part.start - c.args.offset) c.loop-k.out)) ≡ part.len =
    omega (arith, length-take {A = ℕ}, length-drop {A = ℕ}, c.loop-k.auto.out, first, count, start, len) in
    let loaded = c.in_ok-load_at.ensures.ok ∙ placed-same (stretch_place c.reaching-stretch.result) place now (t.start + k) part.start _ c.reaching-stretch.ensures.line is (omega (arith, size, first, count, start, len)) ∙ placed-write_back place old now part.start _ c.loop-k.invariant.lines in
    record {
      along = c.reaching-stretch.ensures.lines;
      bytes =
          filled_more (placed_byte place old) c.args.offset (before_line span (t.start + k)) (part.start - c.args.offset) part.start _ _ _ c.args.out.now c.loop-k.out c.load_at.new.out
          c.loop-k.invariant.bytes loaded (omega (arith, first, count, start)) (omega (arith, first, count, start))
          (omega (arith, size)) (omega (arith, first, count, start, len, size));
      lines = write_back-trans _ _ _ c.loop-k.invariant.lines c.in_ok-load_at.ensures.lines;
      runs = runs_within _ _ _ _ _ _ _ (runs_then _ _ _ _ _ _ _ _ c.loop-k.invariant.runs c.in_ok-load_at.ensures.runs) (omega (arith, more, there)) (omega arith);
    }

pub returns-in_err-load_at-clause-runs : goal.returns-in_err-load_at-clause-runs
returns-in_err-load_at-clause-runs g c =
    let span : Span = record { start = c.args.offset; len = length c.args.out.now } in
    let t = c.lines_of-touched.result in
    let k = c.loop-k.k in
    let place = g.P.Places.place c.args.places.now in
    let first : t.start ≡ span.start / 64 = ap (λ s. s.start) c.lines_of-touched.ensures.value in
    let count = ap (λ s. s.len) c.lines_of-touched.ensures.value in
    let start = ap (λ s. s.start) c.part_in-part.ensures in
    let is : c.part_in-part.result.start / 64 ≡ t.start + k = omega (arith, first, count, start) in
    let there = ap (λ i. one_there (stretch_place c.reaching-stretch.result i)) is ∙ ap one_there c.reaching-stretch.ensures.line in
    let most = there_in-next place span t k c.lines_of-touched.ensures.value (omega arith) in
    let failed = err_from_is_err_and c.from_residual.result c.from_residual.ensures.1 in
    let same : ended {T = Unit {0}} (Err c.in_err-load_at.field-0.0) ≡ ended c.from_residual.result = sym (ap ended (failed.1 ∙ ap (λ e. Err e) failed.2)) in
    subst (λ end. Runs (there_in place span) 0 end (g.L.Lines.state c.args.dev.now).panel (g.L.Lines.state c.load_at.new.dev).panel) same
    (runs_within _ _ _ _ _ _ _ (runs_then _ _ _ _ _ _ _ _ c.loop-k.invariant.runs c.in_err-load_at.ensures.runs) (omega (arith, most, there)) (omega arith))

pub load_at-requires-clause-apart : goal.load_at-requires-clause-apart
load_at-requires-clause-apart g c =
    apart_along (g.P.Places.place c.args.places.now) c.reaching-stretch.result c.reaching-stretch.ensures.lines _ _ c.loop-k.invariant.lines.count c.requires.apart
