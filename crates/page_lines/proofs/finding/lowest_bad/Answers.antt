use Rattle.std.proofs.Common.{◌&&◌, ◌+◌, ℕ, Bool, below_more, refl, sym, ap, ◌∙◌, arith}
use Rattle.page_lines.specs.Sought.{is_bad_at, is_sought}
use Rattle.page_lines.proofs.FindLemmas.{lowest_here, lowest_none}
use Rattle.page_lines.proofs.StretchLemmas.{apart_along}
use Rattle.page_lines.proofs.finding.lowest_bad.Goals as goal

pub returns-then-is_hit : goal.returns-then-is_hit
returns-then-is_hit g c =
    let m = (g.L.Lines.state c.args.dev.now).medium in
    let passes : ℕ → Bool = λ n. is_sought c.args.which c.args.span n && is_bad_at m (g.P.Places.place c.args.places.now n) in
    lowest_here passes c.args.span c.lines_of-touched.result c.loop-k.k c.lines_of-touched.ensures.value c.loop-k-test.true c.loop-k.invariant.none
    (ap (λ at. is_sought c.args.which c.args.span (c.lines_of-touched.result.start + c.loop-k.k) && is_bad_at m at) (sym c.reaching-stretch.ensures.line) ∙ sym c.is_hit.ensures ∙ c.if-is_hit.true)

pub returns : goal.returns
returns g c =
    let m = (g.L.Lines.state c.args.dev.now).medium in
    let passes : ℕ → Bool = λ n. is_sought c.args.which c.args.span n && is_bad_at m (g.P.Places.place c.args.places.now n) in
    lowest_none passes c.args.span c.lines_of-touched.result c.lines_of-touched.ensures.value (λ i below. c.loop-k.invariant.none i (omega (arith, below)))

pub is_hit-requires-clause-apart : goal.is_hit-requires-clause-apart
is_hit-requires-clause-apart g c =
    apart_along (g.P.Places.place c.args.places.now) c.reaching-stretch.result c.reaching-stretch.ensures.lines _ _ refl c.requires.apart

pub loop-k-preserved : goal.loop-k-preserved
loop-k-preserved g c =
    let m = (g.L.Lines.state c.args.dev.now).medium in
    let n = c.lines_of-touched.result.start + c.loop-k.k in
    record {
      along = c.reaching-stretch.ensures.lines;
      none =
          below_more _ _ c.loop-k.invariant.none
          (ap (λ at. is_sought c.args.which c.args.span n && is_bad_at m at) (sym c.reaching-stretch.ensures.line) ∙ sym c.is_hit.ensures ∙ c.if-is_hit.false);
    }
