use Rattle.std.proofs.Common.{◌≡◌, ◌&&◌, ◌+◌, ◌<◌, ℕ, false}
use Rattle.page_lines.specs.Sought.{is_bad_at, is_sought}
use Rattle.page_lines.specs.Stretches.{IsStretchOf}
use Rattle.page_lines.proofs.finding.lowest_bad.Given as goal

abbrev pub invariant-loop-k : goal.invariant-loop-k
invariant-loop-k g l =
    let m = (g.L.Lines.state l.dev).medium in
    let place = g.P.Places.place l.places in
    record {
      along : IsStretchOf place l.stretch;
      none : (i : ℕ) → i < l.k → (is_sought l.which l.span (l.touched.start + i) && is_bad_at m (place (l.touched.start + i))) ≡ false;
    }
