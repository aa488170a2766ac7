use Rattle.std.proofs.Common.{◌≡◌, ℕ, ◌<◌, false}
use Rattle.device_tests.proofs.logs.is_ready.Given as goal

abbrev pub invariant-loop-line : goal.invariant-loop-line
invariant-loop-line g l =
    let m = (g.L.Lines.state l.dev).medium in
    record {
      good : (n : ℕ) → n < l.line → m.is_bad n ≡ false;
      strong : (n : ℕ) → n < l.line → m.is_weak n ≡ false;
    }
