use Rattle.std.proofs.Common.{◌≡◌, ◌<◌, ◌≤◌, ◌+◌, ◌*◌, ℕ}
use Rattle.line_device.specs.Medium.{word_stored}
use Rattle.line_histories.specs.Log.{history, history_in}
use Rattle.line_histories.proofs.log.log_line.Given as goal

abbrev pub invariant-loop-w : goal.invariant-loop-w
invariant-loop-w l = record {
  done : (k : ℕ) → k < l.w → history l.durable l.log.items k ≡ word_stored l.at l.bytes (8 * l.n + k) (history l.durable l.initial.log.items k);
  rest : (k : ℕ) → l.w ≤ k → history_in l.log.items k ≡ history_in l.initial.log.items k;
}
