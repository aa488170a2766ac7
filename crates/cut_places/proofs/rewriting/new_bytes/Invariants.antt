use Rattle.std.proofs.Common.{◌≡◌, ℕ, ◌+◌, ◌*◌, ◌<◌, get_or, length}
use Rattle.nvm_model.specs.Cell.{cell_byte}
use Rattle.file_actions.specs.Rewriting.{byte_laid}
use Rattle.cut_places.proofs.rewriting.new_bytes.Given as goal

abbrev pub invariant-loop-i : goal.invariant-loop-i
invariant-loop-i l = record {
  size : length l.new ≡ 64;
  each : (k : ℕ) → k < l.i → get_or l.new k 0 ≡ byte_laid l.ranges l.bytes (64 * l.n + k) (cell_byte l.line k);
}
