use Rattle.std.proofs.Common.{◌≡◌, ◌<◌, ◌==◌, ◌&&◌, ℕ, false, length}
use Rattle.line_device.specs.Word.{reaches}
use Rattle.line_module.specs.Chains.{values_in}
use Rattle.line_module.proofs.chain.Chain.is_full.Given as goal

abbrev pub invariant-loop-w : goal.invariant-loop-w
invariant-loop-w l = (v : ℕ) → v < l.w → (reaches l.at l.len v && (length (values_in l.self v) == 15)) ≡ false
