use Rattle.std.proofs.Common.{◌≡◌, ◌<◌, ℕ, []}
use Rattle.line_module.specs.Chains.{values_in}
use Rattle.line_module.proofs.chain.Chain.clear.Given as goal

abbrev pub invariant-loop-w : goal.invariant-loop-w
invariant-loop-w l = (v : ℕ) → v < l.w → values_in l.self v ≡ []
