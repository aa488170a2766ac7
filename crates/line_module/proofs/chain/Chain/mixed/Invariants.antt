use Rattle.std.proofs.Common.{◌≡◌, ◌+◌, ◌*◌, ◌<◌, ◌∷◌, ℕ, get_or, length}
use Rattle.std.specs.Int.{byte_at}
use Rattle.line_module.specs.Chains.{values_in}
use Rattle.line_module.specs.Survivors.{drawn_value}
use Rattle.line_module.proofs.chain.Chain.mixed.Given as goal

abbrev pub invariant-loop-b : goal.invariant-loop-b
invariant-loop-b l = record {
  long : length l.bytes ≡ 8;
  drawn : (k : ℕ) → k < l.b → get_or l.bytes k 0 ≡ byte_at k (drawn_value l.seed (8 * l.place + k) (l.first ∷ values_in l.self l.w));
}
