use Rattle.std.proofs.Common.{◌≡◌, ℕ, []}
use Rattle.std.specs.List.{slice_get}
use Rattle.std.specs.Vec.{vec_len}
use Rattle.line_module.specs.Chains.{items_in}
use Rattle.line_module.proofs.chain.Chain.new.Given as goal

abbrev pub invariant-loop : goal.invariant-loop
invariant-loop l = (vec_len l.words ≡ l.counter) × ((w : ℕ) → items_in (slice_get l.words.items w) ≡ [])
