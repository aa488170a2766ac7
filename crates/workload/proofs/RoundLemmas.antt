-- What a round does, by its draws.
use Rattle.std.proofs.Common.{◌≡◌, ℕ, ◌%◌, [], get_or, ap}
use Rattle.workload.specs.Lines.{kind, kinds}

pub kind-is : (k a b n : ℕ) → k % 10 ≡ n → kind k a b ≡ get_or (kinds a b) n []
unfolding kind
kind-is k a b n e = ap (λ i. get_or (kinds a b) i []) e
