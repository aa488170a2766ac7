use Rattle.std.proofs.Common.{◌≡◌, ◌==◌, map, take}
use Rattle.pm_volume.proofs.mounting.are_set.Given as goal

abbrev pub invariant-loop-word : goal.invariant-loop-word
invariant-loop-word l = l.set.items ≡ map (λ w. w == 1) (take l.word-index l.words)
