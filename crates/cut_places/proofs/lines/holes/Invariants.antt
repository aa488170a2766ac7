use Rattle.std.proofs.Common.{◌≡◌, map, take}
use Rattle.cut_places.specs.FilesState.{hole_at}
use Rattle.cut_places.proofs.lines.holes.Given as goal

abbrev pub invariant-loop-number : goal.invariant-loop-number
invariant-loop-number l = l.lines.items ≡ map hole_at (take l.number-index l.numbers)
