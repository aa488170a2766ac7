use Rattle.std.proofs.Common.{◌≡◌, map, take}
use Rattle.std.specs.Option.{option_map}
use Rattle.outcome_lists.specs.declared.place.Place.{Place}
use Rattle.outcome_lists.specs.Mixing.{link}
use Rattle.outcome_lists.proofs.levels.links.Given as goal

abbrev pub invariant-loop-place : goal.invariant-loop-place
invariant-loop-place l = l.found.items ≡ map (λ (place : Place). link place.ways (option_map (λ read. read.now) l.before) l.part) (take l.place-index l.places)
