use Rattle.std.proofs.Common.{◌≡◌, drop, map}
use Rattle.nvm_model.specs.Mappings.{mapping_of}
use Rattle.cut_places.specs.Maps.{mapping_held}
use Rattle.cut_places.proofs.maps.find.Given as goal

abbrev pub invariant-loop-map : goal.invariant-loop-map
invariant-loop-map l = mapping_of l.handle (map mapping_held (drop l.map-index l.maps)) ≡ mapping_of l.handle (map mapping_held l.maps)
