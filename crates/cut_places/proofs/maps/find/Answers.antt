use Rattle.std.proofs.Common.{map, sym, ap, ◌∙◌}
use Rattle.std.proofs.lemmas.List.{drop_all}
use Rattle.nvm_model.specs.Mappings.{mapping_of}
use Rattle.cut_places.specs.Maps.{mapping_held}
use Rattle.cut_places.proofs.ListLemmas.{found_here, found_later}
use Rattle.cut_places.proofs.maps.find.Goals as goal

pub returns-then-map-handle : goal.returns-then-map-handle
returns-then-map-handle c =
    found_here c.args.maps.now c.loop-map.map-index c.args.handle c.map-item.result c.map-item.result c.loop-map-test.true c.map-item.is c.if-map-handle.true ∙ c.loop-map.invariant

pub loop-map-preserved : goal.loop-map-preserved
loop-map-preserved c =
    sym (found_later c.args.maps.now c.loop-map.map-index c.args.handle c.map-item.result c.map-item.result c.loop-map-test.true c.map-item.is c.if-map-handle.false) ∙ c.loop-map.invariant

pub returns : goal.returns
returns c =
    sym (ap (λ ms. mapping_of c.args.handle (map mapping_held ms)) (drop_all c.loop-map.map-index c.args.maps.now c.loop-map-test.false)) ∙ c.loop-map.invariant
