use Rattle.std.proofs.Common.{◌==◌, not, map, ap, ◌∙◌, rules, tests}
use Rattle.std.proofs.lemmas.Fn.{filter_same}
use Rattle.cut_places.specs.declared.map.MapSeen.{MapSeen}
use Rattle.cut_places.specs.Maps.{mapping_held}
use Rattle.cut_places.proofs.ListLemmas.{maps_left}
use Rattle.cut_places.proofs.maps.remove.Goals as goal

pub returns : goal.returns
returns c =
    ap (map mapping_held) (filter_same _ (λ (m : MapSeen). not (m.handle == c.args.handle)) _ (λ x b q k. search (rules, tests)) _ _ c.retain.ensures.filtered)
    ∙ maps_left c.args.handle c.args.maps.now.items
