-- A mapping that is put under the next handle is listed last.
use Rattle.std.proofs.Common.{◌≡◌, OnOk, nat_eq, subst}
use Rattle.indexmap.specs.IndexMap.{insert_entry}
use Rattle.mappings.proofs.ListedLemmas.{inserted-next}
use Rattle.mappings.proofs.making.put.Goals as goal

pub returns : goal.returns
returns c =
    inserted-next c.args.maps.now c.insert.new.self.entries c.args.handle c.args.mapping c.requires.rise
    (subst (λ r. OnOk r (c.insert.new.self.entries ≡ insert_entry nat_eq c.args.maps.now.entries c.args.handle c.args.mapping)) c.unwrap.ensures c.insert.ensures.entries)
