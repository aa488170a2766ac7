-- A file has a mapping where one of those that are kept is of it.
use Rattle.std.proofs.Common.{◌∙◌, sym}
use Rattle.mappings.proofs.ListedLemmas.{is_mapped-listed}
use Rattle.mappings.proofs.Mappings.has.Goals as goal

pub returns : goal.returns
returns c = rw (← c.self.view_is) (c.is_any_of.ensures ∙ sym (is_mapped-listed c.args.name.now c.self.inside.maps.entries))
