-- Those that are kept are in reach, as all mappings are.
use Rattle.std.proofs.Common.{◌∙◌, sym}
use Rattle.mappings.proofs.KeptLemmas.{kept-reach}
use Rattle.mappings.proofs.ListedLemmas.{is_shown-listed}
use Rattle.mappings.proofs.Mappings.touches.Goals as goal

pub is_any_shown-requires : goal.is_any_shown-requires
is_any_shown-requires c = kept-reach c.self.inside.maps.entries c.self.invariant.each

pub returns : goal.returns
returns c = rw (← c.self.view_is) (c.is_any_shown.ensures ∙ sym (is_shown-listed c.args.name.now c.args.span c.self.inside.maps.entries))
