use Rattle.std.proofs.Common.{not, rules, tests}
use Rattle.std.proofs.lemmas.Fn.{filter_same}
use Rattle.nvm_model.specs.Listing.{is_named}
use Rattle.cut_places.specs.FilesState.{name_seen}
use Rattle.cut_places.proofs.listing.remove.Goals as goal

pub returns : goal.returns
returns c = filter_same _ (λ x. not (is_named name_seen c.args.name.now x)) _ (λ x b q k. search (rules, tests)) _ _ c.retain.ensures.filtered
