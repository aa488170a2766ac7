use Rattle.std.proofs.Common.{option_map, sym, ap, ◌∙◌}
use Rattle.std.specs.Option.{option_copied}
use Rattle.nvm_model.specs.Listing.{file_of, put_some, without_file}
use Rattle.cut_places.specs.FilesState.{name_seen, with_name}
use Rattle.cut_places.proofs.ListLemmas.{without_missing}
use Rattle.cut_places.proofs.listing.rename.Goals as goal

pub returns-in-None : goal.returns-in-None
returns-in-None c =
    let files = c.args.files.now.items in
    let none = sym (ap option_copied c.in-None.is) ∙ c.find.ensures ∙ ap (file_of name_seen c.args.name.now) c.deref.ensures.value in
    without_missing c.args.name.now files none
    ∙ ap (λ o. put_some name_seen (option_map (with_name c.args.to) o) (without_file name_seen c.args.name.now files)) none
