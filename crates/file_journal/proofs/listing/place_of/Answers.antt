use Rattle.std.proofs.Common.{length, ap, ◌∙◌}
use Rattle.std.specs.Option.{unwrap_or}
use Rattle.nvm_base.specs.declared.files.FileEntry.{FileEntry}
use Rattle.nvm_model.specs.Listing.{is_before}
use Rattle.file_journal.proofs.ListingLemmas.{position-or_len}
use Rattle.file_journal.proofs.listing.place_of.Goals as goal

pub returns : goal.returns
returns c =
    c.unwrap_or.ensures ∙ ap (λ o. unwrap_or o (length c.args.files.now)) c.first_behind.ensures
    ∙ position-or_len (λ (file : FileEntry). is_before c.args.name.now file.name) c.args.files.now
