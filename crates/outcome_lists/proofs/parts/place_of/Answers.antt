use Rattle.std.proofs.Common.{length, not, ap, ◌∙◌}
use Rattle.std.specs.Option.{unwrap_or}
use Rattle.outcome_lists.specs.Parts.{comes_before}
use Rattle.file_journal.proofs.ListingLemmas.{position-or_len}
use Rattle.outcome_lists.proofs.parts.place_of.Goals as goal

pub returns : goal.returns
returns c =
    c.unwrap_or.ensures ∙ ap (λ o. unwrap_or o (length c.args.parts.now)) c.first_behind.ensures
    ∙ position-or_len (λ other. not (comes_before other c.args.part.now)) c.args.parts.now
