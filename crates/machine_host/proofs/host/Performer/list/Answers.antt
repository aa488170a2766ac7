use Rattle.std.proofs.Common.{ap, ◌∙◌}
use Rattle.file_journal.specs.Listing.{listed}
use Rattle.machine_host.proofs.ListingLemmas.{list_answered}
use Rattle.machine_host.proofs.InsideLemmas.{left_of}
use Rattle.machine_host.proofs.host.Performer.list.Goals as goal

pub returns : goal.returns
returns g c =
    let host = left_of c.self.view_is in
    list_answered c.args.self.now host _ _ c.self.view_is c.requires.on c.requires.serves (c.in_ok-files.ensures.ok ∙ ap (λ j. listed j.tables) c.journal.ensures)
