use Rattle.std.proofs.Common.{◌⊎◌, inl, inr, ◌∙◌}
use Rattle.pm_volume.proofs.HoldsLemmas.{length-holds}
use Rattle.pm_volume.proofs.RemountLemmas.{remounted-each}
use Rattle.pm_volume.proofs.ServesLemmas.{reads_rest}
use Rattle.pm_volume.proofs.WriteLemmas.{length-left}
use Rattle.append_log.specs.Log.{HoldsLog, LogStands}
use Rattle.append_log.proofs.LogLemmas.{stands-left}
use Rattle.append_log.proofs.laws.the_log_is_found_again.Goals as goal

pub returns-clause-stands : goal.returns-clause-stands
returns-clause-stands c = λ unit s m log serves has.
    reads_rest s.volume.geo m s.volume.present has.pages _ serves.valid serves.count serves.all (length-holds s.volume m has.pages has.holds ∙ serves.all) serves.rest has.holds.there has.holds.stand
    (λ left leaves. stands-left unit has.pages left log (length-left unit has.pages left leaves) leaves has.stands)

pub returns-clause-found : goal.returns-clause-found
returns-clause-found c = λ geo choice old back new image s one other valid count good each left shows outside sizes there.
    let found = remounted-each geo valid choice old back new image count good left shows outside (λ pages. LogStands pages one ⊎ LogStands pages other) each s.volume sizes there in
    elim found.1 as (λ _. HoldsLog s new one ⊎ HoldsLog s new other) [
      | inl stands ↦ inl (record { pages = found.0; holds = found.2; stands = stands })
      | inr stands ↦ inr (record { pages = found.0; holds = found.2; stands = stands })
    ]
