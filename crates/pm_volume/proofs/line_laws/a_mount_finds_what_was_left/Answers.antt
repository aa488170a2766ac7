use Rattle.std.proofs.Common.{◌≡◌, List, subst}
use Rattle.nvm_model.specs.Page.{Page}
use Rattle.pm_volume.specs.Left.{MayLeave}
use Rattle.pm_volume.proofs.RemountLemmas.{remounted, start_was}
use Rattle.pm_volume.proofs.line_laws.a_mount_finds_what_was_left.Goals as goal

pub returns-clause-image : goal.returns-clause-image
returns-clause-image c = λ geo unit choice old back valid count good left. start_was geo valid unit choice old back count good left

pub returns-clause-pages : goal.returns-clause-pages
returns-clause-pages c = λ geo choice old back new image before s valid count good found left shows outside sizes there.
    let after = remounted geo valid choice old back new image count good left shows outside (λ pages. pages ≡ before) found s sizes there in
    (after.0, subst (λ (pages : List Page). MayLeave image.unit pages after.0) found.is after.1, after.2)
