use Rattle.std.proofs.Common.{◌≡◌, ◌+◌, ◌-◌, not, take, drop, ap, ◌∙◌, arith}
use Rattle.std.specs.List.{list_any}
use Rattle.pm_volume.proofs.PresenceLemmas.{absent_touched}
use Rattle.pm_volume.proofs.filling.lacks_some.Goals as goal

pub returns : goal.returns
returns c =
    let pages = c.pages_of-pages.result in
    let size : pages.start + pages.len - pages.start ≡ pages.len = omega arith in
    c.lacks_one.ensures
    ∙ ap (λ k. list_any not (take k (drop pages.start c.args.present.now))) size
    ∙ absent_touched c.args.span pages c.args.present.now c.requires.some c.pages_of-pages.ensures.value
