use Rattle.std.proofs.Common.{◌≡◌, ◌+◌, ◌-◌, set, ap, sym, ◌∙◌, arith}
use Rattle.pm_volume.specs.Presence.{switched}
use Rattle.pm_volume.proofs.PresenceLemmas.{switched_more, switched_none}
use Rattle.pm_volume.proofs.switching.mark.Goals as goal

pub loop-page-init : goal.loop-page-init
loop-page-init c =
    let first = c.args.pages.start in
    let none : 0 ≡ first - first = omega arith in
    record {
      from = omega arith;
      marked = sym (switched_none first c.args.there c.args.present.now.items) ∙ ap (λ k. switched first k c.args.there c.args.present.now.items) none;
    }

pub loop-page-preserved : goal.loop-page-preserved
loop-page-preserved c =
    let first = c.args.pages.start in
    let page = c.loop-page.page in
    let to = c.args.there in
    let at : page ≡ first + (page - first) = omega (arith, c.loop-page.invariant.from) in
    let next : page - first + 1 ≡ page + 1 - first = omega (arith, c.loop-page.invariant.from) in
    record {
      from = omega (arith, c.loop-page.invariant.from);
      marked =
          ap (λ ts. set ts page to) c.loop-page.invariant.marked
          ∙ ap (λ k. set (switched first (page - first) to c.args.present.now.items) k to) at
          ∙ switched_more first (page - first) to c.args.present.now.items
          ∙ ap (λ k. switched first k to c.args.present.now.items) next;
    }
