use Rattle.std.proofs.Common.{◌≡◌, ◌+◌, ◌*◌, ◌<◌, true, false, Some, None, length, slice_get, refl, sym, ap, subst, ◌∙◌, arith}
use Rattle.std.proofs.lemmas.Bool.{false≢true}
use Rattle.pm_volume.specs.Object.{VolumeState, volume_place}
use Rattle.pm_volume.proofs.FirstLineLemmas.{found_at, lines_nowhere, lines_there}
use Rattle.pm_volume.proofs.Volume.line_of.Goals as goal

pub returns-then-index-clause-lines : goal.returns-then-index-clause-lines
returns-then-index-clause-lines c k below =
    let s = c.self.inside in
    let within : c.args.page < length s.present.items = omega (arith, c.self.invariant.all, ap (λ (v : VolumeState). v.geo.vpages) c.self.view_is, c.requires) in
    subst (λ (v : VolumeState). volume_place v.geo v.present true (64 * c.args.page + k) ≡ Some (c.volume_line.result + k)) c.self.view_is
    (lines_there s.geo s.present.items c.args.page c.volume_line.result k c.self.invariant.valid (found_at s.present.items c.args.page true c.index.result.now within c.index.ensures c.if-index.true) c.volume_line.ensures.line below)

pub returns-then-index-clause-none : goal.returns-then-index-clause-none
returns-then-index-clause-none c =
    let s = c.self.inside in
    let within : c.args.page < length s.present.items = omega (arith, c.self.invariant.all, ap (λ (v : VolumeState). v.geo.vpages) c.self.view_is, c.requires) in
    let there = subst (λ (v : VolumeState). slice_get v.present c.args.page ≡ Some true) c.self.view_is (found_at s.present.items c.args.page true c.index.result.now within c.index.ensures c.if-index.true) in
    (λ wrong. absurd (false≢true (sym wrong)), λ absent. let both : Some true ≡ Some false = sym there ∙ absent in cc)

pub returns-else-index-clause-lines : goal.returns-else-index-clause-lines
returns-else-index-clause-lines c k below =
    let s = c.self.inside in
    let within : c.args.page < length s.present.items = omega (arith, c.self.invariant.all, ap (λ (v : VolumeState). v.geo.vpages) c.self.view_is, c.requires) in
    subst (λ (v : VolumeState). volume_place v.geo v.present true (64 * c.args.page + k) ≡ None) c.self.view_is
    (lines_nowhere s.geo s.present.items c.args.page k (found_at s.present.items c.args.page false c.index.result.now within c.index.ensures c.if-index.false) below)

pub returns-else-index-clause-none : goal.returns-else-index-clause-none
returns-else-index-clause-none c =
    let s = c.self.inside in
    let within : c.args.page < length s.present.items = omega (arith, c.self.invariant.all, ap (λ (v : VolumeState). v.geo.vpages) c.self.view_is, c.requires) in
    let absent = subst (λ (v : VolumeState). slice_get v.present c.args.page ≡ Some false) c.self.view_is (found_at s.present.items c.args.page false c.index.result.now within c.index.ensures c.if-index.false) in
    (λ _. absent, λ _. refl)
