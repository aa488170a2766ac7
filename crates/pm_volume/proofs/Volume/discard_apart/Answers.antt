use Rattle.std.proofs.Common.{◌≡◌, ◌≤◌, ◌+◌, ◌-◌, ◌*◌, IsTrue, Ok, refl, sym, subst, ◌∙◌, arith}
use Rattle.line_device.proofs.PanelLemmas.{runs-refl, runs_within}
use Rattle.line_words.proofs.FrameLemmas.{outside-refl, outside-trans}
use Rattle.line_words.specs.Words.{WritesBackOutside}
use Rattle.nvm_model.specs.Numbered.{AreMixed}
use Rattle.nvm_model.specs.Page.{Page, discard}
use Rattle.page_lines.proofs.OthersLemmas.{others-refl}
use Rattle.word_log.specs.Area.{IsOf}
use Rattle.word_log.proofs.AnswerLemmas.{is_fault}
use Rattle.word_tables.specs.declared.geometry.Geometry.{Geometry}
use Rattle.pm_volume.specs.Area.{volume_area}
use Rattle.pm_volume.specs.Calls.{Works}
use Rattle.pm_volume.specs.Object.{VolumeHolds}
use Rattle.pm_volume.proofs.DiscardLemmas.{discarded-none, discarded-some, discards-next}
use Rattle.pm_volume.proofs.FillLemmas.{resting-images}
use Rattle.pm_volume.proofs.MarkLemmas.{marks-refl}
use Rattle.pm_volume.proofs.Volume.discard_apart.Given as given
use Rattle.pm_volume.proofs.Volume.discard_apart.Goals as goal
use Rattle.pm_volume.proofs.Volume.discard_apart.Goals.{After-switch}

outside : (g : given.Over) (c : goal.After-switch g) → WritesBackOutside (IsOf (volume_area c.args.self.now.geo)) (g.L.Lines.state c.args.dev.now).medium (g.L.Lines.state c.switch.new.dev).medium
outside g c =
    let now = (g.L.Lines.state c.loop-page.dev).medium in
    let new = (g.L.Lines.state c.switch.new.dev).medium in
    outside-trans _ _ now _ c.loop-page.invariant.outside (subst (λ (geo : Geometry). WritesBackOutside (IsOf (volume_area geo)) now new) c.loop-page.invariant.works.object.0 c.switch.ensures.switches.outside)

pub loop-page-init : goal.loop-page-init
loop-page-init g c =
    let s = c.args.self.now in
    let d = g.L.Lines.state c.args.dev.now in
    let first = c.args.pages.start in
    let count = c.args.pages.len in
    let none : 0 ≡ first - first = omega arith in
    record {
      from = omega arith;
      works = subst (λ k. Works s s d d (Ok tt) (discard first k) (λ before. AreMixed Page before (discard first count before)) (11 * k) (5 * k)) none (record {
        ok = λ before holds. subst (VolumeHolds s d.medium) (sym (discarded-none first before)) holds;
        images = λ before holds.
            resting-images s d.medium (AreMixed Page before (discard first count before)) c.requires.begun.serves before holds
            (subst (AreMixed Page before (discard first count before)) (discarded-none first before) (discarded-some first 0 count before (omega arith)));
        outside = others-refl _ _;
        metadata = marks-refl s.geo d.medium;
        serves = c.requires.begun.serves;
        object = (refl, refl, c.requires.begun.quiet);
        runs = runs-refl d.panel;
      });
      outside = outside-refl _ _;
    }

pub switch-requires-clause-begun : goal.switch-requires-clause-begun
switch-requires-clause-begun g c =
    let x = c.loop-page.invariant.works in
    record { serves = x.serves; quiet = x.object.2; unsettled = x.object.1 ∙ c.requires.begun.unsettled; on = subst IsTrue (sym x.runs.cause.0) c.requires.begun.on }

pub returns-in_err-switch-clause-works : goal.returns-in_err-switch-clause-works
returns-in_err-switch-clause-works g c =
    let stop = c.in_err-switch.field-0.0 in
    let i = c.loop-page.invariant in
    let page = c.loop-page.page in
    let first = c.args.pages.start in
    let count = c.args.pages.len in
    let calls : 11 * (page + 1 - first) ≤ 11 * count = omega (arith, i.from, c.loop-page-test.true) in
    let persists : 5 * (page + 1 - first) ≤ 5 * count = omega (arith, i.from, c.loop-page-test.true) in
    let x = discards-next c.args.self.now c.loop-page.self _ (g.L.Lines.state c.args.dev.now) _ _ _ first count page i.from c.loop-page-test.true i.works c.in_err-switch.ensures.switches in
    subst (λ r. Works c.args.self.now c.switch.new.self (g.L.Lines.state c.args.dev.now) (g.L.Lines.state c.switch.new.dev) r (discard first count) (λ before. AreMixed Page before (discard first count before)) (11 * count) (5 * count)) (sym (is_fault c.from_residual.result stop c.from_residual.ensures.1))
    (record { ok = tt; images = x.images; outside = x.outside; metadata = x.metadata; serves = tt; object = x.object; runs = runs_within _ _ _ _ _ _ _ x.runs calls persists })

pub returns-in_err-switch-clause-outside : goal.returns-in_err-switch-clause-outside
returns-in_err-switch-clause-outside g c = outside g (goal.at.returns-in_err-switch-clause-outside g c).After-switch

pub loop-page-preserved : goal.loop-page-preserved
loop-page-preserved g c =
    let i = c.loop-page.invariant in
    record {
      from = omega (arith, i.from);
      works = discards-next c.args.self.now c.loop-page.self _ (g.L.Lines.state c.args.dev.now) _ _ _ c.args.pages.start c.args.pages.len c.loop-page.page i.from c.loop-page-test.true i.works c.in_ok-switch.ensures.switches;
      outside = outside g (goal.at.loop-page-preserved g c).After-switch;
    }

pub returns-clause-works : goal.returns-clause-works
returns-clause-works g c =
    let first = c.args.pages.start in
    let count = c.args.pages.len in
    let all : c.loop-page.page - first ≡ count = omega (arith, c.loop-page.invariant.from) in
    subst (λ k. Works c.args.self.now c.loop-page.self (g.L.Lines.state c.args.dev.now) (g.L.Lines.state c.loop-page.dev) (Ok tt) (discard first k) (λ before. AreMixed Page before (discard first count before)) (11 * k) (5 * k)) all c.loop-page.invariant.works
