use Rattle.std.proofs.Common.{length, le-add_left, le_refl}
use Rattle.line_device.proofs.PanelLemmas.{runs_within}
use Rattle.pm_volume.specs.Costs.{store_calls, store_persists}
use Rattle.pm_volume.specs.Object.{VolumeState}
use Rattle.pm_volume.proofs.CallLemmas.{changes-done, changes-refused, changes-stopped}
use Rattle.pm_volume.proofs.StandingLemmas.{each_pages-then}
use Rattle.pm_volume.proofs.StoreLemmas.{may_store-filled, stored-works}
use Rattle.pm_volume.proofs.Volume.store.Goals as goal

pub returns-in_err-check_store-clause-changes : goal.returns-in_err-check_store-clause-changes
returns-in_err-check_store-clause-changes g c =
    changes-refused g.L.Lines.state c.args.self.now c.args.dev.now c.requires.ready _ c.in_err-check_store.field-0.0 _ c.from_residual.ensures.1 c.in_err-check_store.ensures.refused _ _ _ _

pub returns-in_err-fill-clause-changes : goal.returns-in_err-fill-clause-changes
returns-in_err-fill-clause-changes g c =
    let x = c.in_err-fill.ensures.works in
    let len = length c.args.bytes.now in
    changes-stopped g.L.Lines.state _ c.args.self.now _ c.self.view_is _ _ _ _ (λ (s : VolumeState). store_calls s.present c.args.offset len) (λ (s : VolumeState). store_persists s.present c.args.offset len) c.in_err-fill.field-0.0 _ c.from_residual-in_err-fill.ensures.1
    (record {
      ok = tt;
      images = λ pages holds. each_pages-then _ _ _ _ (may_store-filled c.args.offset c.args.bytes.now pages) (x.images pages holds);
      outside = x.outside;
      metadata = x.metadata;
      serves = tt;
      object = x.object;
      runs = runs_within _ _ _ _ _ _ _ x.runs (le-add_left _ _) (le_refl _);
    })

pub returns-in_err-put-clause-changes : goal.returns-in_err-put-clause-changes
returns-in_err-put-clause-changes g c =
    let len = length c.args.bytes.now in
    changes-stopped g.L.Lines.state _ c.args.self.now _ c.self.view_is _ _ _ _ (λ (s : VolumeState). store_calls s.present c.args.offset len) (λ (s : VolumeState). store_persists s.present c.args.offset len) c.in_err-put.field-0.0 _ c.from_residual-in_err-put.ensures.1
    (stored-works _ _ _ _ _ c.args.offset c.args.bytes.now tt _ c.in_ok-fill.ensures.works c.in_err-put.ensures.works)

pub returns-clause-changes : goal.returns-clause-changes
returns-clause-changes g c =
    let len = length c.args.bytes.now in
    changes-done g.L.Lines.state _ c.args.self.now _ c.self.view_is _ _ _ _ (λ (s : VolumeState). store_calls s.present c.args.offset len) (λ (s : VolumeState). store_persists s.present c.args.offset len) tt _ c.self-2.view_is
    (stored-works _ _ _ _ _ c.args.offset c.args.bytes.now tt _ c.in_ok-fill.ensures.works c.in_ok-put.ensures.works)
