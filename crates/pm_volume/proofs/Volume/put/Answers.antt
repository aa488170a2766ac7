use Rattle.std.proofs.Common.{◌*◌, ◌≤◌, true, length, subst, arith}
use Rattle.line_device.proofs.PanelLemmas.{runs_within}
use Rattle.nvm_model.specs.Cell.{put_cell}
use Rattle.nvm_model.specs.Interrupted.{MayPut}
use Rattle.page_lines.specs.Placed.{there_in}
use Rattle.pm_volume.specs.Costs.{lines_touched}
use Rattle.pm_volume.specs.Object.{PlacesState, volume_place}
use Rattle.pm_volume.proofs.CountLemmas.{there_in_most}
use Rattle.pm_volume.proofs.PutLemmas.{TurnsLines, places_apart, put-works}
use Rattle.pm_volume.proofs.Volume.put.Goals as goal

pub put_lines-requires-clause-apart : goal.put_lines-requires-clause-apart
put_lines-requires-clause-apart g c = places_apart c.lines-lines.result c.args.self.now _ true c.lines-lines.ensures c.requires.served.serves

pub returns : goal.returns
returns g c =
    let old = g.L.Lines.state c.args.dev.now in
    let new = g.L.Lines.state c.put_lines.new.dev in
    let len = length c.args.bytes.now in
    let l = c.lines-lines.result in
    let x = c.put_lines.ensures in
    let few : 2 * there_in (volume_place l.geo l.present l.wanted) (record { start = c.args.offset; len = len }) ≤ 2 * lines_touched c.args.offset len =
    omega (arith, there_in_most (volume_place l.geo l.present l.wanted) (record { start = c.args.offset; len = len })) in
    record {
      works = put-works c.args.self.now old new c.args.offset c.args.bytes.now c.put_lines.result _ c.requires.served.serves
          (subst (λ (l : PlacesState). TurnsLines (volume_place l.geo l.present l.wanted) (put_cell c.args.offset c.args.bytes.now) (MayPut c.args.offset c.args.bytes.now) c.args.offset len old new c.put_lines.result (2 * lines_touched c.args.offset len) 0) c.lines-lines.ensures
          (record { ok = x.ok; err = x.err; outside = x.outside; runs = runs_within _ _ _ _ _ _ _ x.runs few (omega arith) }));
    }
