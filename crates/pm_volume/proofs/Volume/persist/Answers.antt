use Rattle.std.proofs.Common.{true, subst}
use Rattle.nvm_model.specs.Cell.{persist_cell}
use Rattle.nvm_model.specs.Interrupted.{MayPersist}
use Rattle.page_lines.specs.Placed.{IsPlaced, there_in}
use Rattle.page_lines.specs.Turns.{WritesBackOthers}
use Rattle.pm_volume.specs.Object.{PlacesState, volume_place}
use Rattle.pm_volume.proofs.PutLemmas.{TurnsLines, persist-works, places_apart}
use Rattle.pm_volume.proofs.Volume.persist.Goals as goal

pub persist_lines-requires-clause-apart : goal.persist_lines-requires-clause-apart
persist_lines-requires-clause-apart g c = places_apart c.lines-lines.result c.args.self.now _ true c.lines-lines.ensures c.requires.served.serves

pub returns-clause-works : goal.returns-clause-works
returns-clause-works g c =
    let old = g.L.Lines.state c.args.dev.now in
    let new = g.L.Lines.state c.persist_lines.new.dev in
    let span = c.args.span in
    let x = c.persist_lines.ensures in
    persist-works c.args.self.now old new span.start span.len c.persist_lines.result _ c.requires.served.serves
    (subst (λ (l : PlacesState). TurnsLines (volume_place l.geo l.present l.wanted) (persist_cell span.start span.len) (MayPersist span.start span.len) span.start span.len old new c.persist_lines.result (there_in (volume_place l.geo l.present l.wanted) span) (there_in (volume_place l.geo l.present l.wanted) span)) c.lines-lines.ensures
    (record { ok = x.ok; err = x.err; outside = x.outside; runs = x.runs }))

pub returns-clause-beside : goal.returns-clause-beside
returns-clause-beside g c =
    subst (λ (l : PlacesState). WritesBackOthers (IsPlaced (volume_place l.geo l.present l.wanted) c.args.span.start c.args.span.len) (g.L.Lines.state c.args.dev.now).medium (g.L.Lines.state c.persist_lines.new.dev).medium) c.lines-lines.ensures
    c.persist_lines.ensures.outside
