use Rattle.pm_volume.proofs.CallLemmas.{syncs-done, syncs-refused, syncs-stopped}
use Rattle.pm_volume.proofs.Volume.sync.Goals as goal

pub returns-in_err-check_readable : goal.returns-in_err-check_readable
returns-in_err-check_readable g c = record {
  syncs = syncs-refused g.L.Lines.state c.args.self.now c.args.dev.now c.requires.ready _ c.in_err-check_readable.field-0.0 _ c.from_residual.ensures.1 c.in_err-check_readable.ensures.refused _ _;
}

pub returns-in_err-persist : goal.returns-in_err-persist
returns-in_err-persist g c = record {
  syncs = syncs-stopped g.L.Lines.state _ c.args.self.now c.self.view_is c.args.dev.now c.persist.new.dev _ c.args.span.start c.args.span.len c.in_ok-check_readable.ensures.refused c.persist.ensures.beside
      c.in_err-persist.field-0.0 _ c.from_residual-in_err-persist.ensures.1 c.in_err-persist.ensures.works;
}

pub returns : goal.returns
returns g c = record {
  syncs = syncs-done g.L.Lines.state _ c.args.self.now c.self.view_is c.args.dev.now c.persist.new.dev _ c.args.span.start c.args.span.len c.in_ok-check_readable.ensures.refused c.persist.ensures.beside tt c.in_ok-persist.ensures.works;
}
