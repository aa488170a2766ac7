use Rattle.std.proofs.Common.{inl, refl, rules}
use Rattle.word_log.specs.Held.{IsEither}
use Rattle.nvm_model.specs.Page.{fill}
use Rattle.pm_volume.proofs.FillLemmas.{cleared-good, cleared-images, cleared-marks, cleared-outside, cleared-serves, filled-covered, filled-holds, filled-images, filled-marks, filled-outside}
use Rattle.std.proofs.lemmas.Result.{on_ok_weaker}
use Rattle.pm_volume.proofs.ResultLemmas.{on_ok-is}
use Rattle.pm_volume.proofs.Volume.fill_absent.Goals as goal

pub returns-in_err-clear_absent-clause-works : goal.returns-in_err-clear_absent-clause-works
returns-in_err-clear_absent-clause-works g c =
    let x = c.in_err-clear_absent.ensures in
    record {
      ok = search rules;
      images = λ pages holds. cleared-images c.args.self.now (g.L.Lines.state c.args.dev.now).medium c.requires.begun.serves (g.L.Lines.state c.clear_absent.new.dev).medium x.outside (IsEither pages (fill c.args.span.start c.args.span.len pages)) pages holds (inl refl);
      outside = cleared-outside c.args.self.now (g.L.Lines.state c.args.dev.now).medium c.requires.begun.serves (g.L.Lines.state c.clear_absent.new.dev).medium x.outside;
      metadata = cleared-marks c.args.self.now (g.L.Lines.state c.args.dev.now).medium c.requires.begun.serves (g.L.Lines.state c.clear_absent.new.dev).medium x.outside;
      serves = search rules;
      object = search rules;
      runs = search rules;
    }

pub switch-requires-clause-begun : goal.switch-requires-clause-begun
switch-requires-clause-begun g c =
    let x = c.in_ok-clear_absent.ensures in
    record { serves = cleared-serves c.args.self.now (g.L.Lines.state c.args.dev.now).medium c.requires.begun.serves (g.L.Lines.state c.clear_absent.new.dev).medium x.outside; quiet = c.requires.begun.quiet; unsettled = c.requires.begun.unsettled; on = search rules }

pub switch-requires-clause-good : goal.switch-requires-clause-good
switch-requires-clause-good g c =
    let x = c.in_ok-clear_absent.ensures in
    cleared-good c.args.self.now (g.L.Lines.state c.args.dev.now).medium c.requires.begun.serves (g.L.Lines.state c.clear_absent.new.dev).medium x.outside c.requires.good

pub returns-clause-works : goal.returns-clause-works
returns-clause-works g c =
    let x = c.in_ok-clear_absent.ensures in
    let y = c.switch.ensures.switches in
    record {
      ok = on_ok_weaker c.switch.result (λ there. filled-holds c.args.self.now (g.L.Lines.state c.args.dev.now).medium c.requires.begun.serves (g.L.Lines.state c.clear_absent.new.dev).medium x.outside (g.L.Lines.state c.switch.new.dev).medium c.args.span c.pages_of-pages.result c.requires.storable.some c.pages_of-pages.ensures.value y.outside x.zeros c.switch.new.self y.object.0 there) y.ok;
      images = filled-images c.args.self.now (g.L.Lines.state c.args.dev.now).medium c.requires.begun.serves (g.L.Lines.state c.clear_absent.new.dev).medium x.outside (g.L.Lines.state c.switch.new.dev).medium c.args.span c.pages_of-pages.result c.requires.storable.some c.pages_of-pages.ensures.value y.outside x.zeros y.images;
      outside = filled-outside c.args.self.now (g.L.Lines.state c.args.dev.now).medium c.requires.begun.serves (g.L.Lines.state c.clear_absent.new.dev).medium x.outside (g.L.Lines.state c.switch.new.dev).medium c.args.span c.pages_of-pages.result c.requires.storable.some c.pages_of-pages.ensures.value y.outside x.zeros;
      metadata = filled-marks c.args.self.now (g.L.Lines.state c.args.dev.now).medium c.requires.begun.serves (g.L.Lines.state c.clear_absent.new.dev).medium x.outside (g.L.Lines.state c.switch.new.dev).medium c.args.span c.pages_of-pages.result c.requires.storable.some c.pages_of-pages.ensures.value y.outside x.zeros;
      serves = y.serves;
      object = (y.object.0, y.object.1, on_ok-is c.switch.result c.switch.new.self.quiet y.object.2);
      runs = search rules;
    }

pub returns-clause-covered : goal.returns-clause-covered
returns-clause-covered g c =
    let x = c.in_ok-clear_absent.ensures in
    let y = c.switch.ensures.switches in
    on_ok_weaker c.switch.result (λ there. filled-covered c.args.self.now (g.L.Lines.state c.args.dev.now).medium c.requires.begun.serves (g.L.Lines.state c.clear_absent.new.dev).medium x.outside (g.L.Lines.state c.switch.new.dev).medium c.args.span c.pages_of-pages.result c.requires.storable.some c.pages_of-pages.ensures.value y.outside x.zeros c.switch.new.self y.object.0 there c.requires.storable.covered) y.ok
