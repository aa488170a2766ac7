use Rattle.std.proofs.Common.{true, false, Some, refl, arith, ◌∙◌, ap}
use Rattle.machine_host.proofs.ExistsLemmas.{comes_of_vexists, comes_of_no_page}
use Rattle.machine_host.proofs.host.Performer.vexists.Goals as goal
use Rattle.line_device.proofs.WriteBackLemmas.{write_back-refl}
use Rattle.machine_host.proofs.KeepLemmas.{left_all}

pub returns-in-Ok-true : goal.returns-in-Ok-true
returns-in-Ok-true g c = record {
  step = λ h stands. comes_of_vexists c.args.self.now _ _ h c.args.page c.self.view_is c.requires.serves stands c.requires.on true (c.in-Ok-true.ensures.ok ∙ ap (λ b. Some b) c.in-Ok-true.field-0-test);
  keeps = write_back-refl _;
  printable = tt;
  room = omega arith;
  serves = c.requires.serves;
}

pub returns-in-Ok-false : goal.returns-in-Ok-false
returns-in-Ok-false g c = record {
  step = λ h stands. comes_of_vexists c.args.self.now _ _ h c.args.page c.self.view_is c.requires.serves stands c.requires.on false (c.in-Ok-false.ensures.ok ∙ ap (λ b. Some b) c.in-Ok-false.field-0-test);
  keeps = write_back-refl _;
  printable = tt;
  room = omega arith;
  serves = c.requires.serves;
}

pub returns-in-Err : goal.returns-in-Err
returns-in-Err g c = record {
  step = λ h stands. comes_of_no_page c.args.self.now _ _ h c.args.page c.self.view_is c.requires.serves stands c.requires.on (c.in-Err.ensures.refused refl).1;
  keeps = left_all c.args.self.now (g.D.Lines.state c.args.device.now);
  printable = tt;
  room = omega arith;
  serves = c.requires.serves;
}
