use Rattle.std.proofs.Common.{true, false, refl, arith}
use Rattle.machine_host.proofs.ExistsLemmas.{comes_of_exists, comes_of_no_such}
use Rattle.machine_host.proofs.host.Performer.bexists.Goals as goal
use Rattle.line_device.proofs.WriteBackLemmas.{write_back-refl}
use Rattle.machine_host.proofs.KeepLemmas.{left_all}

pub returns-in-Ok-true : goal.returns-in-Ok-true
returns-in-Ok-true g c = record {
  step = λ h stands. comes_of_exists c.args.self.now _ _ h c.args.block _ true c.in-Ok-true.field-0-test c.self.view_is c.requires.serves stands c.requires.on c.in-Ok-true.ensures.ok;
  keeps = write_back-refl _;
  printable = tt;
  room = omega arith;
  serves = c.requires.serves;
}

pub returns-in-Ok-false : goal.returns-in-Ok-false
returns-in-Ok-false g c = record {
  step = λ h stands. comes_of_exists c.args.self.now _ _ h c.args.block _ false c.in-Ok-false.field-0-test c.self.view_is c.requires.serves stands c.requires.on c.in-Ok-false.ensures.ok;
  keeps = write_back-refl _;
  printable = tt;
  room = omega arith;
  serves = c.requires.serves;
}

pub returns-in-Err : goal.returns-in-Err
returns-in-Err g c = record {
  step = λ h stands. comes_of_no_such c.args.self.now _ _ h c.args.block c.self.view_is c.requires.serves stands c.requires.on (c.in-Err.ensures.refused refl).1;
  keeps = left_all c.args.self.now (g.D.Lines.state c.args.device.now);
  printable = tt;
  room = omega arith;
  serves = c.requires.serves;
}
