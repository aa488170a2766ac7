use Rattle.std.proofs.Common.{refl}
use Rattle.line_device.specs.Panel.Outcome.{went}
use Rattle.host_program.proofs.StoreLemmas.{are_last}
use Rattle.host_program.proofs.storing.text_of.Goals as goal

pub returns : goal.returns
returns g c =
    let read = c.in_ok-image.ensures in
    record {
      end = went;
      sets_up = read.sets_up;
      power = read.power;
      wrote = read.lines;
      outcome = (
        refl,
        are_last c.args.unit (g.D.Lines.state c.args.device.now).medium c.in_ok-image.image c.in_ok-write.field-0.items c.requires.known c.requires.fit read.unit read.image c.in_ok-write.ensures.text,
      );
    }
