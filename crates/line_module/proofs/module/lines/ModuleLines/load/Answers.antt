use Rattle.std.proofs.Common.{refl, subst}
use Rattle.line_device.specs.Medium.{IsLine}
use Rattle.line_module.specs.Memory.{Memory}
use Rattle.line_module.proofs.module.lines.ModuleLines.load.Goals as goal

pub returns : goal.returns
returns c =
    let bytes = subst (λ (s : Memory). IsLine s.medium c.args.line.0 c.bytes.result.now) c.reach.ensures.memory c.bytes.ensures in (
      (refl, (λ _. tt), (c.reach.ensures.lines, c.in_ok-reach.ensures.runs, (c.reach.ensures.memory, c.reach.ensures.switches))),
      record { bytes = bytes; poison = c.in_ok-reach.ensures.poison; fires = c.in_ok-reach.ensures.fires; outright = λ _ _. refl; after = tt },
    )
