use Rattle.std.proofs.Common.{refl, arith}
use Rattle.volume_view.proofs.ShownLemmas.{behind-is, not_past, first_byte-fits}
use Rattle.volume_view.proofs.View.behind.Goals as goal

pub overflow_mul-line : goal.overflow_mul-line
overflow_mul-line g c =
    let device = c.args.self.now.dev.now in
    let few = first_byte-fits c.args.self.now.set.now (g.L.Lines.state device).medium c.args.line.0 (g.met.L.Lines.sound device) c.requires in
    omega (arith, few)

pub unreachable-requires : goal.unreachable-requires
unreachable-requires g c =
    not_past c.args.self.now.set.now (g.L.Lines.state c.args.self.now.dev.now).medium.count c.args.line.0 c.requires (c.in-None.ensures.none.0 refl)

pub returns-clause-shown : goal.returns-clause-shown
returns-clause-shown g c =
    (behind-is c.args.self.now.set.now (g.L.Lines.state c.args.self.now.dev.now).medium.count c.args.line.0 c.in-Some.address c.requires c.in-Some.ensures.place).shown

pub returns-clause-within : goal.returns-clause-within
returns-clause-within g c =
    (behind-is c.args.self.now.set.now (g.L.Lines.state c.args.self.now.dev.now).medium.count c.args.line.0 c.in-Some.address c.requires c.in-Some.ensures.place).within
