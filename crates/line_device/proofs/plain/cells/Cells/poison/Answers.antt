use Rattle.line_device.specs.declared.plain.cells.Mark.TheVariants.{Bad}
use Rattle.std.proofs.Common.{[], refl, arith}
use Rattle.line_device.proofs.CellsLemmas.{memory-renewed}
use Rattle.line_device.proofs.plain.cells.Cells.poison.Goals as goal

pub returns : goal.returns
returns c =
    let s = c.args.self.now in
    memory-renewed s.marks.len c.args.line.0 s.marks.items Bad s.durable.items s.last.items s.durable.items s.last.items (λ _. []) (omega (arith, s.marks.ok)) (λ p _. refl) (λ p _. refl) (λ p _. refl)
