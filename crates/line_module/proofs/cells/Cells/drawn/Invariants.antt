use Rattle.std.proofs.Common.{◌≡◌, ◌+◌, ◌*◌, ◌<◌, ◌≤◌, [], ◌∷◌, ℕ}
use Rattle.line_device.specs.Word.{word_at}
use Rattle.line_device.specs.declared.line.Choice.TheVariants.{Firsts, Seed}
use Rattle.line_module.specs.Survivors.{survivor_of}
use Rattle.line_module.specs.Cells.{cells_medium}
use Rattle.line_module.proofs.cells.Cells.drawn.Given as goal

abbrev pub invariant-loop-w : goal.invariant-loop-w
invariant-loop-w l =
    ((v : ℕ) → v < l.w → survivor_of l.unit (Seed l.seed) (8 * l.line.0 + v) ((cells_medium l.self).history (8 * l.line.0 + v)) ≡ word_at l.bytes v ∷ [])
    × ((v : ℕ) → l.w ≤ v → v < 8 → survivor_of l.unit Firsts (8 * l.line.0 + v) ((cells_medium l.self).history (8 * l.line.0 + v)) ≡ word_at l.bytes v ∷ [])
