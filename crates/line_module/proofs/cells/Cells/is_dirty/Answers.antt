use Rattle.std.proofs.Common.{◌≡◌, List, ℕ, refl, sym, ◌∙◌, ap, Bor}
use Rattle.std.specs.Prelude.{Option, Some, None, option_copied, is_some}
use Rattle.line_module.specs.Held.{is_held}
use Rattle.line_module.proofs.HeldLemmas.{dirty-line}
use Rattle.line_module.proofs.cells.Cells.is_dirty.Goals as goal

is_held-copied : (line : Option (Bor (List ℕ))) → is_some line ≡ is_held (Some (option_copied line))
is_held-copied None = refl
is_held-copied (Some bytes) = refl

pub returns : goal.returns
returns c =
    let s = c.args.self.now in
    let line = c.args.line.0 in
    let keeps = s.kept.each line in
    c.is_some.ensures ∙ is_held-copied c.line.result ∙ sym (ap is_held c.line.ensures.value) ∙ keeps.held ∙ sym (dirty-line s.durable s.states.items line c.requires keeps.lost)
