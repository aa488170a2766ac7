use Rattle.std.proofs.Common.{◌≡◌, ℕ, false, not, refl, sym, ◌∙◌, ap}
use Rattle.std.specs.Prelude.{slice_get}
use Rattle.line_device.specs.Cells.{weakened}
use Rattle.line_module.specs.Memory.{has, without, memory_after_weaken}
use Rattle.line_module.specs.Cells.{cells_medium, memory_in}
use Rattle.line_module.specs.declared.cells.Cells.{Cells}
use Rattle.line_module.proofs.OrderLemmas.{without_none}
use Rattle.line_module.proofs.HeldLemmas.{clean-strong, clean-unlisted, weak-unlisted}
use Rattle.line_module.proofs.ChangeLemmas.{same_medium, seen_at}
use Rattle.line_module.proofs.cells.Cells.weaken.Goals.{then-is_bad-via-then-is_bad, then-is_bad-via-else-is_bad+then-is_weak}
use Rattle.line_module.proofs.cells.Cells.weaken.Goals as goal

marked_already : (s : Cells) (line : ℕ) → (cells_medium s).is_weak line ≡ not ((cells_medium s).is_bad line) → has line s.order ≡ false → memory_in s ≡ memory_after_weaken (memory_in s) line
marked_already s line is not_listed =
    let m = cells_medium s in
    let medium : m ≡ weakened m line = same_medium m (weakened m line) refl (λ n. refl) (seen_at (λ b. b) m.is_weak m.is_weak line (not (m.is_bad line)) is (λ n other. refl)) (λ p. refl) in
    let order : s.order ≡ without line s.order = sym (without_none line s.order not_listed) in
    λ i. record { medium = medium i; order = order i }

pub returns-then-is_bad-clause-memory : goal.returns-then-is_bad-clause-memory
returns-then-is_bad-clause-memory c =
    let s = c.args.self.now in
    let line = c.args.line.0 in
    let keeps = s.kept.each line in
    let state = slice_get s.states.items line in
    elim c.then-is_bad.branch [
      | then-is_bad-via-then-is_bad w ↦
          let bad = sym c.is_bad.ensures ∙ w.if-is_bad.true in
          let clean = keeps.lost bad in
          marked_already s line (clean-strong state clean ∙ sym (ap not bad)) (keeps.in_order ∙ clean-unlisted state clean)
      | then-is_bad-via-else-is_bad+then-is_weak w ↦
          let good = sym c.is_bad.ensures ∙ w.if-is_bad.false in
          let weak = sym w.is_weak.ensures ∙ w.if-is_weak.true in
          marked_already s line (weak ∙ sym (ap not good)) (keeps.in_order ∙ weak-unlisted state weak)
    ]
