use Rattle.std.proofs.Common.{◌≡◌, ◌+◌, ◌*◌, ◌<◌, ℕ, Bool, true, false, List, refl, sym, ◌∙◌, ap}
use Rattle.std.specs.Prelude.{slice_get}
use Rattle.line_device.specs.Medium.{on_line}
use Rattle.line_module.specs.Survivors.{survivor_of}
use Rattle.line_module.specs.Memory.{has, without, is_dirty_line}
use Rattle.line_module.specs.Chains.{is_dirty, is_listed}
use Rattle.line_module.specs.Held.{is_bare}
use Rattle.line_module.specs.Cells.{cells_medium}
use Rattle.line_module.specs.declared.cells.Cells.{Cells}
use Rattle.line_module.proofs.WordsLemmas.{true_is_not_false}
use Rattle.line_module.proofs.OrderLemmas.{without_none}
use Rattle.line_module.proofs.HeldLemmas.{history-line, clean-quiet, dirty-line}
use Rattle.line_module.proofs.ChangeLemmas.{on_line-renewed}
use Rattle.line_module.proofs.RestartLemmas.{quiet_kept, on_line-same}
use Rattle.line_module.proofs.cells.Cells.settle.Goals as goal

dirty_state : (s : Cells) (line : ℕ) (b : Bool) → line < (cells_medium s).count → is_dirty_line (cells_medium s) line ≡ b → is_dirty (slice_get s.states.items line) ≡ b
dirty_state s line b within is = sym (dirty-line s.durable s.states.items line within (s.kept.each line).lost) ∙ is

dirty_good : (s : Cells) (line : ℕ) → is_dirty (slice_get s.states.items line) ≡ true → (cells_medium s).is_bad line ≡ false
dirty_good s line dirty = decide (is_bare (slice_get s.durable line)) refl
  where
    decide : (b : Bool) → is_bare (slice_get s.durable line) ≡ b → is_bare (slice_get s.durable line) ≡ false
    decide false is = is
    decide true is = absurd (true_is_not_false (sym dirty ∙ clean-quiet (slice_get s.states.items line) ((s.kept.each line).lost is)))

quiet_unlisted : (s : Cells) (line : ℕ) → is_dirty (slice_get s.states.items line) ≡ false → has line s.order ≡ false
quiet_unlisted s line quiet = (s.kept.each line).in_order ∙ decide (is_listed (slice_get s.states.items line)) refl
  where
    decide : (b : Bool) → is_listed (slice_get s.states.items line) ≡ b → is_listed (slice_get s.states.items line) ≡ false
    decide false is = is
    decide true is = absurd (true_is_not_false (sym ((s.kept.each line).dirty is) ∙ quiet))

pub survivors-bytes-requires-clause-good : goal.survivors-bytes-requires-clause-good
survivors-bytes-requires-clause-good c =
    let s = c.args.self.now in
    let line = c.args.line.0 in
    dirty_good s line (dirty_state s line true c.requires (sym c.is_dirty.ensures ∙ c.if-is_dirty.true))

pub returns-then-is_dirty : goal.returns-then-is_dirty
returns-then-is_dirty c =
    let s = c.args.self.now in
    let line = c.args.line.0 in
    let m = cells_medium s in
    let good = dirty_good s line (dirty_state s line true c.requires (sym c.is_dirty.ensures ∙ c.if-is_dirty.true)) in
    let change = λ (w : ℕ) (h : List ℕ). survivor_of c.args.unit c.args.choice (8 * line + w) h in
    let medium : cells_medium c.renew.new.self ≡ record m { history = on_line line change m.history } = c.renew.ensures.medium ∙ on_line-renewed m line c.survivors-bytes.result change good c.survivors-bytes.ensures in
    λ i. record { medium = medium i; order = c.renew.ensures.order i }

pub returns-else-is_dirty : goal.returns-else-is_dirty
returns-else-is_dirty c =
    let s = c.args.self.now in
    let line = c.args.line.0 in
    let m = cells_medium s in
    let quiet = dirty_state s line false c.requires (sym c.is_dirty.ensures ∙ c.if-is_dirty.false) in
    let state = slice_get s.states.items line in
    let change = λ (w : ℕ) (h : List ℕ). survivor_of c.args.unit c.args.choice (8 * line + w) h in
    let medium : m ≡ record m { history = on_line line change m.history } =
    on_line-same m line change
    (λ w below.
    let shown = history-line s.durable s.states.items line w below in
    ap (survivor_of c.args.unit c.args.choice (8 * line + w)) shown ∙ quiet_kept (slice_get s.durable line) state w (8 * line + w) c.args.unit c.args.choice quiet below ∙ sym shown) in
    let order : s.order ≡ without line s.order = sym (without_none line s.order (quiet_unlisted s line quiet)) in
    λ i. record { medium = medium i; order = order i }
