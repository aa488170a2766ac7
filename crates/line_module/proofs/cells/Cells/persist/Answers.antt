use Rattle.std.proofs.Common.{◌≡◌, ◌∷◌, [], ℕ, true, refl, sym, ◌∙◌, ap, if◌then◌else◌}
use Rattle.std.specs.Prelude.{Option, Some, None, slice_get}
use Rattle.line_device.specs.Word.{word_at}
use Rattle.line_device.specs.History.{latest}
use Rattle.line_device.specs.Medium.{flushed, persisted, poisoned}
use Rattle.line_module.specs.Memory.{without}
use Rattle.line_module.specs.Chains.{is_clean}
use Rattle.line_module.specs.Held.{history_in}
use Rattle.line_module.specs.Cells.{cells_medium}
use Rattle.line_module.specs.declared.state.State.{State}
use Rattle.line_module.proofs.OrderLemmas.{without_none}
use Rattle.line_module.proofs.HeldLemmas.{Line, clean-none, clean-strong, clean-unlisted, history-line}
use Rattle.line_module.proofs.RestartLemmas.{on_line-same}
use Rattle.line_module.proofs.cells.Cells.persist.Goals as goal

-- a word of a clean line has one value at most, which is the last one
clean-latest : (d : Line) (state : Option State) (w : ℕ) → is_clean state ≡ true → latest (history_in d state w) ≡ history_in d state w
clean-latest None state w clean = refl
clean-latest (Some None) state w clean = refl
clean-latest (Some (Some b)) state w clean =
    let one : history_in (Some (Some b)) state w ≡ word_at b w ∷ [] = ap (λ h. word_at b w ∷ h) (clean-none state w clean) in
    ap latest one ∙ sym one

pub returns-then-is_clean : goal.returns-then-is_clean
returns-then-is_clean c =
    let s = c.args.self.now in
    let line = c.args.line.0 in
    let m = cells_medium s in
    let state = slice_get s.states.items line in
    let clean : is_clean state ≡ true = sym c.is_clean.ensures ∙ c.if-is_clean.true in
    let same : m ≡ flushed m line =
    on_line-same m line (λ _ h. latest h)
    (λ w below.
    let shown = history-line s.durable s.states.items line w below in
    ap latest shown ∙ clean-latest (slice_get s.durable line) state w clean ∙ sym shown) in
    let medium : m ≡ persisted m line = same ∙ sym (ap (λ b. if b then poisoned m line else flushed m line) (clean-strong state clean)) in
    let order : s.order ≡ without line s.order = sym (without_none line s.order ((s.kept.each line).in_order ∙ clean-unlisted state clean)) in
    λ i. record { medium = medium i; order = order i }
