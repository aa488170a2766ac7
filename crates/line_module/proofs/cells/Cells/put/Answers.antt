use Rattle.std.proofs.Common.{◌≡◌, ◌<◌, ◌||◌, ◌∷◌, ◌++◌, ℕ, [], length, set, not, if◌then◌else◌, sym, ◌∙◌, ap, subst}
use Rattle.std.specs.Prelude.{Some, slice_get}
use Rattle.std.proofs.lemmas.List.{set-set}
use Rattle.std.proofs.lemmas.Option.{slice_get_read}
use Rattle.line_device.specs.Word.{word_at, word_over}
use Rattle.line_device.specs.History.{newest}
use Rattle.line_device.specs.Medium.{on_line}
use Rattle.line_module.specs.Memory.{has, word_put}
use Rattle.line_module.specs.Chains.{after_durable, is_weak_state, is_listed, grown_word}
use Rattle.line_module.specs.Held.{history_in, lines_in}
use Rattle.line_module.specs.Keeps.{KeepsLines}
use Rattle.line_module.specs.Order.{EachOnce}
use Rattle.line_module.proofs.OrderLemmas.{each_once-put}
use Rattle.line_module.specs.Cells.{cells_medium}
use Rattle.line_module.proofs.HeldLemmas.{held_bytes, history-line}
use Rattle.line_module.proofs.ChangeLemmas.{lines-grown}
use Rattle.line_module.proofs.PutOverLemmas.{word-put, grown-put, keeps_lines-put}
use Rattle.line_module.proofs.cells.Cells.put.Goals as goal

pub invariant_of-self : goal.invariant_of-self
invariant_of-self c =
    let s = c.args.self.now in
    let line = c.args.line.0 in
    let held = held_bytes s.durable line c.requires.within c.requires.good in
    let was : slice_get s.states.items line ≡ Some c.replace-state.result =
    slice_get_read s.states.items (length s.durable) line c.index_mut.result.now (sym s.kept.states_each) c.requires.within c.index_mut.ensures.value ∙ ap Some (sym c.replace-state.ensures.value) in
    let bytes = c.args.bytes.now in
    let grown : (w first : ℕ) → first ∷ after_durable (Some c.grown.result) w ≡ grown_word c.args.at (length bytes) c.put.new.line w (first ∷ after_durable (slice_get s.states.items line) w) =
    (λ w first. c.grown.ensures.values w first ∙ sym (ap (λ st. grown_word c.args.at (length bytes) c.put.new.line w (first ∷ after_durable st w)) was)) in
    let listed : is_listed (Some c.grown.result) ≡ not (is_weak_state (slice_get s.states.items line)) = c.grown.ensures.listed ∙ sym (ap (λ st. not (is_weak_state st)) was) in
    let order : c.grown.new.order ≡ (if is_weak_state (slice_get s.states.items line) || has line s.order then s.order else s.order ++ line ∷ []) =
    c.grown.ensures.order ∙ sym (ap (λ st. if is_weak_state st || has line s.order then s.order else s.order ++ line ∷ []) was) in
    record {
      few = s.few;
      once = subst EachOnce (sym order) (each_once-put s.order line (is_weak_state (slice_get s.states.items line)) s.once);
      kept =
          subst (λ l. KeepsLines s.durable l (set (set s.states.items line c.replace-state.new.dest) line c.grown.result) c.grown.new.order) (sym c.hold.ensures.lines)
          (subst (λ l. KeepsLines s.durable (set s.cached line (Some c.put.new.line)) l c.grown.new.order) (sym (set-set s.states.items line c.replace-state.new.dest c.grown.result))
          (keeps_lines-put s.durable s.cached s.states.items s.order c.grown.new.order line c.args.at c.grown.result held.0 c.copy-last.result c.put.new.line bytes s.kept c.requires.within held.1 c.copy-last.ensures c.put.ensures.bytes c.requires.some c.requires.fits grown listed order));
    }

pub returns : goal.returns
returns c =
    let s = c.args.self.now in
    let line = c.args.line.0 in
    let held = held_bytes s.durable line c.requires.within c.requires.good in
    let was : slice_get s.states.items line ≡ Some c.replace-state.result =
    slice_get_read s.states.items (length s.durable) line c.index_mut.result.now (sym s.kept.states_each) c.requires.within c.index_mut.ensures.value ∙ ap Some (sym c.replace-state.ensures.value) in
    let bytes = c.args.bytes.now in
    let at = c.args.at in
    let change = word_put at bytes in
    let before : (w : ℕ) → w < 8 → newest (word_at held.0 w ∷ after_durable (slice_get s.states.items line) w) ≡ word_at c.copy-last.result w =
    (λ w below. sym (ap (λ d. newest (history_in d (slice_get s.states.items line) w)) held.1) ∙ sym (ap newest (history-line s.durable s.states.items line w below)) ∙ c.copy-last.ensures.words w below) in
    let grown : (w : ℕ) → w < 8 → word_at held.0 w ∷ after_durable (Some c.grown.result) w ≡ change w (word_at held.0 w ∷ after_durable (slice_get s.states.items line) w) =
    (λ w below.
    let first = word_at held.0 w in
    c.grown.ensures.values w first
    ∙ sym (ap (λ st. grown_word at (length bytes) c.put.new.line w (first ∷ after_durable st w)) was)
    ∙ grown-put at w bytes c.put.new.line (first ∷ after_durable (slice_get s.states.items line) w) (word-put at w bytes c.copy-last.result c.put.new.line c.put.ensures.small c.put.ensures.bytes ∙ ap (word_over at bytes w) (sym (before w below)))) in
    let medium : lines_in s.durable (set (set s.states.items line c.replace-state.new.dest) line c.grown.result) ≡ record (cells_medium s) { history = on_line line change (cells_medium s).history } =
    ap (lines_in s.durable) (set-set s.states.items line c.replace-state.new.dest c.grown.result)
    ∙ lines-grown s.durable s.states.items line c.grown.result held.0 change c.requires.within s.kept.states_each held.1 (c.grown.ensures.weak ∙ sym (ap is_weak_state was)) grown in
    let order : c.grown.new.order ≡ (if is_weak_state (slice_get s.states.items line) || has line s.order then s.order else s.order ++ line ∷ []) =
    c.grown.ensures.order ∙ sym (ap (λ st. if is_weak_state st || has line s.order then s.order else s.order ++ line ∷ []) was) in
    λ i. record { medium = medium i; order = order i }
