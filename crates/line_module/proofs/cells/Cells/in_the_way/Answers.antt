use Rattle.std.proofs.Common.{◌≡◌, ◌<◌, ◌==◌, ◌∷◌, length, Bool, true, false, get_or, sym, ◌∙◌, ap, if◌then◌else◌}
use Rattle.std.specs.Prelude.{ℕ, Some, None, slice_get}
use Rattle.std.proofs.lemmas.Bool.{eq-eqb, ne_eqb}
use Rattle.std.proofs.lemmas.Option.{slice_get_read}
use Rattle.line_device.specs.Word.{word_at}
use Rattle.line_module.specs.Memory.{is_full_at, in_the_way}
use Rattle.line_module.specs.Chains.{is_weak_state, is_listed, after_durable, is_clean, values_in}
use Rattle.line_module.specs.Held.{is_bare}
use Rattle.line_module.specs.Cells.{memory_in}
use Rattle.line_module.specs.declared.cells.Cells.{Cells}
use Rattle.line_module.specs.declared.chain.Chain.{Chain}
use Rattle.line_module.specs.declared.state.State.{State}
use Rattle.line_module.specs.declared.state.State.TheVariants.{Clean, Dirty}
use Rattle.line_module.proofs.HeldLemmas.{held_bytes, full-line, way-listed, way-clean, one_is_not_full}
use Rattle.line_module.proofs.cells.Cells.in_the_way.Goals as goal

state_read : (s : Cells) (line : ℕ) (state : State) → line < length s.durable → state ≡ get_or s.states.items line state → slice_get s.states.items line ≡ Some state
state_read s line state within read = slice_get_read s.states.items (length s.durable) line state (sym s.kept.states_each) within read

dirty_way : (s : Cells) (line at len : ℕ) (k : Chain) (full : Bool) → line < length s.durable → is_bare (slice_get s.durable line) ≡ false → slice_get s.states.items line ≡ Some (Dirty k) → ((first : ℕ → ℕ) → full ≡ is_full_at (λ w. first w ∷ values_in k w) at len) → in_the_way (memory_in s) line at len ≡ (if full then Some line else None)
dirty_way s line at len k full within good is full_is =
    let held = held_bytes s.durable line within good in
    way-listed (memory_in s) line at len full (ap is_weak_state is)
    (full-line s.durable s.states.items line at len held.0 held.1 ∙ ap (λ st. is_full_at (λ w. word_at held.0 w ∷ after_durable st w) at len) is ∙ sym (full_is (word_at held.0)))
    ((s.kept.each line).in_order ∙ ap is_listed is)

clean_way : (s : Cells) (line at len : ℕ) → line < length s.durable → is_bare (slice_get s.durable line) ≡ false → slice_get s.states.items line ≡ Some Clean → in_the_way (memory_in s) line at len ≡ (if length s.order == 1024 then slice_get s.order 0 else None)
clean_way s line at len within good is =
    let held = held_bytes s.durable line within good in
    way-clean (memory_in s) line at len (ap is_weak_state is)
    (full-line s.durable s.states.items line at len held.0 held.1 ∙ one_is_not_full (word_at held.0) (slice_get s.states.items line) at len (ap is_clean is))
    ((s.kept.each line).in_order ∙ ap is_listed is)

pub returns-then-is_full-clause-line : goal.returns-then-is_full-clause-line
returns-then-is_full-clause-line c =
    let s = c.args.self.now in
    let line = c.args.line.0 in
    sym (dirty_way s line c.args.at c.args.len c.in-Dirty.chain true c.requires.within c.requires.good (state_read s line c.index.result.now c.requires.within c.index.ensures ∙ ap Some c.in-Dirty.is) (λ first. sym c.if-is_full.true ∙ c.is_full.ensures first))

pub returns-else-is_full-clause-line : goal.returns-else-is_full-clause-line
returns-else-is_full-clause-line c =
    let s = c.args.self.now in
    let line = c.args.line.0 in
    sym (dirty_way s line c.args.at c.args.len c.in-Dirty.chain false c.requires.within c.requires.good (state_read s line c.index.result.now c.requires.within c.index.ensures ∙ ap Some c.in-Dirty.is) (λ first. sym c.if-is_full.false ∙ c.is_full.ensures first))

pub returns-then-all_dirty-clause-line : goal.returns-then-all_dirty-clause-line
returns-then-all_dirty-clause-line c =
    let s = c.args.self.now in
    let line = c.args.line.0 in
    c.first.ensures
    ∙ sym (ap (λ b. if b then slice_get s.order 0 else None) (eq-eqb (length s.order) 1024 (sym c.len.ensures.value ∙ c.if-all_dirty.true)))
    ∙ sym (clean_way s line c.args.at c.args.len c.requires.within c.requires.good (state_read s line c.index.result.now c.requires.within c.index.ensures ∙ ap Some c.in-Clean.is))

pub returns-else-all_dirty-clause-line : goal.returns-else-all_dirty-clause-line
returns-else-all_dirty-clause-line c =
    let s = c.args.self.now in
    let line = c.args.line.0 in
    sym (ap (λ b. if b then slice_get s.order 0 else None) (ne_eqb (length s.order) 1024 (λ is. c.if-all_dirty.false (c.len.ensures.value ∙ is))))
    ∙ sym (clean_way s line c.args.at c.args.len c.requires.within c.requires.good (state_read s line c.index.result.now c.requires.within c.index.ensures ∙ ap Some c.in-Clean.is))
