-- The lines of a module are sound.
use Rattle.std.specs.Prelude.{◌≡◌, ◌/◌, ◌%◌, ◌<◌, ℕ, true, false, List, [], Option, Some, None, slice_get, refl}
use Rattle.std.proofs.Math.Nat.{le_trans, not-suc-le-zero}
use Rattle.std.proofs.Common.{lit≤, sym, ◌∙◌, ap, subst, get_or}
use Rattle.std.proofs.lemmas.Bool.{false≢true}
use Rattle.std.proofs.lemmas.Option.{slice_get-get_or}
use Rattle.line_device.specs.Word.{word_at}
use Rattle.line_device.specs.History.{newest, IsIn}
use Rattle.line_device.specs.Medium.{IsSound}
use Rattle.line_device.proofs.HistoryLemmas.{is_in-newest}
use Rattle.line_module.specs.Chains.{after_durable, is_clean, is_weak_state}
use Rattle.line_module.specs.Held.{is_bare, history_in}
use Rattle.line_module.specs.Cells.{cells_medium}
use Rattle.line_module.specs.Module.{memory_held, module_device}
use Rattle.line_module.specs.declared.state.State.{State}
use Rattle.line_module.specs.declared.state.State.TheVariants.{Clean, Dirty, Weak}
use Rattle.line_module.specs.declared.cells.Cells.{Cells}
use Rattle.line_module.specs.declared.module.Module.{Module}

last_is_there : (line : Option (List ℕ)) (state : Option State) (w : ℕ) → is_bare (Some line) ≡ false → IsIn (newest (history_in (Some line) state w)) (history_in (Some line) state w)
last_is_there None state w good = absurd (false≢true (sym good))
last_is_there (Some bytes) state w good = is_in-newest (word_at bytes w) (after_durable state w)

bare_has_none : (line : Option (Option (List ℕ))) (state : Option State) (w : ℕ) → is_bare line ≡ true → history_in line state w ≡ []
bare_has_none None state w bad = refl
bare_has_none (Some None) state w bad = refl
bare_has_none (Some (Some bytes)) state w bad = absurd (false≢true bad)

clean_is_strong : (state : Option State) → is_clean state ≡ true → is_weak_state state ≡ false
clean_is_strong None clean = refl
clean_is_strong (Some Clean) clean = refl
clean_is_strong (Some (Dirty k)) clean = absurd (false≢true clean)
clean_is_strong (Some (Weak k)) clean = absurd (false≢true clean)

is_sound-cells : (c : Cells) → IsSound (cells_medium c)
is_sound-cells c = record {
  small = le_trans c.few (lit≤ tt);
  last = λ p healthy.
      let line = get_or c.durable (p / 8) None in
      let state = slice_get c.states.items (p / 8) in
      let found : slice_get c.durable (p / 8) ≡ Some line = slice_get-get_or c.durable (p / 8) None healthy.0 in
      subst (λ d. IsIn (newest (history_in d state (p % 8))) (history_in d state (p % 8))) (sym found) (last_is_there line state (p % 8) (sym (ap is_bare found) ∙ healthy.1));
  lost = λ p. bare_has_none (slice_get c.durable (p / 8)) (slice_get c.states.items (p / 8)) (p % 8);
  unmarked = λ n bad. clean_is_strong (slice_get c.states.items n) ((c.kept.each n).lost bad);
}

pub is_sound-held : (cells : Option Cells) → IsSound (memory_held cells).medium
is_sound-held None = record {
  small = lit≤ tt;
  last = λ p healthy. absurd (no_line (p / 8) healthy.0);
  lost = λ p bad. absurd (false≢true bad);
  unmarked = λ n bad. refl;
}
  where
    no_line : (n : ℕ) → n < 0 → ⊥
    no_line n below = not-suc-le-zero below
is_sound-held (Some cells) = is_sound-cells cells

pub is_sound-module : (m : Module) → IsSound (module_device m).medium
is_sound-module m = is_sound-held m.cells
