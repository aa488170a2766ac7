-- A clear of a line of the device, by its answer.
use Rattle.std.proofs.Common.{◌≡◌, ℕ, Bool, true, false, Result, Ok, Err, MatchResult, OnErr, OnOk, refl}
use Rattle.line_device.specs.Medium.{Medium, WritesBack, cleared}
use Rattle.line_words.specs.Told.{Answers}
use Rattle.nvm_model.specs.Cell.{clear_cell}
use Rattle.page_lines.specs.Turns.{WritesBackOthers}
use Rattle.page_lines.proofs.ClearLemmas.{others-clear}
use Rattle.scrub.specs.declared.fault.ScrubFault.{ScrubFault}
use Rattle.marked_lines.specs.Refusals.{mark_refusal}
use Rattle.scrub.specs.Refusals.{scrub_says}
use Rattle.scrub.proofs.LineLemmas.{ChangesLine, changes-cleared}

-- what is cleared was bad
was_bad : {T : Type 0} (b : Bool) (x : T) → Answers scrub_says (mark_refusal b) (Ok x) → b ≡ true
was_bad true x told = refl
was_bad false x told = absurd told

pub on_err : {T E : Type 0} {P : Type 0} (r : Result T E) → P → OnErr r P
on_err (Ok x) holds = tt
on_err (Err e) holds = holds

module _ (old new : Medium) (line : ℕ) where
  pub clear-others : {T : Type 0} (r : Result T ScrubFault) → MatchResult r (λ _. WritesBack (cleared old line) new) (λ _. WritesBack old new) → WritesBackOthers (λ l. l ≡ line) old new
  clear-others r lines = others-clear r old new line lines

  -- it did all, or nothing
  pub clear-ok : {T : Type 0} (r : Result T ScrubFault) → Answers scrub_says (mark_refusal (old.is_bad line)) r → MatchResult r (λ _. WritesBack (cleared old line) new) (λ _. WritesBack old new)
      → OnOk r (ChangesLine clear_cell line old new)
  clear-ok (Ok x) told lines = changes-cleared old new line (was_bad (old.is_bad line) x told) lines
  clear-ok (Err e) told lines = tt

  pub clear-err : {T : Type 0} (r : Result T ScrubFault) → MatchResult r (λ _. WritesBack (cleared old line) new) (λ _. WritesBack old new) → OnErr r (WritesBack old new)
  clear-err (Ok x) lines = tt
  clear-err (Err e) lines = lines
