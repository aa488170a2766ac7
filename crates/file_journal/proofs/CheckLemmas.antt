-- What tests before a call say.
use Rattle.std.proofs.Common.{◌≡◌, ◌+◌, ◌<◌, ◌≤◌, ℕ, Option, Some, None, Result, Ok, Err, position, ap, ◌∙◌, subst, sym, arith}
use Rattle.std.specs.List.{range_with_len}
use Rattle.line_device.specs.Medium.{Medium}
use Rattle.line_words.specs.Told.{Checks, refusal_of}
use Rattle.line_words.proofs.PositionLemmas.{none_found}
use Rattle.word_tables.specs.declared.geometry.Geometry.{Geometry}
use Rattle.word_tables.specs.Layout.{meta_lines, first_line, total_lines}
use Rattle.nvm_model.specs.Blocks.{first_there}
use Rattle.nvm_model.specs.Lines.{AreGood}
use Rattle.file_journal.specs.declared.fault.JournalFault.{JournalFault}
use Rattle.file_journal.specs.Refusals.{JournalRefusal, journal_says}

-- what the first of two tests finds, and what the second does where the first passes
pub checks_first : (S T : Type 0) (a b : Option JournalRefusal) (f g : JournalFault) → g ≡ f → Checks {T = S} journal_says a (Err f) → Checks {T = T} journal_says (first_there a b) (Err g)
checks_first S T None b f g is h = absurd h
checks_first S T (Some why) b f g is h = ap (λ e. refusal_of (journal_says e)) is ∙ h

pub checks_second : {S T : Type 0} (a b : Option JournalRefusal) (x : S) (r : Result T JournalFault) → Checks journal_says a (Ok x) → Checks journal_says b r → Checks journal_says (first_there a b) r
checks_second None b x r h k = k
checks_second (Some why) b x r h k = absurd h

pub meta_within : (geo : Geometry) → meta_lines geo ≤ total_lines geo
unfolding first_line total_lines
meta_within geo = omega arith

-- no line of metadata is bad
pub meta_good : (geo : Geometry) (m : Medium) (lines : ℕ) → lines ≡ meta_lines geo → None ≡ position m.is_bad (range_with_len 0 lines) → AreGood m (meta_lines geo)
meta_good geo m lines all is n below =
    let at : 0 + n ≡ n = omega arith in
    ap m.is_bad (sym at) ∙ none_found m.is_bad 0 lines n (sym is) (subst (λ c. n < c) (sym all) below)
