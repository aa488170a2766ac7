-- The tests before an append.
use Rattle.std.proofs.Common.{◌≡◌, ◌==◌, ℕ, ◌+◌, ◌*◌, ◌≤◌, true, false, Option, Some, None, Result, Ok, Err, IsErrAnd, List, refl, sym, ap, subst, ◌∙◌}
use Rattle.std.proofs.lemmas.Bool.{le-ltb}
use Rattle.std.proofs.lemmas.Option.{none-some}
use Rattle.line_words.specs.Told.{Checks}
use Rattle.line_words.proofs.ToldLemmas.{checks_passed}
use Rattle.nvm_model.specs.Blocks.{first_there}
use Rattle.nvm_model.specs.Cell.{Cell}
use Rattle.nvm_model.specs.Cell.Cell.{Bad, Kept}
use Rattle.nvm_model.specs.Page.{Page, cell_of}
use Rattle.pm_volume.specs.Left.{IsSoundLine}
use Rattle.append_log.specs.declared.fault.LogFault.{LogFault}
use Rattle.append_log.specs.Log.{LogState}
use Rattle.append_log.specs.Refusals.{LogRefusal, check_refusal, log_says, mark_refusal, refused_when}
use Rattle.append_log.specs.Refusals.LogRefusal.{Full, TooLong}

module _ (s : LogState) (pages : List Page) (len : ℕ) (short : len ≤ 48) (room : (s.len + 1 == 64 * s.volume.geo.vpages) ≡ false) where
  marks : check_refusal s pages len ≡ first_there (mark_refusal 0 (cell_of pages 0)) (mark_refusal (s.len + 1) (cell_of pages (s.len + 1)))
  marks =
      ap (λ t. first_there (refused_when t TooLong) (first_there (refused_when (s.len + 1 == 64 * s.volume.geo.vpages) Full)
      (first_there (mark_refusal 0 (cell_of pages 0)) (mark_refusal (s.len + 1) (cell_of pages (s.len + 1)))))) (le-ltb 48 len short)
      ∙ ap (λ t. first_there (refused_when t Full) (first_there (mark_refusal 0 (cell_of pages 0)) (mark_refusal (s.len + 1) (cell_of pages (s.len + 1))))) room

  -- line 0 fails the test, or only the record's line may
  pub check-first : (S T : Type 0) (f : LogFault) (r : Result T LogFault) → IsErrAnd r (λ g. g ≡ f) → Checks {T = S} log_says (mark_refusal 0 (cell_of pages 0)) (Err f)
      → Checks log_says (check_refusal s pages len) r
  check-first S T f (Ok x) is h = absurd is
  check-first S T f (Err g) is h =
      subst (λ why. Checks {T = T} log_says why (Err g)) (sym marks)
      (subst (λ e. Checks {T = T} log_says (first_there (mark_refusal 0 (cell_of pages 0)) (mark_refusal (s.len + 1) (cell_of pages (s.len + 1)))) (Err e)) (sym is)
      (by_reason (mark_refusal 0 (cell_of pages 0)) h))
    where
      by_reason : (o : Option LogRefusal) → Checks {T = S} log_says o (Err f) → Checks {T = T} log_says (first_there o (mark_refusal (s.len + 1) (cell_of pages (s.len + 1)))) (Err f)
      by_reason None h = absurd h
      by_reason (Some why) h = h

  pub check-second : (S T : Type 0) (x : S) (r : Result T LogFault) → Checks {T = S} {E = LogFault} log_says (mark_refusal 0 (cell_of pages 0)) (Ok x)
      → Checks log_says (mark_refusal (s.len + 1) (cell_of pages (s.len + 1))) r → Checks log_says (check_refusal s pages len) r
  check-second S T x r first second =
      subst (λ why. Checks log_says why r)
      (sym (marks ∙ ap (λ o. first_there o (mark_refusal (s.len + 1) (cell_of pages (s.len + 1)))) (checks_passed log_says (mark_refusal 0 (cell_of pages 0)) x first))) second

-- tests that all went well
both-none : (a b : Option LogRefusal) → first_there a b ≡ None → (a ≡ None) × (b ≡ None)
both-none None b is = (refl, is)
both-none (Some why) b is = absurd (none-some why (sym is))

sound-unmarked : (n : ℕ) (line : Option Cell) → mark_refusal n line ≡ None → IsSoundLine line
sound-unmarked n None none = tt
sound-unmarked n (Some Bad) none = absurd (none-some _ (sym none))
sound-unmarked n (Some (Kept true words)) none = absurd (none-some _ (sym none))
sound-unmarked n (Some (Kept false words)) none = tt

pub marks-none : (s : LogState) (pages : List Page) (len : ℕ) → check_refusal s pages len ≡ None → IsSoundLine (cell_of pages 0) × IsSoundLine (cell_of pages (s.len + 1))
marks-none s pages len is =
    let marks = both-none _ _ (both-none _ _ (both-none _ _ is).1).1 in
    (sound-unmarked 0 _ marks.0, sound-unmarked (s.len + 1) _ marks.1)
