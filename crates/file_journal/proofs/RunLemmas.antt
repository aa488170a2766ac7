-- Calls that changes make.
use Rattle.std.proofs.Common.{◌≡◌, ◌+◌, ◌≤◌, ℕ, Result, Ok, Err, ap, sym, subst, arith}
use Rattle.std.specs.Result.{IsErrAnd}
use Rattle.line_device.specs.Panel.{Outcome, Panel, Runs}
use Rattle.line_device.proofs.PanelLemmas.{runs_within}
use Rattle.line_words.specs.Ending.{stop_outcome}
use Rattle.line_words.specs.Told.{outcome_by, told_outcome}
use Rattle.line_words.specs.Told.Told.{Stops}
use Rattle.line_words.specs.declared.interruption.Interruption.{Interruption}
use Rattle.word_log.specs.Changes.{commit_calls, commit_persists}
use Rattle.file_journal.specs.declared.fault.JournalFault.{JournalFault}
use Rattle.file_journal.specs.Refusals.{journal_says}

pub stopped_as : {T : Type 0} (r : Result T JournalFault) (stop : Interruption) → IsErrAnd r (λ e. journal_says e ≡ Stops stop) → outcome_by journal_says r ≡ stop_outcome stop
stopped_as (Ok x) stop h = absurd h
stopped_as (Err e) stop h = ap told_outcome h

pub few_runs : (n most : ℕ) (e f : Outcome) (p q : Panel) → n ≤ most → f ≡ e → Runs (commit_calls (5 + n)) (commit_persists (5 + n)) e p q → Runs (commit_calls (5 + most)) (commit_persists (5 + most)) f p q
few_runs n most e f p q few is x =
    subst (λ (o : Outcome). Runs (commit_calls (5 + most)) (commit_persists (5 + most)) o p q) (sym is)
    (runs_within _ _ (commit_calls (5 + most)) (commit_persists (5 + most)) e p q x (omega arith) (omega arith))
