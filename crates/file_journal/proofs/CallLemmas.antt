-- What a refused call on files promises.
use Rattle.std.proofs.Common.{ℕ, Option, Result, Ok, Err, refl, sym, ◌∙◌, ap, subst, arith}
use Rattle.line_device.specs.Device.{Device}
use Rattle.line_device.specs.Panel.{Runs}
use Rattle.line_device.specs.Panel.Outcome.{went}
use Rattle.line_device.proofs.PanelLemmas.{runs-refl, runs_within}
use Rattle.line_words.specs.Told.{Answers, OnWorked, is_done}
use Rattle.line_words.proofs.FrameLemmas.{outside-refl}
use Rattle.line_words.proofs.ToldLemmas.{refused_went}
use Rattle.word_log.specs.Changes.{commit_calls, commit_persists}
use Rattle.file_journal.specs.declared.fault.JournalFault.{JournalFault}
use Rattle.file_journal.specs.Calls.{ChangesFiles, IsReady}
use Rattle.file_journal.specs.Object.{JournalState}
use Rattle.file_journal.specs.Refusals.{JournalRefusal, journal_says}
use Rattle.file_journal.specs.Tables.{Tables}

-- A refused call changes nothing.
pub refused_changes : {D T : Type 0} (state : D → Device) (s : JournalState) (dev : D) (result : Result T JournalFault) (why : Option JournalRefusal) (tables : Tables) (named words : ℕ)
    → Answers journal_says why result → OnWorked journal_says result ⊥ → IsReady s (state dev) → ChangesFiles state s s dev dev result why tables named words
refused_changes state s dev (Ok x) why tables named words answers refused ready = absurd refused
refused_changes state s dev (Err fault) why tables named words answers refused ready =
    let panel = (state dev).panel in
    let is = refused_went (journal_says fault) refused in
    record {
      refused = answers;
      untouched = λ _. (refl, refl);
      ok = tt;
      images = λ stop. absurd (refused stop);
      outside = outside-refl _ _;
      serves = λ _. ready.serves;
      object = (refl, ready.settled ∙ sym (ap is_done is));
      units = tt;
      runs = subst (λ o. Runs (commit_calls words) (commit_persists words) o panel panel) (sym is) (runs_within 0 0 _ _ went panel panel (runs-refl panel) (omega arith) (omega arith));
    }
