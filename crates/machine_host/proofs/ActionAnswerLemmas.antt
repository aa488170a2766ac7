-- How refusals by the actions on a file are answered.
use Rattle.std.proofs.Common.{◌≡◌, ◌≤◌, ℕ, None, List, refl, arith}
use Rattle.line_words.specs.Told.Told.{Starves}
use Rattle.file_actions.specs.Refusals.{ActionRefusal, action_says}
use Rattle.file_actions.specs.Refusals.ActionRefusal.{Range, Length, Limit, Overlap, Full, Meta, Poison}
use Rattle.file_actions.specs.declared.fault.ActionFault.{ActionFault}
use Rattle.file_actions.specs.declared.fault.ActionFault.TheVariants as fault
use Rattle.reply_text.specs.Answer.{IsPrintable}
use Rattle.reply_text.specs.Room.{most_of}
use Rattle.machine_model.specs.Interrupted.{stop_in}
use Rattle.machine_model.specs.OnFileActions.{action_answer}
use Rattle.machine_host.proofs.CallLemmas.{IsPart}

never_starves : (f : ActionFault) → action_says f ≡ Starves → ⊥
never_starves fault.Range e = cc e
never_starves fault.Length e = cc e
never_starves fault.Limit e = cc e
never_starves fault.Overlap e = cc e
never_starves fault.Full e = cc e
never_starves (fault.Meta line) e = cc e
never_starves (fault.Poison offset) e = cc e
never_starves fault.Device e = cc e
never_starves fault.PowerLost e = cc e

module _ (name : List ℕ) where
  no_stop : (w : ActionRefusal) → stop_in (action_answer name w) ≡ None
  no_stop Range = refl
  no_stop Length = refl
  no_stop Limit = refl
  no_stop Overlap = refl
  no_stop Full = refl
  no_stop (Meta line) = refl
  no_stop (Poison offset) = refl

  short_refusal : (w : ActionRefusal) → most_of (action_answer name w) ≤ 72
  short_refusal Range = omega arith
  short_refusal Length = omega arith
  short_refusal Limit = omega arith
  short_refusal Overlap = omega arith
  short_refusal Full = omega arith
  short_refusal (Meta line) = omega arith
  short_refusal (Poison offset) = omega arith

  printable_refusal : (w : ActionRefusal) → IsPrintable (action_answer name w)
  printable_refusal Range = tt
  printable_refusal Length = tt
  printable_refusal Limit = tt
  printable_refusal Overlap = tt
  printable_refusal Full = tt
  printable_refusal (Meta line) = tt
  printable_refusal (Poison offset) = tt

  pub actions_part : IsPart action_says (action_answer name)
  actions_part = record { printable = printable_refusal; quiet = no_stop; short = short_refusal; fed = never_starves }
