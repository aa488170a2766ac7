-- What a step and a run tell.
use Rattle.std.proofs.Common.{◌≡◌, ◌⊎◌, inl, inr, true, false, Option, Some, None, List, [], ◌∷◌, ◌++◌, drop, refl, sym, ap, subst, ◌∙◌}
use Rattle.std.specs.Prelude.{◌≢◌, ℕ}
use Rattle.line_words.specs.declared.interruption.Interruption.{Interruption}
use Rattle.line_words.specs.declared.interruption.Interruption.TheVariants.{Failed, PowerLost as Lost}
use Rattle.nvm_model.specs.Storage.{Event}
use Rattle.reply_text.specs.Answer.{Answer}
use Rattle.reply_text.specs.Answer.Answer.{Done}
use Rattle.script_text.specs.Action.{Action}
use Rattle.script_text.specs.Action.Action.{NextEvent}
use Rattle.script_text.specs.Script.Input.{Asked}
use Rattle.machine_model.specs.Commands.{meaning, refusal, unless_refused, while_interrupted}
use Rattle.machine_model.specs.Interrupted.{Interrupts, interrupted_answer}
use Rattle.machine_model.specs.declared.mode.Mode.{Mode}
use Rattle.machine_model.specs.declared.mode.Mode.TheVariants.{On}
use Rattle.machine_model.specs.declared.needs.Needs.TheVariants.{Usable}
use Rattle.machine_model.specs.Meaning.{first_reason, mode_refusal}
use Rattle.machine_model.specs.Machine.{Fate, Machine, bad_of}
use Rattle.machine_model.specs.Machine.Fate.{Gives, Works, Orders, Cuts, Restarts, Recovers}
use Rattle.machine_model.specs.OnEvents.{told_event}
use Rattle.machine_model.specs.Restarting.{answer_with, mounted_answer, restarted}
use Rattle.machine_model.specs.Run.{Hears, Takes, Transcript}
use Rattle.durable.specs.Events.{AreMounted, Mounts, TellsLines, TellsOldest, all_told, told_by}
use Rattle.durable.specs.Files.{IsStopped, changes_files}
use Rattle.durable.proofs.EventLemmas.{interrupted_silent, refused_silent, unchanged}
use Rattle.durable.proofs.RefusalLemmas.{is_on, refused_told}
use Rattle.durable.proofs.TellingLemmas.{KeepsAt, TellsAt, keeps, tells}

-- what mounts are answered that were done, or stopped on the way
mounted_is : (m : Machine) (answer : Answer) → answer ≡ mounted_answer m → AreMounted (answer ∷ [])
mounted_is m answer is = by_list m.bad_meta is
  where
    by_list : (lines : List ℕ) → answer ≡ answer_with lines m → AreMounted (answer ∷ [])
    by_list [] is = inl (bad_of m, ap (λ (a : Answer). a ∷ []) is)
    by_list (line ∷ lines) is = inr (line, ap (λ (a : Answer). a ∷ []) is)

stopped_is : (by : Interruption) (answer : Answer) → answer ≡ interrupted_answer by → IsStopped (answer ∷ [])
stopped_is Failed answer is = inl (ap (λ (a : Answer). a ∷ []) is)
stopped_is Lost answer is = inr (ap (λ (a : Answer). a ∷ []) is)

-- a command that mounts, or tells as it should
pub record Told (h : Machine) (action : Action) (said : Transcript) (next : Machine) : Type 0 where
  pub answer : Answer
  pub answers : said.answers ≡ answer ∷ []
  pub tells : Mounts action (answer ∷ []) ⊎ TellsLines h (answer ∷ []) next

interrupted : (h m next : Machine) (by : Interruption) (answer : Answer) → m.events ≡ h.events → m.files ≡ h.files → answer ≡ interrupted_answer by → Interrupts by m next
    → TellsLines h (answer ∷ []) next
interrupted h m next by answer events files is at =
    unchanged h next answer (ap told_by is ∙ interrupted_silent by) (ap (λ m. m.events) at.state ∙ events) (ap (λ m. m.files) at.state ∙ files)

by_fate : (h : Machine) (action : Action) (f : Fate) (said : Transcript) (next : Machine) → TellsAt h action f → Takes h action f said next → Told h action said next
by_fate h action (Gives good to) said next tells takes =
    record { answer = good; answers = ap (λ s. s.answers) takes.0; tells = inr (subst (TellsLines h (good ∷ [])) (sym takes.1) tells) }
by_fate h action (Works good to) said next tells takes = record {
  answer = takes.0;
  answers = ap (λ s. s.answers) takes.1;
  tells = inr (elim takes.2 as (λ _. TellsLines h (takes.0 ∷ []) next) [
    | inl end ↦ subst (λ (a : Answer). TellsLines h (a ∷ []) next) (sym end.0) (subst (TellsLines h (good ∷ [])) (sym end.1) tells)
    | inr end ↦ interrupted h (while_interrupted h action) next end.0 takes.0 refl refl end.1 end.2
  ]);
}
by_fate h action (Orders order to) said next tells takes =
    record { answer = Done; answers = ap (λ s. s.answers) takes.0; tells = inr (subst (TellsLines h (Done ∷ [])) (sym takes.1) tells) }
by_fate h action (Cuts to) said next tells takes =
    record { answer = Done; answers = ap (λ s. s.answers) takes.0; tells = inr (subst (TellsLines h (Done ∷ [])) (sym takes.1) tells) }
by_fate h action (Restarts choice) said next is takes = record {
  answer = takes.1;
  answers = ap (λ s. s.answers) takes.2;
  tells = inl (inl (
    choice,
    is,
    elim takes.5 as (λ _. AreMounted (takes.1 ∷ []) ⊎ IsStopped (takes.1 ∷ [])) [
      | inl end ↦ inl (mounted_is (restarted h takes.0.image) takes.1 end.0)
      | inr end ↦ inr (stopped_is end.0 takes.1 end.1)
    ],
  ));
}
by_fate h action Recovers said next is takes = record {
  answer = takes.0;
  answers = ap (λ s. s.answers) takes.1;
  tells = elim takes.2 as (λ _. Mounts action (takes.0 ∷ []) ⊎ TellsLines h (takes.0 ∷ []) next) [
    | inl end ↦ inl (inr (is, mounted_is next takes.0 end.0))
    | inr end ↦ inr (interrupted h h next end.0 takes.0 refl refl end.1 end.2)
  ];
}

pub told : (h next : Machine) (action : Action) (said : Transcript) → Hears h (Asked action) said next → changes_files action ≡ false → Told h action said next
told h next action said heard stay = by_refusal (refusal h action) refl heard
  where
    by_refusal : (o : Option Answer) → refusal h action ≡ o → Takes h action (unless_refused h o ((meaning action).comes h)) said next → Told h action said next
    by_refusal None is takes = by_fate h action ((meaning action).comes h) said next (tells h action is stay) takes
    by_refusal (Some answer) is takes = record {
      answer = answer;
      answers = ap (λ s. s.answers) takes.0;
      tells = inr (unchanged h next answer (refused_silent answer (refused_told h action answer is)) (ap (λ m. m.events) takes.1) (ap (λ m. m.files) takes.1));
    }

pub noted : (h next : Machine) (action : Action) (said : Transcript) → Hears h (Asked action) said next → changes_files action ≡ false → (Mounts action said.answers → ⊥)
    → TellsLines h said.answers next
noted h next action said heard stay mounts =
    let step = told h next action said heard stay in
    elim step.tells as (λ _. TellsLines h said.answers next) [
      | inl mount ↦ absurd (mounts (subst (Mounts action) (sym step.answers) mount))
      | inr lines ↦ subst (λ answers. TellsLines h answers next) (sym step.answers) lines
    ]

-- a change of which files there are
pub record Kept (h : Machine) (said : Transcript) (next : Machine) : Type 0 where
  pub answer : Answer
  pub answers : said.answers ≡ answer ∷ []
  pub silent : told_by answer ≡ []
  pub events : next.events ≡ h.events

kept_by : (h : Machine) (action : Action) (f : Fate) (said : Transcript) (next : Machine) → KeepsAt h f → Takes h action f said next → Kept h said next
kept_by h action (Gives good to) said next keeps takes =
    record { answer = good; answers = ap (λ s. s.answers) takes.0; silent = keeps.0; events = ap (λ m. m.events) takes.1 ∙ keeps.1 }
kept_by h action (Works good to) said next keeps takes =
    elim takes.2 as (λ _. Kept h said next) [
      | inl end ↦ record {
        answer = takes.0;
        answers = ap (λ s. s.answers) takes.1;
        silent = ap told_by end.0 ∙ keeps.0;
        events = ap (λ m. m.events) end.1 ∙ keeps.1;
      }
      | inr end ↦ record {
        answer = takes.0;
        answers = ap (λ s. s.answers) takes.1;
        silent = ap told_by end.1 ∙ interrupted_silent end.0;
        events = ap (λ m. m.events) end.2.state;
      }
    ]
kept_by h action (Orders order to) said next keeps takes =
    record { answer = Done; answers = ap (λ s. s.answers) takes.0; silent = refl; events = ap (λ m. m.events) takes.1 ∙ keeps }
kept_by h action (Cuts to) said next keeps takes =
    record { answer = Done; answers = ap (λ s. s.answers) takes.0; silent = refl; events = ap (λ m. m.events) takes.1 ∙ keeps }
kept_by h action (Restarts choice) said next keeps takes = absurd keeps
kept_by h action Recovers said next keeps takes = absurd keeps

pub kept : (h next : Machine) (action : Action) (said : Transcript) → Hears h (Asked action) said next → changes_files action ≡ true → Kept h said next
kept h next action said heard change = by_refusal (refusal h action) refl heard
  where
    by_refusal : (o : Option Answer) → refusal h action ≡ o → Takes h action (unless_refused h o ((meaning action).comes h)) said next → Kept h said next
    by_refusal None is takes = kept_by h action ((meaning action).comes h) said next (keeps h action change) takes
    by_refusal (Some answer) is takes = record {
      answer = answer;
      answers = ap (λ s. s.answers) takes.0;
      silent = refused_silent answer (refused_told h action answer is);
      events = ap (λ m. m.events) takes.1;
    }

pub renamed : (h next : Machine) (action : Action) (said : Transcript) → Hears h (Asked action) said next → changes_files action ≡ true → next.events ≡ h.events
renamed h next action said heard change = (kept h next action said heard change).events

-- the oldest event, or none
not_refused : (h : Machine) → h.mode ≡ On → refusal h NextEvent ≡ None
unfolding refusal
not_refused h on = ap (λ (mode : Mode). first_reason (mode_refusal mode h.bad_meta Usable) h.bad_meta ((meaning NextEvent).reasons h)) on

pub oldest : (h next : Machine) (said : Transcript) → h.mode ≡ On → Hears h (Asked NextEvent) said next
    → TellsOldest h.events said.answers next.events × (next ≡ record h { events = next.events })
oldest h next said on heard =
    let takes = subst (λ o. Takes h NextEvent (unless_refused h o ((meaning NextEvent).comes h)) said next) (not_refused h on) heard in (
      subst (λ answers. TellsOldest h.events answers next.events) (sym (ap (λ s. s.answers) takes.0))
          (subst (TellsOldest h.events (told_event h.events ∷ [])) (sym (ap (λ m. m.events) takes.1)) (by_events h.events)),
      takes.1 ∙ ap (λ es. record h { events = es }) (sym (ap (λ m. m.events) takes.1)),
    )
  where
    by_events : (events : List Event) → TellsOldest events (told_event events ∷ []) (drop 1 events)
    by_events [] = (refl, refl)
    by_events (event ∷ events) = (refl, refl)

pub untold : (h next : Machine) (said : Transcript) → h.mode ≢ On → Hears h (Asked NextEvent) said next → (next ≡ h) × (all_told said.answers ≡ [])
untold h next said off heard = by_refusal (refusal h NextEvent) refl heard
  where
    by_refusal : (o : Option Answer) → refusal h NextEvent ≡ o → Takes h NextEvent (unless_refused h o ((meaning NextEvent).comes h)) said next
        → (next ≡ h) × (all_told said.answers ≡ [])
    by_refusal None is takes = absurd (off (is_on h NextEvent refl is))
    by_refusal (Some answer) is takes =
        (takes.1, ap (λ (s : Transcript). all_told s.answers) takes.0 ∙ ap (λ es. es ++ []) (refused_silent answer (refused_told h NextEvent answer is)))
