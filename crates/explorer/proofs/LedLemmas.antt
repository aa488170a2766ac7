-- What the state that lines of a program lead to keeps.
use Rattle.std.proofs.Common.{◌≡◌, inl, true, IsTrue, Option, Some, None, List, [], ◌∷◌, refl, sym, ap, ◌∙◌}
use Rattle.reply_text.specs.Answer.{Answer}
use Rattle.reply_text.specs.Answer.Answer.{Done, Refused}
use Rattle.reply_text.specs.declared.reply.Why.TheVariants.{Syntax, TooLong}
use Rattle.script_text.specs.Action.{Action}
use Rattle.script_text.specs.Script.{Input}
use Rattle.script_text.specs.Script.Input.{Skipped, Malformed, Overlong, Asked}
use Rattle.cut_places.specs.MachineModel.Machine.{Machine, Fate}
use Rattle.cut_places.specs.MachineModel.Machine.Fate.{Gives, Works, Orders, Cuts, Restarts, Recovers}
use Rattle.cut_places.specs.MachineModel.Commands.{fate, meaning, refusal, spending, unless_refused}
use Rattle.cut_places.specs.MachineModel.Run.{Hears, Run, Takes, Transcript, answered, followed_by, silence, with_order, worked}
use Rattle.cut_places.specs.Outcomes.Finds.{IsReady, armed}
use Rattle.cut_places.specs.Outcomes.Stops.{IsProgram, is_of_program, led_to}
use Rattle.cut_places.proofs.Durable.WholeLemmas.{whole-heard}
use Rattle.cut_places.proofs.Outcomes.FollowLemmas.{Follows, Keeps, of_program}
use Rattle.cut_places.proofs.SightsSeen.SizeLemmas.{geometry_stays}
use Rattle.value_tables.specs.Listed.{IsSound}
use Rattle.value_tables.specs.OutcomeRuns.Kept.{IsKept}
use Rattle.value_tables.proofs.SoundLemmas.{next}
use Rattle.explorer.specs.Leading.{led_through}

-- one command
module _ (h : Machine) (action : Action) where
  geometry_next : (led_to h (fate h action)).geometry ≡ h.geometry
  geometry_next = by_refusal (refusal h action)
    where
      by_refusal : (o : Option Answer) → (led_to h (unless_refused h o ((meaning action).comes h))).geometry ≡ h.geometry
      by_refusal None = geometry_stays h action
      by_refusal (Some why) = refl

  module _ (program : IsTrue (is_of_program action)) where
    follows_fate : Follows h (fate h action)
    follows_fate = by_refusal (refusal h action)
      where
        by_refusal : (o : Option Answer) → Follows h (unless_refused h o ((meaning action).comes h))
        by_refusal None = (of_program h action program).0
        by_refusal (Some why) = record { unit = refl; mode = refl; interrupted = refl; metadata = refl; failures = refl; armed = λ on. on }

    keeps_next : Keeps h (led_to h (fate h action))
    keeps_next = by_fate (fate h action) follows_fate
      where
        by_fate : (to : Fate) → Follows h to → Keeps h (led_to h to)
        by_fate (Gives answer to) follows = follows
        by_fate (Works answer to) follows = follows
        by_fate (Orders order to) follows = follows
        by_fate (Cuts to) follows = absurd follows
        by_fate (Restarts choice) follows = absurd follows
        by_fate Recovers follows = absurd follows

    -- a run comes to it
    heard : (said : Transcript) × Hears h (Asked action) said (led_to h (fate h action))
    heard = by_fate (fate h action) follows_fate
      where
        by_fate : (to : Fate) → Follows h to → (said : Transcript) × Takes h action to said (led_to h to)
        by_fate (Gives answer to) follows = (answered answer, (refl, refl))
        by_fate (Works answer to) follows = (worked (spending h action) answer, (answer, refl, inl (refl, refl)))
        by_fate (Orders order to) follows = (with_order order Done, (refl, refl))
        by_fate (Cuts to) follows = absurd follows
        by_fate (Restarts choice) follows = absurd follows
        by_fate Recovers follows = absurd follows

    ready_next : IsReady h → IsReady (led_to h (fate h action))
    ready_next ready =
        let kept = keeps_next in
        let taken = heard in record {
          whole = whole-heard h (Asked action) taken.0 (led_to h (fate h action)) ready.whole taken.1;
          mode = kept.mode ∙ ready.mode;
          settled = kept.interrupted ∙ ready.settled;
          metadata = kept.metadata ∙ ready.metadata;
          unit = kept.unit ∙ ready.unit;
          failures = kept.failures ∙ ready.failures;
        }

-- a run after one input
behind : (h : Machine) (input : Input) (inputs : List Input) (first : Transcript) (next : Machine) → Hears h input first next
    → (said : Transcript) × Run next inputs said (led_through next inputs) → (said : Transcript) × Run h (input ∷ inputs) said (led_through next inputs)
behind h input inputs first next hears rest = (followed_by first rest.0, (first, rest.0, next, refl, hears, rest.1))

-- what each command of a program keeps, lines keep
pub led_keeps : (P : Machine → Type 0) → ((h : Machine) (action : Action) → IsTrue (is_of_program action) → P h → P (led_to h (fate h action)))
    → (inputs : List Input) (h : Machine) → IsProgram inputs → P h → P (led_through h inputs)
led_keeps P each [] h program is = is
led_keeps P each (Skipped ∷ inputs) h program is = led_keeps P each inputs h program is
led_keeps P each (Malformed ∷ inputs) h program is = led_keeps P each inputs h program is
led_keeps P each (Overlong ∷ inputs) h program is = led_keeps P each inputs h program is
led_keeps P each (Asked action ∷ inputs) h program is = led_keeps P each inputs (led_to h (fate h action)) program.1 (each h action program.0 is)

-- the state is of the same sizes, ready, and sound
pub geometry_led : (h : Machine) (inputs : List Input) → IsProgram inputs → (led_through h inputs).geometry ≡ h.geometry
geometry_led h inputs program = led_keeps (λ m. m.geometry ≡ h.geometry) (λ m action of same. geometry_next m action ∙ same) inputs h program refl

pub ready_led : (h : Machine) (inputs : List Input) → IsProgram inputs → IsReady h → IsReady (led_through h inputs)
ready_led h inputs program ready = led_keeps IsReady ready_next inputs h program ready

pub sound_led : (h : Machine) (inputs : List Input) → IsProgram inputs → IsReady h → IsSound h → IsSound (led_through h inputs)
sound_led h inputs program ready sound =
    (led_keeps (λ m. IsReady m × IsSound m) (λ m action of is. next m action is.0 is.1 of) inputs h program (ready, sound)).1

-- a cut that is armed is so still
pub armed_led : (h : Machine) (inputs : List Input) → IsProgram inputs → armed (led_through (armed h) inputs) ≡ led_through (armed h) inputs
armed_led h inputs program =
    let to = led_through (armed h) inputs in
    let on : to.cut_armed ≡ true = led_keeps (λ m. m.cut_armed ≡ true) (λ m action of was. (keeps_next m action of).armed was) inputs (armed h) program refl in
    ap (λ b. record to { cut_armed = b }) (sym on)

-- a run comes to it
pub run_led : (inputs : List Input) (h : Machine) → IsProgram inputs → (said : Transcript) × Run h inputs said (led_through h inputs)
run_led [] h program = (silence, (refl, refl))
run_led (Skipped ∷ inputs) h program = behind h Skipped inputs silence h (refl, refl) (run_led inputs h program)
run_led (Malformed ∷ inputs) h program = behind h Malformed inputs (answered (Refused Syntax)) h (refl, refl) (run_led inputs h program)
run_led (Overlong ∷ inputs) h program = behind h Overlong inputs (answered (Refused TooLong)) h (refl, refl) (run_led inputs h program)
run_led (Asked action ∷ inputs) h program =
    let first = heard h action program.0 in
    let next = led_to h (fate h action) in
    behind h (Asked action) inputs first.0 next first.1 (run_led inputs next program.1)

-- storage of which an image can be made is so where a cut is armed
pub kept_armed : (h : Machine) → IsKept h → IsKept (armed h)
kept_armed h kept = record { valid = kept.valid; blocks = kept.blocks; values = kept.values; file_values = kept.file_values; listed = kept.listed }
