-- Where the power went: some place of the cut has the storage that is left, and what is interrupted.
use Rattle.std.proofs.Common.{◌≡◌, ◌⊎◌, inl, inr, Bool, true, false, ◌||◌, Option, Some, None, List, [], ◌∷◌, ◌++◌, IsTrue, refl, sym, ap, subst, ◌∙◌}
use Rattle.std.specs.List.{list_any}
use Rattle.std.proofs.lemmas.Bool.{both_ways}
use Rattle.std.proofs.lemmas.List.Folds.{list_any-append}
use Rattle.line_words.specs.declared.interruption.Interruption.{Interruption}
use Rattle.line_words.specs.declared.interruption.Interruption.TheVariants.{Failed, PowerLost as Lost}
use Rattle.reply_text.specs.Answer.{Answer}
use Rattle.script_text.specs.Action.{Action}
use Rattle.script_text.specs.Action.Action.{Cut}
use Rattle.script_text.specs.Script.{Input}
use Rattle.script_text.specs.Script.Input.{Skipped, Malformed, Overlong, Asked}
use Rattle.machine_model.specs.declared.mode.Mode.TheVariants.{On, Off}
use Rattle.machine_model.specs.declared.needs.Needs.TheVariants.{Powered, Usable}
use Rattle.machine_model.specs.Machine.{Machine, Fate}
use Rattle.machine_model.specs.Machine.Fate.{Gives, Works, Orders, Cuts, Restarts, Recovers}
use Rattle.machine_model.specs.Commands.{fate, meaning, refusal, unless_refused, while_interrupted}
use Rattle.machine_model.specs.Interrupted.{Interrupts}
use Rattle.machine_model.specs.Meaning.{first_reason, mode_refusal}
use Rattle.machine_model.specs.Run.{Run, Takes, Transcript}
use Rattle.durable.specs.Durable.{IsComplete}
use Rattle.durable.proofs.WholeLemmas.{whole-heard}
use Rattle.outcomes.specs.Finds.{IsReady}
use Rattle.outcomes.specs.Stops.{IsProgram, inside, is_of_program, led_to, stops}
use Rattle.outcomes.proofs.FollowLemmas.{Follows, Idles, Keeps, Rests, of_program, rests}

-- there is no power, and of the storage is left what that place of the cut has
pub record Leaves (place off : Machine) : Type 0 where
  pub geometry : off.geometry ≡ place.geometry
  pub blocks : off.blocks ≡ place.blocks
  pub volume : off.volume ≡ place.volume
  pub files : off.files ≡ place.files
  pub mappings : off.mappings ≡ place.mappings
  pub interrupted : off.interrupted ≡ place.interrupted
  pub metadata : off.bad_meta ≡ []
  pub mode : off.mode ≡ Off

-- where power is off, what needs it is refused
refused_off : (h : Machine) (action : Action) → h.mode ≡ Off → ((meaning action).needs ≡ Usable) ⊎ ((meaning action).needs ≡ Powered)
    → (answer : Answer) × (refusal h action ≡ Some answer)
unfolding refusal
refused_off h action off (inl needs) = (
  _,
  ap (λ m. first_reason (mode_refusal m h.bad_meta (meaning action).needs) h.bad_meta ((meaning action).reasons h)) off
      ∙ ap (λ n. first_reason (mode_refusal Off h.bad_meta n) h.bad_meta ((meaning action).reasons h)) needs,
)
refused_off h action off (inr needs) = (
  _,
  ap (λ m. first_reason (mode_refusal m h.bad_meta (meaning action).needs) h.bad_meta ((meaning action).reasons h)) off
      ∙ ap (λ n. first_reason (mode_refusal Off h.bad_meta n) h.bad_meta ((meaning action).reasons h)) needs,
)

-- a refusal leaves all as it was
stays : (h : Machine) (action : Action) (answer : Answer) (said : Transcript) (next : Machine) → refusal h action ≡ Some answer
    → Takes h action (fate h action) said next → next ≡ h
stays h action answer said next is takes = (subst (λ o. Takes h action (unless_refused h o ((meaning action).comes h)) said next) is takes).1

rests_at : (h to next : Machine) → next ≡ to → Rests h to → Rests h next
rests_at h to next is at = subst (Rests h) (sym is) at

then_rests : (h to next : Machine) → Rests h to → Rests to next → Rests h next
then_rests h to next one other = record {
  geometry = other.geometry ∙ one.geometry;
  blocks = other.blocks ∙ one.blocks;
  volume = other.volume ∙ one.volume;
  files = other.files ∙ one.files;
  mappings = other.mappings ∙ one.mappings;
  interrupted = other.interrupted ∙ one.interrupted;
  metadata = other.metadata ∙ one.metadata;
  mode = other.mode ∙ one.mode;
}

-- what makes no call
idle_rests : (h : Machine) (action : Action) (to : Fate) (said : Transcript) (next : Machine) → Idles h to → Takes h action to said next → Rests h next
idle_rests h action (Gives answer to) said next idle takes = rests_at h to next takes.1 idle
idle_rests h action (Works answer to) said next idle takes = absurd idle
idle_rests h action (Orders order to) said next idle takes = rests_at h to next takes.1 idle
idle_rests h action (Cuts to) said next idle takes = absurd idle
idle_rests h action (Restarts choice) said next idle takes = absurd idle
idle_rests h action Recovers said next idle takes = absurd idle

-- without power no command of a program changes the storage
off_step : (h : Machine) (action : Action) (said : Transcript) (next : Machine) → h.mode ≡ Off → IsTrue (is_of_program action)
    → Takes h action (fate h action) said next → Rests h next
off_step h action said next off is takes = by_needs (of_program h action is).1
  where
    by_refusal : (o : Option Answer) → Idles h ((meaning action).comes h) → Takes h action (unless_refused h o ((meaning action).comes h)) said next → Rests h next
    by_refusal None idle took = idle_rests h action ((meaning action).comes h) said next idle took
    by_refusal (Some answer) idle took = rests_at h h next took.1 (rests h)

    by_needs : ((meaning action).needs ≡ Usable) ⊎ Idles h ((meaning action).comes h) → Rests h next
    by_needs (inl usable) =
        let refused = refused_off h action off (inl usable) in
        rests_at h h next (stays h action refused.0 said next refused.1 takes) (rests h)
    by_needs (inr idle) = by_refusal (refusal h action) idle takes

off_run : (before after : List Input) (h : Machine) (said : Transcript) (next : Machine) → h.mode ≡ Off → IsProgram (before ++ after)
    → Run h (before ++ Asked Cut ∷ []) said next → Rests h next
off_run [] after h said next off program run =
    let refused = refused_off h Cut off (inr refl) in
    let at = stays h Cut refused.0 run.0 run.2 refused.1 run.4 in
    rests_at h h next (run.5.1 ∙ at) (rests h)
off_run (Skipped ∷ before) after h said next off program run =
    subst (λ m. Rests m next) run.4.1 (off_run before after run.2 run.1 next (ap (λ m. m.mode) run.4.1 ∙ off) program run.5)
off_run (Malformed ∷ before) after h said next off program run =
    subst (λ m. Rests m next) run.4.1 (off_run before after run.2 run.1 next (ap (λ m. m.mode) run.4.1 ∙ off) program run.5)
off_run (Overlong ∷ before) after h said next off program run =
    subst (λ m. Rests m next) run.4.1 (off_run before after run.2 run.1 next (ap (λ m. m.mode) run.4.1 ∙ off) program run.5)
off_run (Asked action ∷ before) after h said next off program run =
    let one = off_step h action run.0 run.2 off program.0 run.4 in
    then_rests h run.2 next one (off_run before after run.2 run.1 next (one.mode ∙ off) program.1 run.5)

-- a cut between two commands
pub on_cut : (h : Machine) → h.mode ≡ On → refusal h Cut ≡ None
unfolding refusal
on_cut h on = ap (λ m. first_reason (mode_refusal m h.bad_meta (meaning Cut).needs) h.bad_meta ((meaning Cut).reasons h)) on

cut_leaves : (h off : Machine) (said : Transcript) → IsReady h → Run h (Asked Cut ∷ []) said off → Leaves h off
cut_leaves h off said ready run =
    let took = subst (λ o. Takes h Cut (unless_refused h o ((meaning Cut).comes h)) run.0 run.2) (on_cut h ready.mode) run.4 in
    let is = run.5.1 ∙ took.1 in
    record {
      geometry = ap (λ m. m.geometry) is;
      blocks = ap (λ m. m.blocks) is;
      volume = ap (λ m. m.volume) is;
      files = ap (λ m. m.files) is;
      mappings = ap (λ m. m.mappings) is;
      interrupted = ap (λ m. m.interrupted) is;
      metadata = ap (λ m. m.bad_meta) is ∙ ready.metadata;
      mode = ap (λ m. m.mode) is;
    }

-- a cut inside a command
lost_leaves : (h next off : Machine) (action : Action) → IsReady h → Interrupts Lost (while_interrupted h action) next → Rests next off
    → Leaves (while_interrupted h action) off
lost_leaves h next off action ready lost at = record {
  geometry = at.geometry ∙ ap (λ m. m.geometry) lost.state;
  blocks = at.blocks ∙ ap (λ m. m.blocks) lost.state;
  volume = at.volume ∙ ap (λ m. m.volume) lost.state;
  files = at.files ∙ ap (λ m. m.files) lost.state;
  mappings = at.mappings ∙ ap (λ m. m.mappings) lost.state;
  interrupted = at.interrupted ∙ ap (λ m. m.interrupted) lost.state;
  metadata = at.metadata ∙ ap (λ m. m.bad_meta) lost.state ∙ ready.metadata;
  mode = at.mode ∙ ap (λ m. m.mode) lost.state;
}

pub ready_at : (h to : Machine) → IsReady h → IsComplete to → Keeps h to → IsReady to
ready_at h to ready whole kept = record {
  whole = whole;
  unit = kept.unit ∙ ready.unit;
  mode = kept.mode ∙ ready.mode;
  settled = kept.interrupted ∙ ready.settled;
  metadata = kept.metadata ∙ ready.metadata;
  failures = kept.failures ∙ ready.failures;
}

module _ (test : Machine → Bool) where
  -- a test that the state passes, or another place
  pub first_stop : (program : List Input) (h : Machine) → test h ≡ true → list_any test (stops h program) ≡ true
  first_stop [] h is = ap (λ b. b || false) is
  first_stop (Skipped ∷ program) h is = first_stop program h is
  first_stop (Malformed ∷ program) h is = first_stop program h is
  first_stop (Overlong ∷ program) h is = first_stop program h is
  first_stop (Asked action ∷ program) h is = ap (λ b. b || list_any test (inside h action (fate h action) ++ stops (led_to h (fate h action)) program)) is

  or_true : (b : Bool) → b || true ≡ true
  or_true true = refl
  or_true false = refl

  later : (h : Machine) (some rest : List Machine) → list_any test rest ≡ true → list_any test (h ∷ some ++ rest) ≡ true
  later h some rest is =
      ap (λ b. test h || b) (list_any-append test some rest ∙ ap (λ b. list_any test some || b) is ∙ or_true (list_any test some)) ∙ or_true (test h)

  -- or_true of a fate that has an inside
  within : (h place : Machine) (rest : List Machine) → test place ≡ true → list_any test (h ∷ (place ∷ []) ++ rest) ≡ true
  within h place rest is = ap (λ b. test h || (b || list_any test rest)) is ∙ or_true (test h)

  -- what passes at each place that a cut may leave passes at one of them
  pub stop_of : (before after : List Input) (h off : Machine) (said : Transcript) → IsReady h → IsProgram (before ++ after)
      → Run h (before ++ Asked Cut ∷ []) said off → ((place : Machine) → Leaves place off → test place ≡ true) → list_any test (stops h (before ++ after)) ≡ true
  stop_of [] after h off said ready program run passes = first_stop after h (passes h (cut_leaves h off said ready run))
  stop_of (Skipped ∷ before) after h off said ready program run passes =
      stop_of before after h off run.1 ready program (subst (λ m. Run m (before ++ Asked Cut ∷ []) run.1 off) run.4.1 run.5) passes
  stop_of (Malformed ∷ before) after h off said ready program run passes =
      stop_of before after h off run.1 ready program (subst (λ m. Run m (before ++ Asked Cut ∷ []) run.1 off) run.4.1 run.5) passes
  stop_of (Overlong ∷ before) after h off said ready program run passes =
      stop_of before after h off run.1 ready program (subst (λ m. Run m (before ++ Asked Cut ∷ []) run.1 off) run.4.1 run.5) passes
  stop_of (Asked action ∷ before) after h off said ready program run passes =
      by_refusal (λ to there rest. stop_of before after to off run.1 there program.1 rest passes) (refusal h action) run.4
    where
      next : Machine
      next = run.2

      whole : IsComplete next
      whole = whole-heard h (Asked action) run.0 next ready.whole run.4

      Others : Type 0
      Others = (to : Machine) → IsReady to → Run to (before ++ Asked Cut ∷ []) run.1 off → list_any test (stops to (before ++ after)) ≡ true

      goes_on : Others → (to : Machine) → Keeps h to → next ≡ to → list_any test (stops to (before ++ after)) ≡ true
      goes_on others to kept is =
          others to (ready_at h to ready (subst IsComplete is whole) kept) (subst (λ m. Run m (before ++ Asked Cut ∷ []) run.1 off) is run.5)

      inside_of : (by : Interruption) → Interrupts by (while_interrupted h action) next → test (while_interrupted h action) ≡ true
      inside_of Failed came = absurd (both_ways h.fail_armed ready.failures came.armed)
      inside_of Lost came = passes (while_interrupted h action) (lost_leaves h next off action ready came
          (off_run before after next run.1 off (ap (λ m. m.mode) came.state) program.1 run.5))

      by_fate : Others → (to : Fate) → Follows h to → Takes h action to run.0 next → list_any test (h ∷ inside h action to ++ stops (led_to h to) (before ++ after)) ≡ true
      by_fate others (Gives answer to) follows takes = later h [] (stops to (before ++ after)) (goes_on others to follows takes.1)
      by_fate others (Works answer to) follows takes = elim takes.2 as (λ _. list_any test (h ∷ inside h action (Works answer to) ++ stops to (before ++ after)) ≡ true) [
        | inl end ↦ later h (while_interrupted h action ∷ []) (stops to (before ++ after)) (goes_on others to follows end.1)
        | inr end ↦ within h (while_interrupted h action) (stops to (before ++ after)) (inside_of end.0 end.2)
      ]
      by_fate others (Orders order to) follows takes = later h [] (stops to (before ++ after)) (goes_on others to follows takes.1)
      by_fate others (Cuts to) follows takes = absurd follows
      by_fate others (Restarts choice) follows takes = absurd follows
      by_fate others Recovers follows takes = absurd follows

      by_refusal : Others → (o : Option Answer) → Takes h action (unless_refused h o ((meaning action).comes h)) run.0 next
          → list_any test (h ∷ inside h action (unless_refused h o ((meaning action).comes h)) ++ stops (led_to h (unless_refused h o ((meaning action).comes h))) (before ++ after)) ≡ true
      by_refusal others None takes = by_fate others ((meaning action).comes h) (of_program h action program.0).0 takes
      by_refusal others (Some answer) takes = by_fate others (Gives answer h) (record { unit = refl; mode = refl; interrupted = refl; metadata = refl; failures = refl; armed = λ on. on }) takes
