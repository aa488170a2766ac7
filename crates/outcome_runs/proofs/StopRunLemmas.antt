-- Where a test of the places of a cut is true, a run comes to one where the power went and the test is true.
use Rattle.std.proofs.Common.{◌≡◌, inl, inr, Bool, true, false, ◌||◌, Option, Some, None, List, [], ◌∷◌, ◌++◌, refl, sym, ap, subst, ◌∙◌}
use Rattle.std.specs.List.{list_any}
use Rattle.line_words.specs.declared.interruption.Interruption.TheVariants.{PowerLost as Lost}
use Rattle.reply_text.specs.declared.reply.Why.TheVariants as because
use Rattle.reply_text.specs.declared.reply.Why.TheVariants.{Syntax, TooLong}
use Rattle.reply_text.specs.Answer.{Answer}
use Rattle.reply_text.specs.Answer.Answer.{Done, PowerLost, Refused}
use Rattle.script_text.specs.Action.{Action}
use Rattle.script_text.specs.Action.Action.{Cut}
use Rattle.script_text.specs.Script.{Input}
use Rattle.script_text.specs.Script.Input.{Skipped, Malformed, Overlong, Asked}
use Rattle.machine_model.specs.declared.mode.Mode.TheVariants.{Off}
use Rattle.machine_model.specs.Machine.{Machine, Fate}
use Rattle.machine_model.specs.Machine.Fate.{Gives, Works, Orders, Cuts, Restarts, Recovers}
use Rattle.machine_model.specs.Commands.{meaning, refusal, spending, unless_refused, while_interrupted}
use Rattle.machine_model.specs.Interrupted.{Interrupts}
use Rattle.machine_model.specs.Meaning.{first_reason, mode_refusal}
use Rattle.machine_model.specs.Run.{Hears, Run, Takes, Transcript, answered, followed_by, silence, with_cut, with_order, worked}
use Rattle.durable.proofs.WholeLemmas.{whole-heard}
use Rattle.outcomes.specs.Finds.{IsReady}
use Rattle.outcomes.specs.Seen.{Seen, may_show}
use Rattle.outcomes.specs.Stops.{IsProgram, inside, led_to, stops}
use Rattle.outcomes.proofs.ChooseLemmas.{either}
use Rattle.outcomes.proofs.FollowLemmas.{Follows, Keeps, of_program}
use Rattle.outcomes.proofs.StopLemmas.{on_cut, ready_at}
use Rattle.outcome_runs.specs.Brings.{BringRight}
use Rattle.outcome_runs.specs.Kept.{IsKept}
use Rattle.outcome_runs.proofs.KeptLemmas.{MakesKept, MayMake, kept_step, makes_kept}
use Rattle.durable.proofs.UnsyncedLemmas.{off as without_power}

-- a state in which a program goes on, while the power may go
pub record GoesOn (h : Machine) : Type 0 where
  pub ready : IsReady h
  pub kept : IsKept h
  pub armed : h.cut_armed ≡ true

-- A run that comes to a state without power, which may show the look.
pub record Stopped (look : List Seen) (h : Machine) (program : List Input) : Type 0 where
  pub before : List Input
  pub after : List Input
  pub split : program ≡ before ++ after
  pub said : Transcript
  pub off : Machine
  pub ran : Run h (before ++ Asked Cut ∷ []) said off
  pub shows : may_show look off ≡ true
  pub kept : IsKept off
  pub makes : MayMake off off.interrupted
  pub metadata : off.bad_meta ≡ []
  pub mode : off.mode ≡ Off

-- a command that is refused, and one that is done
refused_heard : (h : Machine) (action : Action) (answer : Answer) → refusal h action ≡ Some answer → Hears h (Asked action) (answered answer) h
refused_heard h action answer is =
    subst (λ (o : Option Answer). Takes h action (unless_refused h o ((meaning action).comes h)) (answered answer) h) (sym is) (refl, refl)

done_heard : (h : Machine) (action : Action) (f : Fate) (said : Transcript) (next : Machine) → refusal h action ≡ None → (meaning action).comes h ≡ f
    → Takes h action f said next → Hears h (Asked action) said next
done_heard h action f said next done comes took =
    subst (λ (o : Option Answer). Takes h action (unless_refused h o ((meaning action).comes h)) said next) (sym done)
    (subst (λ (to : Fate). Takes h action to said next) (sym comes) took)

off_cut : (h : Machine) → h.mode ≡ Off → refusal h Cut ≡ Some (Refused because.Off)
unfolding refusal
off_cut h off = ap (λ m. first_reason (mode_refusal m h.bad_meta (meaning Cut).needs) h.bad_meta ((meaning Cut).reasons h)) off

kept_off : (h : Machine) → IsKept h → IsKept (without_power h)
kept_off h kept = record { valid = kept.valid; blocks = kept.blocks; values = kept.values; file_values = kept.file_values; listed = kept.listed }

kept_inside : (h : Machine) (action : Action) → IsKept h → IsKept (without_power (while_interrupted h action))
kept_inside h action kept = record { valid = kept.valid; blocks = kept.blocks; values = kept.values; file_values = kept.file_values; listed = kept.listed }

module _ (look : List Seen) where
  -- the power goes before the next command
  at_cut : (h : Machine) (program : List Input) → GoesOn h → may_show look h ≡ true → Stopped look h program
  at_cut h program goes is =
      let cut : Takes h Cut (Cuts (without_power h)) (with_cut Done) (without_power h) = (refl, refl) in
      record {
        before = [];
        after = program;
        split = refl;
        said = followed_by (with_cut Done) silence;
        off = without_power h;
        ran = (with_cut Done, silence, without_power h, refl, done_heard h Cut (Cuts (without_power h)) (with_cut Done) (without_power h) (on_cut h goes.ready.mode) refl cut, (refl, refl));
        shows = is;
        kept = kept_off h goes.kept;
        makes = subst (MayMake (without_power h)) (sym goes.ready.settled) tt;
        metadata = goes.ready.metadata;
        mode = refl;
      }

  -- it goes inside one
  at_inside : (h : Machine) (action : Action) (good : Answer) (to : Machine) (program : List Input) → GoesOn h → MakesKept h action → refusal h action ≡ None
      → (meaning action).comes h ≡ Works good to → may_show look (while_interrupted h action) ≡ true → Stopped look h (Asked action ∷ program)
  at_inside h action good to program goes makes done comes is =
      let next : Machine = without_power (while_interrupted h action) in
      let first : Transcript = worked (spending h action) PowerLost in
      let lost : Interrupts Lost (while_interrupted h action) next =
      record { armed = goes.armed; state = refl; cut = λ on. cc; fail = λ on. cc } in
      let took : Takes h action (Works good to) first next = (PowerLost, refl, inr (Lost, refl, lost)) in
      let cut = refused_heard next Cut (Refused because.Off) (off_cut next refl) in
      record {
        before = Asked action ∷ [];
        after = program;
        split = refl;
        said = followed_by first (followed_by (answered (Refused because.Off)) silence);
        off = next;
        ran = (
          first,
          followed_by (answered (Refused because.Off)) silence,
          next,
          refl,
          done_heard h action (Works good to) first next done comes took,
          (answered (Refused because.Off), silence, next, refl, cut, (refl, refl)),
        );
        shows = is;
        kept = kept_inside h action goes.kept;
        makes = record { blocks = makes.blocks; values = makes.values; listed = makes.listed };
        metadata = goes.ready.metadata;
        mode = refl;
      }

  -- it goes later
  later : (h : Machine) (input : Input) (first : Transcript) (to : Machine) (program : List Input) → Hears h input first to → Stopped look to program
      → Stopped look h (input ∷ program)
  later h input first to program heard s = record {
    before = input ∷ s.before;
    after = s.after;
    split = ap (λ (p : List Input). input ∷ p) s.split;
    said = followed_by first s.said;
    off = s.off;
    ran = (first, s.said, to, refl, heard, s.ran);
    shows = s.shows;
    kept = s.kept;
    makes = s.makes;
    metadata = s.metadata;
    mode = s.mode;
  }

  pub stopped : (program : List Input) (h : Machine) → GoesOn h → IsProgram program → BringRight program → list_any (may_show look) (stops h program) ≡ true
      → Stopped look h program
  stopped [] h goes program right some = elim (either (may_show look h) false some) as (λ _. Stopped look h []) [ inl is ↦ at_cut h [] goes is | inr none ↦ cc none ]
  stopped (Skipped ∷ rest) h goes program right some = later h Skipped silence h rest (refl, refl) (stopped rest h goes program right some)
  stopped (Malformed ∷ rest) h goes program right some = later h Malformed (answered (Refused Syntax)) h rest (refl, refl) (stopped rest h goes program right some)
  stopped (Overlong ∷ rest) h goes program right some = later h Overlong (answered (Refused TooLong)) h rest (refl, refl) (stopped rest h goes program right some)
  stopped (Asked action ∷ rest) h goes program right some =
      by_refusal (λ to there shows. stopped rest to there program.1 right.1 shows) (refusal h action) refl some
    where
      Others : Type 0
      Others = (to : Machine) → GoesOn to → list_any (may_show look) (stops to rest) ≡ true → Stopped look to rest

      goes_on : (to : Machine) (said : Transcript) → Hears h (Asked action) said to → Keeps h to → GoesOn to
      goes_on to said heard keeps = record {
        ready = ready_at h to goes.ready (whole-heard h (Asked action) said to goes.ready.whole heard) keeps;
        kept = kept_step h action said to goes.ready goes.kept right.0 heard (keeps.mode ∙ goes.ready.mode);
        armed = keeps.armed goes.armed;
      }

      -- the command comes to its end
      ends : Others → (said : Transcript) (to : Machine) → Hears h (Asked action) said to → Keeps h to → list_any (may_show look) (stops to rest) ≡ true
          → Stopped look h (Asked action ∷ rest)
      ends others said to heard keeps there = later h (Asked action) said to rest heard (others to (goes_on to said heard keeps) there)

      by_fate : Others → refusal h action ≡ None → (f : Fate) → (meaning action).comes h ≡ f → Follows h f
          → list_any (may_show look) (h ∷ inside h action f ++ stops (led_to h f) rest) ≡ true → Stopped look h (Asked action ∷ rest)
      by_fate others done (Gives answer to) comes follow is =
          let took : Takes h action (Gives answer to) (answered answer) to = (refl, refl) in
          elim (either (may_show look h) (list_any (may_show look) (stops to rest)) is) as (λ _. Stopped look h (Asked action ∷ rest)) [
            | inl here ↦ at_cut h (Asked action ∷ rest) goes here
            | inr there ↦ ends others (answered answer) to (done_heard h action (Gives answer to) (answered answer) to done comes took) follow there
          ]
      by_fate others done (Works answer to) comes follow is =
          let said : Transcript = worked (spending h action) answer in
          let took : Takes h action (Works answer to) said to = (answer, refl, inl (refl, refl)) in
          let inner : Bool = may_show look (while_interrupted h action) in
          elim (either (may_show look h) (inner || list_any (may_show look) (stops to rest)) is) as (λ _. Stopped look h (Asked action ∷ rest)) [
            | inl here ↦ at_cut h (Asked action ∷ rest) goes here
            | inr there ↦ elim (either inner (list_any (may_show look) (stops to rest)) there) as (λ _. Stopped look h (Asked action ∷ rest)) [
              | inl within ↦ at_inside h action answer to rest goes (makes_kept h action goes.kept right.0 done) done comes within
              | inr after ↦ ends others said to (done_heard h action (Works answer to) said to done comes took) follow after
            ]
          ]
      by_fate others done (Orders order to) comes follow is =
          let took : Takes h action (Orders order to) (with_order order Done) to = (refl, refl) in
          elim (either (may_show look h) (list_any (may_show look) (stops to rest)) is) as (λ _. Stopped look h (Asked action ∷ rest)) [
            | inl here ↦ at_cut h (Asked action ∷ rest) goes here
            | inr there ↦ ends others (with_order order Done) to (done_heard h action (Orders order to) (with_order order Done) to done comes took) follow there
          ]
      by_fate others done (Cuts to) comes follow is = absurd follow
      by_fate others done (Restarts choice) comes follow is = absurd follow
      by_fate others done Recovers comes follow is = absurd follow

      by_refusal : Others → (o : Option Answer) → refusal h action ≡ o
          → list_any (may_show look) (h ∷ inside h action (unless_refused h o ((meaning action).comes h)) ++ stops (led_to h (unless_refused h o ((meaning action).comes h))) rest) ≡ true
          → Stopped look h (Asked action ∷ rest)
      by_refusal others None is some = by_fate others is ((meaning action).comes h) refl (of_program h action program.0).0 some
      by_refusal others (Some answer) is some = elim (either (may_show look h) (list_any (may_show look) (stops h rest)) some) as (λ _. Stopped look h (Asked action ∷ rest)) [
        | inl here ↦ at_cut h (Asked action ∷ rest) goes here
        | inr there ↦ later h (Asked action) (answered answer) h rest (refused_heard h action answer is) (others h goes there)
      ]
