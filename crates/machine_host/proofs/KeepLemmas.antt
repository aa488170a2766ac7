-- What commands leave of host and lines, by their answers.
use Rattle.std.proofs.Common.{◌≡◌, ◌≢◌, ℕ, ◌/◌, Bool, true, false, Option, Some, None, option_map, Result, Ok, Err, List, refl, sym, ap, subst, ◌∙◌, arith}
use Rattle.std.proofs.lemmas.Bool.{false≢true}
use Rattle.line_device.specs.Medium.{Medium, WritesBack}
use Rattle.line_device.specs.Device.{Device}
use Rattle.line_device.proofs.WriteBackLemmas.{write_back-refl}
use Rattle.line_words.specs.declared.interruption.Interruption.TheVariants.{Failed, PowerLost}
use Rattle.line_words.specs.Told.{Told, OnRefused, refusal_of}
use Rattle.line_words.specs.Told.Told.{Refuses, Stops, Starves}
use Rattle.scrub.specs.Others.{WritesBackBut}
use Rattle.script_text.specs.Action.{Action}
use Rattle.reply_text.specs.Answer.{Answer}
use Rattle.machine_model.specs.declared.mode.Mode.{Mode}
use Rattle.machine_model.specs.declared.mode.Mode.TheVariants.{On, Off, Unsettled, Stopped}
use Rattle.machine_host.specs.Faults.{IsRoomier, answer_after, mode_after, told_answer, told_mode}
use Rattle.machine_host.specs.Keeping.{Changes, Keeps, Reach, is_refusal, reach}
use Rattle.machine_host.specs.Stands.{HostState}
use Rattle.std.proofs.lemmas.Option.{same_Some}
use Rattle.word_tables.specs.declared.geometry.Geometry.{Geometry}
use Rattle.nvm_model.specs.Blocks.{first_there}
use Rattle.reply_text.specs.declared.reply.Why.{Why}
use Rattle.reply_text.specs.declared.reply.Why.TheVariants as because
use Rattle.reply_text.specs.Answer.Answer.{Refused, RefusedMeta}
use Rattle.machine_model.specs.declared.needs.Needs.{Needs}
use Rattle.machine_model.specs.declared.needs.Needs.TheVariants.{Usable, Anytime, Powered, Unpowered, Failed as AfterFailure}
use Rattle.machine_model.specs.Commands.{early_refusal, meaning}
use Rattle.machine_model.specs.Lines.{lowest}
use Rattle.machine_model.specs.Meaning.{mode_refusal}

pub roomier-same : (host : HostState) → IsRoomier host host
roomier-same host = record { events = host.files.events; same = refl; items = refl; spare = omega arith }

-- a refusal left all as it was
pub left_all : (host : HostState) (d : Device) → IsRoomier host host × WritesBack d.medium d.medium
left_all host d = (roomier-same host, write_back-refl d.medium)

-- by whether the answer refuses
pub keeps_either : (b : Bool) (action : Action) (before after : HostState) (old new : Device) → (b ≡ true → IsRoomier before after × WritesBack old.medium new.medium) → Changes (reach action) old new
    → Keeps b action before after old new
keeps_either true action before after old new refused changes = refused refl
keeps_either false action before after old new refused changes = changes

-- one that refuses, and one that does not
pub keeps_refused : (answer : Answer) (action : Action) (host : HostState) (d : Device) → is_refusal answer ≡ true → Keeps (is_refusal answer) action host host d d
keeps_refused answer action host d refuses = subst (λ b. Keeps b action host host d d) (sym refuses) (left_all host d)

pub keeps_done : (answer : Answer) (action : Action) (before after : HostState) (old new : Device) → is_refusal answer ≡ false → Changes (reach action) old new → Keeps (is_refusal answer) action before after old new
keeps_done answer action before after old new accepts changes = subst (λ b. Keeps b action before after old new) (sym accepts) changes

-- the answer of a call, which at Ok is no refusal
pub record AnswersCall {T E R : Type 0} (says : E → Told R) (answer_to : R → Answer) (r : Result T E) (answer : Answer) : Type 0 where
  pub good : Answer
  pub accepts : is_refusal good ≡ false
  pub is : answer ≡ answer_after says answer_to good r

-- it is kept as the call says
pub keeps_answer : {T E R : Type 0} (says : E → Told R) (answer_to : R → Answer) (r : Result T E) (answer : Answer) → AnswersCall says answer_to r answer → (action : Action) (before after : HostState) (old new : Device)
    → OnRefused says r (IsRoomier before after × WritesBack old.medium new.medium) → Changes (reach action) old new → Keeps (is_refusal answer) action before after old new
keeps_answer {T} {E} {R} says answer_to r answer call action before after old new refused changes =
    keeps_either (is_refusal answer) action before after old new (λ refuses. by_result r call refused refuses) changes
  where
    by_told : (t : Told R) → answer ≡ told_answer answer_to t → (refusal_of t ≢ None → IsRoomier before after × WritesBack old.medium new.medium) → is_refusal answer ≡ true
        → IsRoomier before after × WritesBack old.medium new.medium
    by_told (Refuses w) is left refuses = left (λ e. cc e)
    by_told (Stops Failed) is left refuses = absurd (false≢true (ap is_refusal (sym is) ∙ refuses))
    by_told (Stops PowerLost) is left refuses = absurd (false≢true (ap is_refusal (sym is) ∙ refuses))
    by_told Starves is left refuses = absurd (false≢true (ap is_refusal (sym is) ∙ refuses))

    by_result : (q : Result T E) → AnswersCall says answer_to q answer → OnRefused says q (IsRoomier before after × WritesBack old.medium new.medium) → is_refusal answer ≡ true
        → IsRoomier before after × WritesBack old.medium new.medium
    by_result (Ok x) call left refuses = absurd (false≢true (sym call.accepts ∙ ap is_refusal (sym call.is) ∙ refuses))
    by_result (Err f) call left refuses = by_told (says f) call.is left refuses

-- a call that a part of storage refused leaves all as it was; `after` is the host in a mode once the part is as the call left it
pub keeps_called : {T E R : Type 0} (says : E → Told R) (answer_to : R → Answer) (r : Result T E) (answer : Answer) → AnswersCall says answer_to r answer → (action : Action) (host : HostState) (after : Mode → HostState) (old new : Device)
    → host.mode ≡ On → OnRefused says r ((after host.mode ≡ host) × (new ≡ old)) → Changes (reach action) old new → Keeps (is_refusal answer) action host (after (mode_after says r)) old new
keeps_called {T} {E} {R} says answer_to r answer call action host after old new on untouched changes =
    keeps_answer says answer_to r answer call action host (after (mode_after says r)) old new (by_result r untouched) changes
  where
    mode_stays : (t : Told R) → refusal_of t ≢ None → told_mode On t ≡ On
    mode_stays (Refuses w) refuses = refl
    mode_stays (Stops by) refuses = absurd (refuses refl)
    mode_stays Starves refuses = absurd (refuses refl)

    by_result : (q : Result T E) → OnRefused says q ((after host.mode ≡ host) × (new ≡ old)) → OnRefused says q (IsRoomier host (after (mode_after says q)) × WritesBack old.medium new.medium)
    by_result (Ok x) untouched = tt
    by_result (Err f) untouched = λ told.
        let here = untouched told in (
          subst (IsRoomier host) (sym (ap after (mode_stays (says f) told ∙ sym on) ∙ here.0)) (roomier-same host),
          subst (λ d. WritesBack old.medium d.medium) (sym here.1) (write_back-refl old.medium),
        )

-- of a host behind a reference
pub keeps_inside : (b : Bool) (action : Action) (now host after x : HostState) (old new : Device) → host ≡ now → after ≡ x → Keeps b action host x old new → Keeps b action now after old new
keeps_inside b action now host after x old new inside state keeps = subst (λ k. Keeps b action now k old new) (sym state) (subst (λ k. Keeps b action k x old new) inside keeps)

-- and of a command that reaches the same lines
pub keeps_as : (b : Bool) (a c : Action) (before after : HostState) (old new : Device) → reach c ≡ reach a → Keeps b a before after old new → Keeps b c before after old new
keeps_as true a c before after old new same keeps = keeps
keeps_as false a c before after old new same keeps = subst (λ (k : Reach). Changes k old new) (sym same) keeps

-- one line, of which there is one at most
pub but_one : (lines : ℕ → Type 0) (line : ℕ) (old new : Medium) → ((n : ℕ) → lines n → n ≡ line) → WritesBackBut lines old new → WritesBackBut (λ n. n ≡ line) old new
but_one lines line old new one x = record {
  count = x.count;
  bad = λ n apart. x.bad n (λ of. apart (one n of));
  weak = λ n apart. x.weak n (λ of. apart (one n of));
  word_write_back = λ p apart. x.word_write_back p (λ of. apart (one (p / 8) of));
}

-- a line that an option names
pub but_named : (o : Option ℕ) (lines : ℕ → Type 0) (old new : Medium) → ((n : ℕ) → lines n → o ≡ Some n) → WritesBackBut lines old new → (line : ℕ) × WritesBackBut (λ n. n ≡ line) old new
but_named None lines old new named x = (0, but_one lines 0 old new (λ n of. cc (named n of)) x)
but_named (Some line) lines old new named x = (line, but_one lines line old new (λ n of. let is = named n of in cc is) x)

-- What the host finds itself refuses.
mode_refuses : (mode : Mode) (bad_meta : List ℕ) (needs : Needs) (answer : Answer) → mode_refusal mode bad_meta needs ≡ Some answer → is_refusal answer ≡ true
mode_refuses On bad_meta Usable answer is = cc is
mode_refuses On bad_meta Anytime answer is = cc is
mode_refuses On bad_meta Powered answer is = cc is
mode_refuses On bad_meta Unpowered answer is = ap is_refusal (same_Some answer (Refused because.On) (sym is))
mode_refuses On bad_meta AfterFailure answer is = ap is_refusal (same_Some answer (Refused because.On) (sym is))
mode_refuses Off bad_meta Usable answer is = ap is_refusal (same_Some answer (Refused because.Off) (sym is))
mode_refuses Off bad_meta Anytime answer is = cc is
mode_refuses Off bad_meta Powered answer is = ap is_refusal (same_Some answer (Refused because.Off) (sym is))
mode_refuses Off bad_meta Unpowered answer is = cc is
mode_refuses Off bad_meta AfterFailure answer is = ap is_refusal (same_Some answer (Refused because.Off) (sym is))
mode_refuses Unsettled bad_meta Usable answer is = ap is_refusal (same_Some answer (Refused because.Recover) (sym is))
mode_refuses Unsettled bad_meta Anytime answer is = cc is
mode_refuses Unsettled bad_meta Powered answer is = cc is
mode_refuses Unsettled bad_meta Unpowered answer is = ap is_refusal (same_Some answer (Refused because.On) (sym is))
mode_refuses Unsettled bad_meta AfterFailure answer is = cc is
mode_refuses Stopped bad_meta Usable answer is = ap is_refusal (same_Some answer (RefusedMeta (lowest bad_meta)) (sym is))
mode_refuses Stopped bad_meta Anytime answer is = cc is
mode_refuses Stopped bad_meta Powered answer is = cc is
mode_refuses Stopped bad_meta Unpowered answer is = ap is_refusal (same_Some answer (Refused because.On) (sym is))
mode_refuses Stopped bad_meta AfterFailure answer is = ap is_refusal (same_Some answer (RefusedMeta (lowest bad_meta)) (sym is))

pub early_refuses : (mode : Mode) (bad_meta : List ℕ) (geo : Geometry) (action : Action) (answer : Answer) → early_refusal mode bad_meta geo action ≡ Some answer → is_refusal answer ≡ true
unfolding early_refusal
early_refuses mode bad_meta geo action answer = by_mode (mode_refusal mode bad_meta (meaning action).needs) refl
  where
    by_places : (o : Option Why) → option_map Refused o ≡ Some answer → is_refusal answer ≡ true
    by_places None is = cc is
    by_places (Some why) is = ap is_refusal (same_Some answer (Refused why) (sym is))

    by_mode : (o : Option Answer) → mode_refusal mode bad_meta (meaning action).needs ≡ o → first_there o (option_map Refused ((meaning action).checked geo)) ≡ Some answer → is_refusal answer ≡ true
    by_mode None refused is = by_places ((meaning action).checked geo) is
    by_mode (Some first) refused is = mode_refuses mode bad_meta (meaning action).needs answer (refused ∙ is)
