-- What a call on a part of storage comes to, by what its fault tells.
use Rattle.std.proofs.Common.{◌≡◌, ◌≢◌, ℕ, ◌≤◌, Bool, true, false, Option, Some, None, option_map, Result, Ok, Err, OnOk, [], refl, sym, ap, subst, ◌∙◌, arith}
use Rattle.word_tables.specs.declared.geometry.Geometry.{Geometry}
use Rattle.line_device.specs.Panel.{Runs}
use Rattle.line_device.specs.Device.{Device}
use Rattle.line_words.specs.declared.interruption.Interruption.TheVariants.{Failed, PowerLost}
use Rattle.line_words.specs.Told.{Told, Answers, OnRefused, OnWorked, outcome_by, refusal_of, told_outcome}
use Rattle.line_words.specs.Told.Told.{Refuses, Stops, Starves}
use Rattle.std.proofs.lemmas.Option.{same_Some}
use Rattle.reply_text.specs.Answer.{Answer, IsPrintable}
use Rattle.reply_text.specs.Room.{most_of}
use Rattle.script_text.specs.Action.{Action}
use Rattle.machine_model.specs.declared.mode.Mode.{Mode}
use Rattle.machine_model.specs.declared.mode.Mode.TheVariants.{On}
use Rattle.machine_model.specs.Machine.{Machine}
use Rattle.machine_model.specs.Machine.Fate.{Gives, Works}
use Rattle.machine_model.specs.Commands.{spending, unless_refused}
use Rattle.machine_host.specs.Faults.{answer_after, mode_after, told_answer, told_mode}
use Rattle.machine_model.specs.Interrupted.{interrupted_mode, stop_in}
use Rattle.block_device.specs.Images.{AreReadable}
use Rattle.machine_host.specs.Lines.{HasLayout}
use Rattle.machine_model.specs.Lines.{bad_metadata}
use Rattle.machine_model.specs.Run.{answered}
use Rattle.machine_host.specs.Stands.{HostState, HostServes, Stands, AreMounted, Comes, is_powered, medium_of}
use Rattle.machine_host.proofs.StepLemmas.{DeviceLeft, comes_of_done, comes_of_interruption}
use Rattle.machine_host.proofs.TellingLemmas.{never_on, never_stops, tells_nothing}

-- a fault that refuses is answered as its reason is, and leaves the mode
answer_told : {R : Type 0} (answer : R → Answer) (t : Told R) (w : R) → refusal_of t ≡ Some w → told_answer answer t ≡ answer w
answer_told answer (Refuses why) w e = ap answer (same_Some why w e)
answer_told answer (Stops by) w e = cc e
answer_told answer Starves w e = cc e

told_stays : {R : Type 0} (t : Told R) (w : R) → refusal_of t ≡ Some w → told_mode On t ≡ On
told_stays (Refuses why) w e = refl
told_stays (Stops by) w e = cc e
told_stays Starves w e = cc e

-- what holds where a call was refused
pub on_refused-then : {T E R P Q : Type 0} (says : E → Told R) (r : Result T E) → (P → Q) → OnRefused says r P → OnRefused says r Q
on_refused-then says (Ok x) then_ p = tt
on_refused-then says (Err f) then_ p = λ told. then_ (p told)

-- and where it was not
pub worked-then : {T E R P Q : Type 0} (says : E → Told R) (q : Result T E) → (P → Q) → OnWorked says q P → OnWorked says q Q
worked-then says (Ok x) then_ p = then_ p
worked-then says (Err f) then_ p = λ stop. then_ (p stop)

-- what a call is answered that gives no bytes is short
pub short_told : {R : Type 0} (answer : R → Answer) → ((w : R) → most_of (answer w) ≤ 72) → (t : Told R) → most_of (told_answer answer t) ≤ 72
short_told answer short (Refuses why) = short why
short_told answer short (Stops Failed) = omega arith
short_told answer short (Stops PowerLost) = omega arith
short_told answer short Starves = omega arith

pub printable_told : {R : Type 0} (answer : R → Answer) → ((w : R) → IsPrintable (answer w)) → (t : Told R) → IsPrintable (told_answer answer t)
printable_told answer printable (Refuses why) = printable why
printable_told answer printable (Stops Failed) = tt
printable_told answer printable (Stops PowerLost) = tt
printable_told answer printable Starves = tt

-- answers of a part of storage: none tells of an interruption, all are short and can be printed, and no call wants memory
pub record IsPart {E R : Type 0} (says : E → Told R) (answer : R → Answer) : Type 0 where
  pub printable : (w : R) → IsPrintable (answer w)
  pub quiet : (w : R) → stop_in (answer w) ≡ None
  pub short : (w : R) → most_of (answer w) ≤ 72
  pub fed : (f : E) → says f ≡ Starves → ⊥

pub printable_after : {T E R : Type 0} (says : E → Told R) (answer : R → Answer) → IsPart says answer → (good : Answer) → IsPrintable good → (r : Result T E) → IsPrintable (answer_after says answer good r)
printable_after says answer part good printable (Ok x) = printable
printable_after says answer part good printable (Err f) = printable_told answer part.printable (says f)

-- Whatever the call, `after` is the host in a mode once the part is as the call left it.
module _ {E R : Type 0} (says : E → Told R) (answer : R → Answer) (part : IsPart says answer) (host : HostState) (after : Mode → HostState) (old new : Device) (on : host.mode ≡ On)
    (same : (m : Mode) → medium_of (after m) ≡ medium_of host) (in_mode : (m : Mode) → (after m).mode ≡ m) (calls persists : ℕ) where
  -- what it is answered, and what comes of it
  pub comes_of_call : (action : Action) (h : Machine) → Stands host old h → calls ≤ (spending h action).calls → persists ≤ (spending h action).persists
      → {T : Type 0} (r : Result T E) (good : Answer) (why : Option R) (to : Machine) → stop_in good ≡ None → Answers says why r → OnRefused says r ((after host.mode ≡ host) × (new ≡ old))
      → OnOk r (Stands (after On) new to) → OnWorked says r (DeviceLeft h action new.medium) → Runs calls persists (outcome_by says r) old.panel new.panel
      → Comes h action (unless_refused h (option_map answer why) (Works good to)) (answer_after says answer good r) (after (mode_after says r)) old new
  comes_of_call action h stands few few_persists (Ok x) good None to quiet answers untouched ok left runs =
      comes_of_done host (after On) old new h action stands on calls persists few few_persists (same On) to good quiet runs ok
  comes_of_call action h stands few few_persists (Ok x) good (Some w) to quiet answers untouched ok left runs = absurd answers
  comes_of_call action h stands few few_persists (Err e) good (Some w) to quiet answers untouched ok left runs = refused_here (untouched (λ none. cc))
    where
      mode_stays : told_mode On (says e) ≡ host.mode
      mode_stays = told_stays (says e) w answers ∙ sym on

      refused_here : (after host.mode ≡ host) × (new ≡ old) → Comes h action (Gives (answer w) h) (told_answer answer (says e)) (after (told_mode On (says e))) old new
      refused_here here =
          subst (λ m. Comes h action (Gives (answer w) h) (told_answer answer (says e)) (after m) old new) (sym mode_stays)
          (subst (λ k. Comes h action (Gives (answer w) h) (told_answer answer (says e)) k old new) (sym here.0)
          (subst (λ d. Comes h action (Gives (answer w) h) (told_answer answer (says e)) host old d) (sym here.1)
          (subst (λ a. Comes h action (Gives (answer w) h) a host old old) (sym (answer_told answer (says e) w answers)) (record {
            said = answered (answer w);
            next = h;
            answers = refl;
            takes = (refl, refl);
            tells = tells_nothing (answer w) (part.quiet w) old.panel;
            stands = stands;
          }))))
  comes_of_call action h stands few few_persists (Err e) good None to quiet answers untouched ok left runs = by_told (says e) (part.fed e) answers left runs
    where
      by_told : (t : Told R) → (t ≡ Starves → ⊥) → refusal_of t ≡ None → (refusal_of t ≡ None → DeviceLeft h action new.medium) → Runs calls persists (told_outcome t) old.panel new.panel
          → Comes h action (Works good to) (told_answer answer t) (after (told_mode On t)) old new
      by_told (Refuses why) never none left runs = cc none
      by_told (Stops by) never none left runs =
          comes_of_interruption host (after (interrupted_mode by)) old new h action stands on calls persists few few_persists (same (interrupted_mode by)) good to by (in_mode (interrupted_mode by)) runs (left none)
      by_told Starves never none left runs = absurd (never refl)

  -- the host may go on
  pub serves_of_call : {T : Type 0} (r : Result T E) → HostServes host old → OnRefused says r ((after host.mode ≡ host) × (new ≡ old)) → HasLayout host.geometry new.medium → (bad_metadata host.geometry new.medium.is_bad ≡ [] → AreReadable host.geometry new.medium)
      → OnOk r (AreMounted host.geometry (after On).blocks (after On).volume (after On).files new.medium) → Runs calls persists (outcome_by says r) old.panel new.panel → HostServes (after (mode_after says r)) new
  serves_of_call {T} r serves untouched layout readable mounted runs = by_result r untouched mounted runs
    where
      power_was : old.panel.power ≡ true
      power_was = serves.power ∙ ap is_powered on

      readable_now : (m : Mode) → bad_metadata (after m).geometry new.medium.is_bad ≡ [] → AreReadable (after m).geometry new.medium
      readable_now m = subst (λ g. bad_metadata g new.medium.is_bad ≡ [] → AreReadable g new.medium) (sym (ap (λ (g : Geometry × ℕ). g.0) (same m))) readable

      layout_now : (m : Mode) → HasLayout (after m).geometry new.medium
      layout_now m = subst (λ g. HasLayout g new.medium) (sym (ap (λ (g : Geometry × ℕ). g.0) (same m))) layout

      powered : (m : Mode) (p : Bool) → new.panel.power ≡ p → p ≡ is_powered m → new.panel.power ≡ is_powered (after m).mode
      powered m p is so = is ∙ so ∙ ap is_powered (sym (in_mode m))

      by_told : (t : Told R) → (t ≡ Starves → ⊥) → (refusal_of t ≢ None → (after host.mode ≡ host) × (new ≡ old)) → Runs calls persists (told_outcome t) old.panel new.panel → HostServes (after (told_mode On t)) new
      by_told (Refuses why) never untouched runs =
          let here = untouched (λ e. cc e) in
          subst (λ m. HostServes (after m) new) on (subst (λ k. HostServes k new) (sym here.0) (subst (λ d. HostServes host d) (sym here.1) serves))
      by_told (Stops Failed) never untouched runs = record {
        layout = layout_now (interrupted_mode Failed);
        readable = readable_now (interrupted_mode Failed);
        power = powered (interrupted_mode Failed) true (runs.cause.0 ∙ power_was) refl;
        mounted = λ e. absurd (never_on Failed (sym (in_mode (interrupted_mode Failed)) ∙ e));
        stopped = λ e. absurd (never_stops Failed (sym (in_mode (interrupted_mode Failed)) ∙ e));
      }
      by_told (Stops PowerLost) never untouched runs = record {
        layout = layout_now (interrupted_mode PowerLost);
        readable = readable_now (interrupted_mode PowerLost);
        power = powered (interrupted_mode PowerLost) false runs.cause.0 refl;
        mounted = λ e. absurd (never_on PowerLost (sym (in_mode (interrupted_mode PowerLost)) ∙ e));
        stopped = λ e. absurd (never_stops PowerLost (sym (in_mode (interrupted_mode PowerLost)) ∙ e));
      }
      by_told Starves never untouched runs = absurd (never refl)

      by_result : (r : Result T E) → OnRefused says r ((after host.mode ≡ host) × (new ≡ old)) → OnOk r (AreMounted host.geometry (after On).blocks (after On).volume (after On).files new.medium)
          → Runs calls persists (outcome_by says r) old.panel new.panel → HostServes (after (mode_after says r)) new
      by_result (Ok x) untouched mounted runs = record {
        layout = layout_now On;
        readable = readable_now On;
        power = powered On true (runs.cause.0 ∙ power_was) refl;
        mounted = λ _. subst (λ (g : Geometry × ℕ). AreMounted g.0 (after On).blocks (after On).volume (after On).files new.medium) (sym (same On)) mounted;
        stopped = λ e. let is = in_mode On in cc (is, e);
      }
      by_result (Err f) untouched mounted runs = by_told (says f) (part.fed f) untouched runs
