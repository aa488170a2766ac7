-- The counts that rise where the device stops an exploration, and fall nowhere.
use Rattle.std.proofs.Common.{◌≡◌, ◌≢◌, ◌≤◌, ◌⊎◌, inl, inr, ℕ, None, Result, Ok, Err, [], ◌∷◌, IsTrue, refl, sym, ap, subst, ◌∙◌, arith}
use Rattle.std.specs.Result.{IfErr, IsErrAnd, OnOk}
use Rattle.line_device.specs.Device.{Device}
use Rattle.line_device.specs.Panel.{Panel}
use Rattle.line_words.specs.declared.interruption.Interruption.{Interruption}
use Rattle.line_words.specs.declared.interruption.Interruption.TheVariants.{Failed, PowerLost as Lost}
use Rattle.reply_text.specs.Answer.{Answer}
use Rattle.reply_text.specs.Answer.Answer.{DeviceFailed, PowerLost, Stopped as MountStopped}
use Rattle.script_text.specs.Action.{Action}
use Rattle.script_text.specs.Action.Action.{CutIn}
use Rattle.cut_places.specs.MachineModel.Machine.{Machine}
use Rattle.cut_places.specs.MachineModel.Commands.{fate, refusal}
use Rattle.cut_places.specs.MachineModel.Interrupted.{interrupted_answer, stop_in}
use Rattle.cut_places.specs.MachineModel.Run.{Transcript}
use Rattle.machine_host.specs.Stands.{Comes, HostState}
use Rattle.cut_places.specs.MachineModel.Telling.{Tells, counted_by, cuts_after, faults_after}
use Rattle.cut_places.specs.Outcomes.Stops.{is_of_program}
use Rattle.explorer.specs.declared.came.Came.{Came}
use Rattle.explorer.specs.declared.came.Came.TheVariants.{Done, Refused, Stopped}
use Rattle.explorer.specs.declared.fault.ExploreFault.{ExploreFault}
use Rattle.explorer.specs.declared.fault.ExploreFault.TheVariants.{Device as FromDevice, Memory}
use Rattle.explorer.specs.Coming.{came_of}
use Rattle.explorer.specs.Stopping.{DeviceStopped, NoneFell}
use Rattle.explorer.proofs.ComesLemmas.{CameTo, came_to, done, refused, stopped, was_stopped}
use Rattle.explorer.proofs.PerformLemmas.{cut_in_allowed}
use Rattle.line_device.proofs.PanelLemmas.{rose_later}

-- of two calls, one after the other
module _ (a b c : Panel) (before : NoneFell a b) where
  pub fell_later : NoneFell b c → NoneFell a c
  fell_later after =
      let setups : a.counts.setups ≤ b.counts.setups = before.setups in
      let more_setups : b.counts.setups ≤ c.counts.setups = after.setups in
      let faults : a.counts.faults ≤ b.counts.faults = before.faults in
      let cuts : a.counts.cuts ≤ b.counts.cuts = before.cuts in
      let more_faults : b.counts.faults ≤ c.counts.faults = after.faults in
      let more_cuts : b.counts.cuts ≤ c.counts.cuts = after.cuts in
      record { setups = omega arith; faults = omega arith; cuts = omega arith }

  pub stopped_later : DeviceStopped b c → DeviceStopped a c
  stopped_later (inl faults) = inl (rose_later a.counts.faults b.counts.faults c.counts.faults before.faults faults)
  stopped_later (inr cuts) = inr (rose_later a.counts.cuts b.counts.cuts c.counts.cuts before.cuts cuts)

-- an answer of what was not stopped tells no interruption
ran : (answer : Answer) → came_of answer ≢ Stopped → stop_in answer ≡ None
ran DeviceFailed some = absurd (some refl)
ran PowerLost some = absurd (some refl)
ran (MountStopped line) some = refl
ran other some = refl

-- an answer alone, as the device counts it
module _ (said : Transcript) (old new : Panel) (answer : Answer) (tells : Tells said old new) (is : said.answers ≡ answer ∷ []) where
  told_stop : (by : Interruption) → answer ≡ interrupted_answer by → DeviceStopped old new
  told_stop Failed at = inl (subst (λ answers. counted_by faults_after answers old.counts.faults ≤ new.counts.faults) (is ∙ ap (λ a. a ∷ []) at) tells.faults)
  told_stop Lost at = inr (subst (λ answers. counted_by cuts_after answers old.counts.cuts ≤ new.counts.cuts) (is ∙ ap (λ a. a ∷ []) at) tells.cuts)

  told_none : stop_in answer ≡ None → NoneFell old new
  told_none none = record {
    setups = tells.setups;
    faults = subst (λ by. faults_after by old.counts.faults ≤ new.counts.faults) none
        (subst (λ answers. counted_by faults_after answers old.counts.faults ≤ new.counts.faults) is tells.faults);
    cuts = subst (λ by. cuts_after by old.counts.cuts ≤ new.counts.cuts) none
        (subst (λ answers. counted_by cuts_after answers old.counts.cuts ≤ new.counts.cuts) is tells.cuts);
  }

-- a command, as the device counts it: it went on, or was stopped
module _ (host : HostState) (h : Machine) (action : Action) (answer : Answer) (old new : Device) (comes : Comes h action (fate h action) answer host old new) where
  pub by_answer : (by : Interruption) → answer ≡ interrupted_answer by → DeviceStopped old.panel new.panel
  by_answer = told_stop comes.said old.panel new.panel answer comes.tells comes.answers

  pub went_on : (came : Came) → came ≡ came_of answer → came ≢ Stopped → NoneFell old.panel new.panel
  went_on came told some = told_none comes.said old.panel new.panel answer comes.tells comes.answers (ran answer (λ is. some (told ∙ is)))

  pub was_cut_off : IsTrue (is_of_program action) → Stopped ≡ came_of answer → DeviceStopped old.panel new.panel
  was_cut_off program told =
      let by = was_stopped h action answer comes.next (came_to host h action answer old new program comes) told in
      by_answer by.0 by.1

  -- where nothing refuses it, what is not done was stopped
  pub cut_off_unless_done : IsTrue (is_of_program action) → refusal h action ≡ None → came_of answer ≢ Done → DeviceStopped old.panel new.panel
  cut_off_unless_done program allowed some = by_case (came_to host h action answer old new program comes)
    where
      by_case : CameTo h action answer comes.next → DeviceStopped old.panel new.panel
      by_case (refused is why same) = cc (sym allowed ∙ why)
      by_case (done is allowed same) = absurd (some is)
      by_case (stopped by is) = by_answer by is

-- what is not done
undone : (came : Came) → (came ≡ Refused) ⊎ (came ≡ Stopped) → came ≢ Done
undone came (inl is) = λ e. cc (sym is ∙ e)
undone came (inr is) = λ e. cc (sym is ∙ e)

-- a cut in some calls that was not armed
pub unarmed : (host : HostState) (h : Machine) (calls : ℕ) (answer : Answer) (old new : Device) → Comes h (CutIn calls) (fate h (CutIn calls)) answer host old new
    → calls ≢ 0 → (came : Came) → came ≡ came_of answer → (came ≡ Refused) ⊎ (came ≡ Stopped) → DeviceStopped old.panel new.panel
unarmed host h calls answer old new comes some came told other =
    cut_off_unless_done host h (CutIn calls) answer old new comes refl (cut_in_allowed h calls some) (λ is. undone came other (told ∙ is))

-- what holds anyhow
pub always : {A E P : Type 0} (result : Result A E) → P → OnOk result P
always (Ok found) is = is
always (Err fault) is = tt

-- the cause of an error: where only memory was wanting
pub only_memory : {A : Type 0} (P : Type 0) (result : Result A ExploreFault) → IfErr result (λ fault. fault ≡ Memory) → IfErr result (λ fault. fault ≡ FromDevice → P)
only_memory P (Ok found) memory = tt
only_memory P (Err fault) memory = λ is. cc (sym is ∙ memory)

-- where the device stopped it
pub stopped_so : {A : Type 0} (P : Type 0) (result : Result A ExploreFault) → P → IfErr result (λ fault. fault ≡ FromDevice → P)
stopped_so P (Ok found) is = tt
stopped_so P (Err fault) is = λ told. is

-- where the error of a call is handed on
pub handed_on : {A : Type 0} (P : Type 0) (fault : ExploreFault) (result : Result A ExploreFault) → IsErrAnd result (λ e. e ≡ fault) → (fault ≡ FromDevice → P)
    → IfErr result (λ fault. fault ≡ FromDevice → P)
handed_on P fault (Ok found) is cause = tt
handed_on P fault (Err e) is cause = λ told. cause (sym is ∙ told)

-- and where the call came behind others
pub caused_later : {A : Type 0} (result : Result A ExploreFault) (a b c : Panel) → NoneFell a b → IfErr result (λ fault. fault ≡ FromDevice → DeviceStopped b c)
    → IfErr result (λ fault. fault ≡ FromDevice → DeviceStopped a c)
caused_later (Ok found) a b c before cause = tt
caused_later (Err fault) a b c before cause = λ is. stopped_later a b c before (cause is)

pub none_fell : (p : Panel) → NoneFell p p
none_fell p = record { setups = omega arith; faults = omega arith; cuts = omega arith }

pub fell_behind : {A : Type 0} (result : Result A ExploreFault) (a b c : Panel) → NoneFell a b → OnOk result (NoneFell b c) → OnOk result (NoneFell a c)
fell_behind (Ok found) a b c before after = fell_later a b c before after
fell_behind (Err fault) a b c before after = tt
