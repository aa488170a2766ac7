-- What a restart or a recovery is answered, by its mount.
use Rattle.std.proofs.Common.{◌≡◌, ◌⊎◌, inl, inr, ◌≤◌, true, IsTrue, None, Result, Ok, Err, MatchResult, refl, sym, ap, subst, ◌∙◌, arith, false}
use Rattle.line_device.specs.Medium.{IsSound}
use Rattle.line_device.specs.Panel.{Panel, Start, Runs, after_restart}
use Rattle.line_device.specs.Panel.Outcome.{went}
use Rattle.line_device.specs.Device.{Device, Restarted}
use Rattle.line_device.specs.declared.line.Choice.{Choice}
use Rattle.line_words.specs.declared.interruption.Interruption.{Interruption}
use Rattle.line_words.specs.declared.interruption.Interruption.TheVariants.{Failed, PowerLost as Lost}
use Rattle.recovery.specs.Calls.{IsMounted, LeavesDevice}
use Rattle.recovery.specs.Findings.{first_finding, geometry_told}
use Rattle.recovery.specs.Mounting.{Finds, IsOfLogs, mount_outcome}
use Rattle.recovery.specs.declared.Mounted.{Mounted}
use Rattle.recovery.specs.declared.fault.MountFault.{MountFault}
use Rattle.recovery.specs.declared.fault.MountFault.TheVariants as fault
use Rattle.script_text.specs.Action.Action.{Recover, Restart}
use Rattle.reply_text.specs.Answer.{Answer, IsPrintable, answer_of}
use Rattle.reply_text.specs.Room.{most_of}
use Rattle.reply_text.specs.declared.reply.Reply.{Reply}
use Rattle.machine_model.specs.declared.mode.Mode.{Mode}
use Rattle.machine_model.specs.declared.mode.Mode.TheVariants as modes
use Rattle.machine_model.specs.declared.needs.Needs.TheVariants.{Unpowered, Failed as AfterFailure}
use Rattle.machine_model.specs.Machine.{Machine}
use Rattle.machine_model.specs.Machine.Fate.{Recovers, Restarts}
use Rattle.machine_model.specs.Commands.{fate, spending}
use Rattle.machine_model.specs.Costs.{Spending, mount_calls, mount_persists}
use Rattle.machine_model.specs.Interrupted.{Interrupts, interrupted_answer, may_come}
use Rattle.machine_model.specs.Recovering.{RecoveryMayLeave}
use Rattle.machine_model.specs.Restarting.{mounted_answer, restarted}
use Rattle.machine_model.specs.Run.{Ends, with_start, worked}
use Rattle.machine_model.specs.Telling.{Tells}
use Rattle.machine_host.specs.Stands.{HostState, HostServes, Stands, Comes, is_powered, just_mounted}
use Rattle.machine_host.specs.Faults.{CountsBad, LeftUnmounted, unmounted_answer, unmounted_mode}
use Rattle.machine_model.specs.Meaning.{mode_refusal}
use Rattle.machine_host.specs.Responding.{Answered, Responds}
use Rattle.machine_host.proofs.BadLineLemmas.{found_bad}
use Rattle.machine_host.proofs.CostLemmas.{opens-runs}
use Rattle.machine_host.proofs.ReadingLemmas.{recovered_back}
use Rattle.machine_model.proofs.RefusalLemmas.{fate_placed}
use Rattle.machine_host.proofs.RemountLemmas.{MountsTo, kept_unmounted, mounts_bad, mounts_done, mounts_stopped, never_wrong, serves_taken, serves_unmounted}
use Rattle.machine_host.proofs.RestartLemmas.{keeps, serves_back, stands_back}
use Rattle.line_words.specs.Words.{WritesBackOutside}
use Rattle.machine_host.specs.Keeping.{is_refusal}
use Rattle.machine_host.proofs.KeepLemmas.{keeps_done}

-- What a mount is answered: that in each state it comes to, in few bytes, the logs alone may have changed, and the host may go on.
pub record MountAnswered (host after : HostState) (answer : Answer) (old new : Device) : Type 0 where
  pub step : (h : Machine) → Stands host old h → MountsTo h answer after old new
  pub accepts : is_refusal answer ≡ false
  pub starts : new.panel.starts ≡ old.panel.starts
  pub lines : WritesBackOutside (IsOfLogs (geometry_told old.medium)) old.medium new.medium
  pub printable : IsPrintable answer
  pub room : most_of answer ≤ 72
  pub serves : HostServes after new

module _ (host : HostState) (old new : Device) (serves : HostServes host old) (unsettled : host.mode ≡ modes.Unsettled) (sound : IsSound old.medium) (x : LeavesDevice old.medium new.medium) where
  abbrev in_mode : Mode → HostState
  in_mode mode = record { geometry = host.geometry; unit = host.unit; mode = mode; blocks = host.blocks; volume = host.volume; files = host.files }

  on : old.panel.power ≡ true
  on = serves.power ∙ ap is_powered unsettled

  -- it was done
  pub mount_done : (made : Mounted) (answer : Answer) → Runs mount_calls mount_persists went old.panel new.panel → first_finding old.medium ≡ None → IsMounted old.medium new.medium made → CountsBad made.blocks made.volume made.files.journal new.medium answer
      → MountAnswered host (record { geometry = host.geometry; unit = host.unit; mode = modes.On; blocks = made.blocks; volume = made.volume; files = just_mounted made.files made.events }) answer old new
  mount_done made answer runs found given counts = record {
    step = λ h stands. mounts_done host old new serves unsettled sound x h stands runs found made given answer counts;
    accepts = ap is_refusal counts.told;
    starts = runs.orders.starts;
    lines = x.outside;
    printable = subst IsPrintable (sym counts.told) tt;
    room = subst (λ a. most_of a ≤ 72) (sym counts.told) (omega arith);
    serves = serves_taken host old new serves unsettled sound x runs found made given;
  }

  -- it was not, but had memory
  pub mount_refused : (f : MountFault) → (f ≡ fault.Memory → ⊥) → Finds {T = Mounted} (first_finding old.medium) (Err f) → Runs mount_calls mount_persists (mount_outcome {T = Mounted} (Err f)) old.panel new.panel
      → MountAnswered host (in_mode (unmounted_mode f)) (unmounted_answer f) old new
  mount_refused (fault.Meta line) other finds runs = record {
    step = λ h stands. mounts_bad host old new serves unsettled sound x h stands runs line.0 finds;
    accepts = refl;
    starts = runs.orders.starts;
    lines = x.outside;
    printable = tt;
    room = omega arith;
    serves = serves_unmounted host old new serves unsettled sound x modes.Stopped (runs.cause.0 ∙ on) (λ is. cc is)
        (λ _ none. let bad = found_bad host.geometry old.medium serves.layout sound line.0 finds in cc (none, bad.1));
  }
  mount_refused (fault.Layout at) other finds runs = record {
    step = λ h stands. absurd (never_wrong host old new serves unsettled sound x h stands at finds);
    accepts = refl;
    starts = runs.orders.starts;
    lines = x.outside;
    printable = tt;
    room = omega arith;
    serves = serves_unmounted host old new serves unsettled sound x modes.Unsettled (runs.cause.0 ∙ on) (λ is. cc is) (λ is. cc is);
  }
  mount_refused fault.Device other finds runs = record {
    step = λ h stands. mounts_stopped host old new serves unsettled sound x h stands Failed runs;
    accepts = refl;
    starts = runs.orders.starts;
    lines = x.outside;
    printable = tt;
    room = omega arith;
    serves = serves_unmounted host old new serves unsettled sound x modes.Unsettled (runs.cause.0 ∙ on) (λ is. cc is) (λ is. cc is);
  }
  mount_refused fault.PowerLost other finds runs = record {
    step = λ h stands. mounts_stopped host old new serves unsettled sound x h stands Lost runs;
    accepts = refl;
    starts = runs.orders.starts;
    lines = x.outside;
    printable = tt;
    room = omega arith;
    serves = serves_unmounted host old new serves unsettled sound x modes.Off runs.cause.0 (λ is. cc is) (λ is. cc is);
  }
  mount_refused fault.Memory other finds runs = absurd (other refl)

  -- it had none
  pub mount_starved : Runs mount_calls mount_persists went old.panel new.panel → HostServes (in_mode modes.Unsettled) new × ((h : Machine) → Stands host old h → Stands host new h)
  mount_starved runs = (
    serves_unmounted host old new serves unsettled sound x modes.Unsettled (runs.cause.0 ∙ on) (λ is. cc is) (λ is. cc is),
    λ h stands. kept_unmounted host old new serves unsettled sound x h stands runs,
  )

-- A recovery is answered as its mount is.
module _ (now : HostState) (old new : Device) (unsettled : now.mode ≡ modes.Unsettled) where
  recovers : (h : Machine) → Stands now old h → fate h Recover ≡ Recovers
  recovers h stands = fate_placed h Recover (ap (λ m. mode_refusal m h.bad_meta AfterFailure) (sym stands.mode ∙ unsettled)) refl refl

  pub recover_answered : (after : HostState) (answer : Answer) → MountAnswered now after answer old new → Answered Recover answer now after old new
  recover_answered after answer m = record {
    step = λ h stands.
        let c = m.step h stands in
        subst (λ f. Comes h Recover f answer after old new) (sym (recovers h stands)) (record {
          said = worked (spending h Recover) answer;
          next = c.next;
          answers = refl;
          takes = (answer, refl, c.ends);
          tells = c.tells;
          stands = c.stands;
        });
    keeps = keeps_done answer Recover now after old new m.accepts m.lines;
    printable = m.printable;
    room = m.room;
    serves = m.serves;
  }

-- the panel from before the restart, by what it tells of the work after it
tells_back : (spent : Spending) (start : Start) (old mid new : Panel) → mid ≡ after_restart old start → (answer : Answer) → Tells (worked spent answer) mid new → Tells (with_start spent start answer) old new
tells_back spent start old mid new panel answer = subst (λ p. Tells (worked spent answer) p new → Tells (with_start spent start answer) old new) (sym panel) (λ t. record {
  starts = t.starts;
  restarts = t.restarts;
  orders = t.orders;
  arms = t.arms;
  offs = t.offs;
  faults = t.faults;
  cuts = t.cuts;
  calls = t.calls;
  persists = t.persists;
  evicts = t.evicts;
  setups = t.setups;
  disarms = t.disarms;
})

-- So is a restart, once the power came back.
module _ (now : HostState) (choice : Choice) (old mid new : Device) (start : Start) (serves : HostServes now old) (off : now.mode ≡ modes.Off)
    (left : Restarted choice old mid start) (sound_old : IsSound old.medium) (sound : IsSound mid.medium) where
  abbrev pub back : HostState
  back = record now { mode = modes.Unsettled }

  restarts : (h : Machine) → Stands now old h → fate h (Restart choice) ≡ Restarts choice
  restarts h stands = fate_placed h (Restart choice) (ap (λ m. mode_refusal m h.bad_meta Unpowered) (sym stands.mode ∙ off)) refl refl

  module _ (h : Machine) (stands : Stands now old h) where
    abbrev read : Machine
    read = restarted h start.image

    came : Stands back mid (record read { mode = modes.Unsettled })
    came = stands_back now choice old mid start serves left sound_old sound h stands

    comes_back : (after : HostState) (answer : Answer) → MountsTo (record read { mode = modes.Unsettled }) answer after mid new → Comes h (Restart choice) (Restarts choice) answer after old new
    comes_back after answer m = record {
      said = with_start (spending h (Restart choice)) start answer;
      next = m.next;
      answers = refl;
      takes = (start, answer, refl, left.asked, keeps now choice old mid start serves left sound_old sound h stands, by_end m.ends);
      tells = tells_back (spending h (Restart choice)) start old.panel mid.panel new.panel left.panel answer m.tells;
      stands = m.stands;
    }
      where
        still_armed : (by : Interruption) → IsTrue (may_come by (record read { mode = modes.Unsettled })) → IsTrue (may_come by read)
        still_armed Failed armed = armed
        still_armed Lost armed = armed

        by_end : ((answer ≡ mounted_answer m.next) × RecoveryMayLeave (record read { mode = modes.Unsettled }) m.next)
            ⊎ ((by : Interruption) × (answer ≡ interrupted_answer by) × Interrupts by (record read { mode = modes.Unsettled }) m.next) → Ends (mounted_answer read) read read answer m.next
        by_end (inl done) = let is = recovered_back h m.next start.image done.1 in inl (done.0 ∙ ap mounted_answer is, is)
        by_end (inr stop) = inr (stop.0, stop.1, record { armed = still_armed stop.0 stop.2.armed; state = stop.2.state; cut = stop.2.cut; fail = stop.2.fail })

  pub restart_answered : (after : HostState) (answer : Answer) → MountAnswered back after answer mid new → Answered (Restart choice) answer now after old new
  restart_answered after answer m = record {
    step = λ h stands. subst (λ f. Comes h (Restart choice) f answer after old new) (sym (restarts h stands)) (comes_back h stands after answer (m.step (record (restarted h start.image) { mode = modes.Unsettled }) (came h stands)));
    keeps = keeps_done answer (Restart choice) now after old new m.accepts (record { between = mid; start = start; restarted = left; starts = m.starts; lines = m.lines });
    printable = m.printable;
    room = m.room;
    serves = m.serves;
  }

  -- and one that had no memory to mount
  pub restart_starved : Runs mount_calls mount_persists went mid.panel new.panel → ((k : Machine) → Stands back mid k → Stands back new k) → LeftUnmounted choice now back old new
  restart_starved runs stays = record {
    between = mid;
    start = start;
    restarted = left;
    opens = opens-runs went mid.panel new.panel runs;
    unsettled = refl;
    stands = λ h stands. record { keeps = keeps now choice old mid start serves left sound_old sound h stands; stands = stays (record (restarted h start.image) { mode = modes.Unsettled }) (came h stands) };
  }

-- By what the host answers where the mount was not done.
module _ (now after : HostState) (old new : Device) (serves : HostServes now old) (unsettled : now.mode ≡ modes.Unsettled) (sound : IsSound old.medium) (x : LeavesDevice old.medium new.medium) (f : MountFault)
    (finds : Finds {T = Mounted} (first_finding old.medium) (Err f)) (runs : Runs mount_calls mount_persists (mount_outcome {T = Mounted} (Err f)) old.panel new.panel) (is : after ≡ record now { mode = unmounted_mode f }) where
  refused_now : (f ≡ fault.Memory → ⊥) → MountAnswered now after (unmounted_answer f) old new
  refused_now other = subst (λ k. MountAnswered now k (unmounted_answer f) old new) (sym is) (mount_refused now old new serves unsettled sound x f other finds runs)

  starved_now : f ≡ fault.Memory → Runs mount_calls mount_persists went old.panel new.panel × (after ≡ record now { mode = modes.Unsettled })
  starved_now memory = (
    subst (λ (f : MountFault). Runs mount_calls mount_persists (mount_outcome {T = Mounted} (Err f)) old.panel new.panel) memory runs,
    is ∙ ap (λ (f : MountFault). record now { mode = unmounted_mode f }) memory,
  )

  pub recover_unmounted : {E : Type 0} (r : Result Reply E) → MatchResult r (λ reply. (f ≡ fault.Memory → ⊥) × (answer_of reply ≡ unmounted_answer f)) (λ _. f ≡ fault.Memory) → Responds Recover r now after old new
  recover_unmounted (Ok reply) said = subst (λ a. Answered Recover a now after old new) (sym said.1) (recover_answered now old new unsettled after (unmounted_answer f) (refused_now said.0))
  recover_unmounted (Err e) memory =
      let starved = starved_now memory in
      let left = mount_starved now old new serves unsettled sound x starved.0 in
      record {
        leaves = record {
          same = starved.1 ∙ ap (λ m. record now { mode = m }) (sym unsettled);
          opens = opens-runs went old.panel new.panel starved.0;
          stands = left.1;
        };
        serves = subst (λ k. HostServes k new) (sym starved.1) left.0;
      }

module _ (now after : HostState) (choice : Choice) (old mid new : Device) (start : Start) (serves : HostServes now old) (off : now.mode ≡ modes.Off)
    (left : Restarted choice old mid start) (sound_old : IsSound old.medium) (sound : IsSound mid.medium) (x : LeavesDevice mid.medium new.medium) (f : MountFault)
    (finds : Finds {T = Mounted} (first_finding mid.medium) (Err f)) (runs : Runs mount_calls mount_persists (mount_outcome {T = Mounted} (Err f)) mid.panel new.panel) (is : after ≡ record now { mode = unmounted_mode f }) where
  pub restart_unmounted : {E : Type 0} (r : Result Reply E) → MatchResult r (λ reply. (f ≡ fault.Memory → ⊥) × (answer_of reply ≡ unmounted_answer f)) (λ _. f ≡ fault.Memory)
      → Responds (Restart choice) r now after old new
  restart_unmounted (Ok reply) said =
      subst (λ a. Answered (Restart choice) a now after old new) (sym said.1)
      (restart_answered now choice old mid new start serves off left sound_old sound after (unmounted_answer f)
      (refused_now (record now { mode = modes.Unsettled }) after mid new (serves_back now choice old mid start serves left sound_old sound) refl sound x f finds runs is said.0))
  restart_unmounted (Err e) memory =
      let base : HostState = record now { mode = modes.Unsettled } in
      let back_serves = serves_back now choice old mid start serves left sound_old sound in
      let starved = starved_now base after mid new back_serves refl sound x f finds runs is memory in
      let kept = mount_starved base mid new back_serves refl sound x starved.0 in
      record {
        leaves = inr (subst (λ k. LeftUnmounted choice now k old new) (sym starved.1) (restart_starved now choice old mid new start serves off left sound_old sound starved.0 kept.1));
        serves = subst (λ k. HostServes k new) (sym starved.1) kept.0;
      }
