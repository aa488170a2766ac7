-- What settling a host comes to.
use Rattle.std.proofs.Common.{◌≡◌, ℕ, Bool, true, false, IsTrue, List, [], ◌∷◌, Some, None, Result, Ok, Err, MatchResult, refl, sym, ap, ap₂, subst, ◌∙◌, arith}
use Rattle.std.specs.Prelude.{OnOk, OnErr}
use Rattle.std.proofs.lemmas.Bool.{false≢true}
use Rattle.line_device.specs.Medium.{WritesBack, IsSound, Waits}
use Rattle.line_device.specs.Panel.{Panel, Runs, Start, after_disarm}
use Rattle.line_device.specs.Panel.Outcome.{went}
use Rattle.line_device.specs.Device.{Device, Restarted, Waited}
use Rattle.line_device.specs.declared.line.Choice.TheVariants.{Lasts}
use Rattle.word_log.specs.Mount.Finding.{bad_line}
use Rattle.recovery.specs.Calls.{IsMounted, LeavesDevice}
use Rattle.recovery.specs.Findings.{first_finding}
use Rattle.nvm_base.specs.declared.units.LineNo.{LineNo}
use Rattle.recovery.specs.Mounting.{Finds, mount_outcome}
use Rattle.recovery.specs.declared.Mounted.{Mounted}
use Rattle.recovery.specs.declared.fault.MountFault.{MountFault}
use Rattle.recovery.specs.declared.fault.MountFault.TheVariants as fault
use Rattle.machine_model.specs.declared.mode.Mode.{Mode}
use Rattle.machine_model.specs.declared.mode.Mode.TheVariants as modes
use Rattle.machine_model.specs.Machine.{Machine}
use Rattle.machine_model.specs.Recovering.{RecoveryMayLeave}
use Rattle.machine_model.specs.Restarting.{RestartMayLeave, restarted}
use Rattle.machine_model.specs.Costs.{mount_calls, mount_persists}
use Rattle.machine_host.specs.Stands.{HostState, HostServes, Stands, is_powered, just_mounted}
use Rattle.machine_model.specs.Telling.{bumped_by}
use Rattle.machine_host.specs.Settling.{Asks, IsQuiet, IsSettled, StaysUnmounted, LeftUnsettled, MountsAnew, Settled, Settles, is_down}
use Rattle.machine_model.specs.Settling.{LeavesUnmounted, SettlesTo, disarmed}
use Rattle.machine_host.proofs.BadLineLemmas.{found_bad}
use Rattle.machine_host.proofs.ElsewhereLemmas.{serves_ordered}
use Rattle.machine_host.proofs.ReadingLemmas.{recovered_back}
use Rattle.machine_host.proofs.RemountLemmas.{BroughtUp, done_up, kept_unmounted, serves_taken, serves_unmounted, stopped_up}
use Rattle.machine_host.proofs.RestartLemmas.{keeps, serves_waited, stands_back}
use Rattle.machine_host.proofs.StepLemmas.{stands_ordered}
use Rattle.machine_host.proofs.WaitingLemmas.{waits-after}

-- what was not armed is not armed later
pub stays_off : (old new : Bool) → old ≡ false → (IsTrue new → IsTrue old) → new ≡ false
stays_off old false off arms = refl
stays_off old true off arms = absurd (false≢true (sym off ∙ arms refl))

-- work that nothing stopped, where nothing was armed
pub asks_of_work : (p q : Panel) → IsQuiet p → Runs mount_calls mount_persists went p q → Asks [] p q
asks_of_work p q quiet runs = record {
  tells = runs.orders.starts;
  cut_armed = runs.cause.2 ∙ quiet.cut;
  fail_armed = runs.cause.3 ∙ quiet.fail;
  calls = runs.few_calls;
  persists = runs.few_persists;
  faults = runs.faults;
  cuts = runs.cause.1;
  offs = runs.orders.offs;
  arms = runs.orders.arms;
  evicts = runs.orders.evicts;
  disarms = runs.orders.disarms;
  setups = runs.setups;
  last_order = runs.orders.last_order;
}

-- a state with nothing armed
already : (h : Machine) (d : Device) (host : HostState) → IsQuiet d.panel → Stands host d h → disarmed h ≡ h
already h d host quiet stands =
    ap₂ (λ cut fail. record h { cut_armed = cut; fail_armed = fail }) (sym quiet.cut ∙ stands.device.cut_armed) (sym quiet.fail ∙ stands.device.fail_armed)

-- A mount of a device whose host has not mounted it, while nothing is armed.
module _ (host : HostState) (old new : Device) (serves : HostServes host old) (unsettled : host.mode ≡ modes.Unsettled) (quiet : IsQuiet old.panel)
    (sound : IsSound old.medium) (x : LeavesDevice old.medium new.medium) (runs : Runs mount_calls mount_persists went old.panel new.panel) where
  asks : Asks [] old.panel new.panel
  asks = asks_of_work old.panel new.panel quiet runs

  settled_up : (after : HostState) (h : Machine) → Stands host old h → HostServes after new → BroughtUp h after new → Settled h after old.panel new
  settled_up after h stands goes_on up = record {
    starts = [];
    next = up.next;
    comes = subst (λ mode. SettlesTo mode h [] up.next) (sym unsettled ∙ stands.mode) (refl, subst (λ k. RecoveryMayLeave k up.next) (sym (already h old host quiet stands)) up.may);
    stands = up.stands;
    serves = goes_on;
    asks = asks;
    restarts = runs.orders.restarts;
  }

  -- it was done
  pub settled_taken : (after : HostState) (made : Mounted) → first_finding old.medium ≡ None → IsMounted old.medium new.medium made
      → after ≡ record host { mode = modes.On; blocks = made.blocks; volume = made.volume; files = just_mounted made.files made.events } → IsSettled host after old new
  settled_taken after made found given is =
      subst (λ k. IsSettled host k old new) (sym is) (
        refl,
        λ h stands. settled_up _ h stands (serves_taken host old new serves unsettled sound x runs found made given) (done_up host old new serves unsettled sound x h stands runs found made given),
      )

  -- a line of metadata is bad
  pub settled_bad : (after : HostState) (line : ℕ) → first_finding old.medium ≡ Some (bad_line line) → after ≡ record host { mode = modes.Stopped } → IsSettled host after old new
  settled_bad after line found is =
      subst (λ k. IsSettled host k old new) (sym is) (
        refl,
        λ h stands. settled_up _ h stands (serves_unmounted host old new serves unsettled sound x modes.Stopped (runs.cause.0 ∙ serves.power ∙ ap is_powered unsettled) (λ on. cc on)
            (λ _ none. let bad = found_bad host.geometry old.medium serves.layout sound line found in cc (none, bad.1)))
            (stopped_up host old new serves unsettled sound x h stands runs line found),
      )

  -- there was no memory for it
  pub left_unmounted : StaysUnmounted host host old new
  left_unmounted = record {
    same = refl;
    serves = subst (λ (k : HostState). HostServes k new) (ap (λ m. record host { mode = m }) (sym unsettled))
        (serves_unmounted host old new serves unsettled sound x modes.Unsettled (runs.cause.0 ∙ serves.power ∙ ap is_powered unsettled) (λ on. cc on) (λ stop. cc stop));
    asks = asks;
    restarts = runs.orders.restarts;
    stands = λ h stands. subst (Stands host new) (sym (already h old host quiet stands)) (kept_unmounted host old new serves unsettled sound x h stands runs);
  }

  -- as the host answers that it was not done
  pub stops : (f : MountFault) → Finds {T = Mounted} (first_finding old.medium) (Err f) → (after : HostState) → {E : Type 0} (r : Result (Unit {0}) E)
      → MatchResult r (λ _. (line : LineNo) × (f ≡ fault.Meta line) × (after ≡ record host { mode = modes.Stopped })) (λ _. after ≡ host) → MountsAnew r host after old new
  stops f finds after (Ok u) is = settled_bad after is.0.0 (subst (λ (f : MountFault). Finds {T = Mounted} (first_finding old.medium) (Err f)) is.1 finds) is.2
  stops f finds after (Err e) is = subst (λ k. StaysUnmounted host k old new) (sym is) left_unmounted

-- Nothing could stop it.
pub never_stopped : (f : MountFault) (p q : Panel) {a b : ℕ} → IsQuiet p → Runs a b (mount_outcome {T = Mounted} (Err f)) p q → mount_outcome {T = Mounted} (Err f) ≡ went
never_stopped (fault.Meta line) p q quiet runs = refl
never_stopped (fault.Layout at) p q quiet runs = refl
never_stopped fault.Device p q quiet runs = absurd (false≢true (sym quiet.fail ∙ runs.cause.2))
never_stopped fault.PowerLost p q quiet runs = absurd (false≢true (sym quiet.cut ∙ runs.cause.1))
never_stopped fault.Memory p q quiet runs = refl

pub never_failed : (f : MountFault) (p q : Panel) {a b : ℕ} → IsQuiet p → Runs a b (mount_outcome {T = Mounted} (Err f)) p q → f ≡ fault.Device → ⊥
never_failed fault.Device p q quiet runs is = false≢true (sym quiet.fail ∙ runs.cause.2)
never_failed fault.PowerLost p q quiet runs is = cc is
never_failed fault.Memory p q quiet runs is = cc is
never_failed (fault.Meta line) p q quiet runs is = cc is
never_failed (fault.Layout at) p q quiet runs is = cc is

pub never_lost : (f : MountFault) (p q : Panel) {a b : ℕ} → IsQuiet p → Runs a b (mount_outcome {T = Mounted} (Err f)) p q → f ≡ fault.PowerLost → ⊥
never_lost fault.PowerLost p q quiet runs is = false≢true (sym quiet.cut ∙ runs.cause.1)
never_lost fault.Device p q quiet runs is = cc is
never_lost fault.Memory p q quiet runs is = cc is
never_lost (fault.Meta line) p q quiet runs is = cc is
never_lost (fault.Layout at) p q quiet runs is = cc is

-- A restart that was refused.
pub left_waiting : (host : HostState) (old new : Device) → HostServes host old → host.mode ≡ modes.Off → IsQuiet old.panel → Waited old new → LeftUnsettled host host old old.panel new
left_waiting host old new serves off quiet x =
    let same = x.panel.counts in
    record {
      starts = [];
      few = omega arith;
      was_down = ap is_down off;
      stays_down = ap is_down off;
      serves = serves_waited host old new serves off x;
      asks = record {
        tells = x.panel.starts;
        cut_armed = stays_off old.panel.cut_armed new.panel.cut_armed quiet.cut x.panel.armed.cut;
        fail_armed = stays_off old.panel.fail_armed new.panel.fail_armed quiet.fail x.panel.armed.fail;
        calls = omega (arith, ap (λ c. c.calls) same);
        persists = omega (arith, ap (λ c. c.persists) same);
        faults = omega (arith, ap (λ c. c.faults) same);
        cuts = ap (λ c. c.cuts) same;
        offs = ap (λ c. c.offs) same;
        arms = ap (λ c. c.arms) same;
        evicts = ap (λ c. c.evicts) same;
        disarms = ap (λ c. c.disarms) same;
        setups = ap (λ c. c.setups) same;
        last_order = x.panel.last_order;
      };
      restarts = x.panel.restarts;
      once = x.panel.once;
      waiting = λ _. record { same = refl; none = refl; lines = x.lines };
      stands = λ h stands is. cc (is, off);
    }

-- A restart that was done, and then a mount.
module _ (host : HostState) (old mid new : Device) (start : Start) (serves : HostServes host old) (off : host.mode ≡ modes.Off) (quiet : IsQuiet old.panel)
    (left : Restarted Lasts old mid start) (sound_old : IsSound old.medium) (sound : IsSound mid.medium) where
  abbrev pub back : HostState
  back = record host { mode = modes.Unsettled }

  pub quiet_back : IsQuiet mid.panel
  quiet_back = record { cut = ap (λ p. p.cut_armed) left.panel ∙ quiet.cut; fail = ap (λ p. p.fail_armed) left.panel ∙ quiet.fail }

  module _ (h : Machine) (stands : Stands host old h) where
    abbrev came : Machine
    came = record (restarted h start.image) { mode = modes.Unsettled }

    stands_came : Stands back mid came
    stands_came = stands_back host Lasts old mid start serves left sound_old sound h stands

    kept : RestartMayLeave Lasts start.image h
    kept = keeps host Lasts old mid start serves left sound_old sound h stands

    is_off : modes.Off ≡ h.mode
    is_off = sym off ∙ stands.mode

  asks_back : Asks [] mid.panel new.panel → Asks (start ∷ []) old.panel new.panel
  asks_back = subst (λ p. Asks [] p new.panel → Asks (start ∷ []) old.panel new.panel) (sym left.panel) (λ a. record {
    tells = a.tells;
    cut_armed = a.cut_armed;
    fail_armed = a.fail_armed;
    calls = a.calls;
    persists = a.persists;
    faults = a.faults;
    cuts = a.cuts;
    offs = a.offs;
    arms = a.arms;
    evicts = a.evicts;
    disarms = a.disarms;
    setups = a.setups;
    last_order = a.last_order;
  })

  -- the state that it came to
  settled_from : (h : Machine) (stands : Stands host old h) (after : HostState) → Settled (came h stands) after mid.panel new → Settled h after old.panel new
  settled_from h stands after d =
      let asks = asks_back (subst (λ starts. Asks starts mid.panel new.panel) d.comes.0 d.asks) in
      record {
        starts = start ∷ [];
        next = d.next;
        comes = subst (λ mode. SettlesTo mode h (start ∷ []) d.next) (is_off h stands) (start, refl, left.asked, kept h stands, recovered_back (disarmed h) d.next start.image d.comes.1);
        stands = d.stands;
        serves = d.serves;
        asks = asks;
        restarts = subst (λ starts. new.panel.counts.restarts ≡ bumped_by starts mid.panel.counts.restarts) d.comes.0 d.restarts ∙ ap (λ p. p.counts.restarts) left.panel;
      }

  pub settled_back : (after : HostState) → IsSettled back after mid new → IsSettled host after old new
  settled_back after d = (d.0, λ h stands. settled_from h stands after (d.1 (came h stands) (stands_came h stands)))

  -- or the device was not mounted
  pub left_back : (after : HostState) → StaysUnmounted back after mid new → LeftUnsettled host after old old.panel new
  left_back after d =
      let restarts = d.restarts ∙ ap (λ p. p.counts.restarts) left.panel in
      record {
        starts = start ∷ [];
        few = omega arith;
        was_down = ap is_down off;
        stays_down = ap (λ (k : HostState). is_down k.mode) d.same;
        serves = d.serves;
        asks = asks_back d.asks;
        restarts = omega (arith, restarts);
        once = omega (arith, restarts);
        waiting = λ is. let came : after.mode ≡ modes.Unsettled = ap (λ (k : HostState). k.mode) d.same in cc (came, is);
        stands = λ h stands is. (
          record (restarted (disarmed h) start.image) { mode = modes.Unsettled },
          subst (λ mode. LeavesUnmounted mode h (start ∷ []) (record (restarted (disarmed h) start.image) { mode = modes.Unsettled })) (sym off)
              (start, refl, left.asked, kept h stands, refl),
          d.stands (came h stands) (stands_came h stands),
        );
      }

  -- however the mount was answered
  pub settles_back : {E : Type 0} (r : Result (Unit {0}) E) (after : HostState) → MountsAnew r back after mid new → Settles r host after old new
  settles_back (Ok u) after d = settled_back after d
  settles_back (Err e) after d = left_back after d

-- A device that is disarmed first.
module _ (host : HostState) (old quiet : Device) (serves : HostServes host old) (w : WritesBack old.medium quiet.medium) (panel : quiet.panel ≡ after_disarm old.panel) where
  pub serves_disarmed : HostServes host quiet
  serves_disarmed = serves_ordered host host.mode old quiet serves w (ap (λ p. p.power) panel ∙ serves.power) (λ on. on) (λ stop. stop)

  pub is_disarmed : IsQuiet quiet.panel
  is_disarmed = record { cut = ap (λ p. p.cut_armed) panel; fail = ap (λ p. p.fail_armed) panel }

  stands_disarmed : (h : Machine) → Stands host old h → Stands host quiet (disarmed h)
  stands_disarmed h stands = stands_ordered host old quiet h (disarmed h) stands serves w refl (ap (λ p. p.unit) panel) (ap (λ p. p.power) panel) (ap (λ p. p.cut_armed) panel) (ap (λ p. p.fail_armed) panel)

  -- that what is armed is no part of what a settling comes to
  keeps_disarmed : (h : Machine) (start : Start) → RestartMayLeave Lasts start.image (disarmed h) → RestartMayLeave Lasts start.image h
  keeps_disarmed h start k = record {
    unit = k.unit;
    metadata = k.metadata;
    storage = λ good.
        let kept = k.storage good in
        record {
          blocks = kept.blocks;
          left = kept.left;
          may = kept.may;
          there = kept.there;
          volume = kept.volume;
          files_left = kept.files_left;
          may_files = kept.may_files;
          files = kept.files;
        };
  }

  comes_disarmed : (h : Machine) (mode : Mode) (starts : List Start) (next : Machine) → SettlesTo mode (disarmed h) starts next → SettlesTo mode h starts next
  comes_disarmed h modes.On starts next c = c
  comes_disarmed h modes.Off starts next c = (c.0, c.1, c.2, keeps_disarmed h c.0 c.3, c.4)
  comes_disarmed h modes.Unsettled starts next c = c
  comes_disarmed h modes.Stopped starts next c = c

  leaves_disarmed : (h : Machine) (mode : Mode) (starts : List Start) (next : Machine) → LeavesUnmounted mode (disarmed h) starts next → LeavesUnmounted mode h starts next
  leaves_disarmed h modes.On starts next c = c
  leaves_disarmed h modes.Off starts next c = (c.0, c.1, c.2, keeps_disarmed h c.0 c.3, c.4)
  leaves_disarmed h modes.Unsettled starts next c = c
  leaves_disarmed h modes.Stopped starts next c = c

  -- of a host that was on, or stopped
  still : (mode : Mode) → is_down mode ≡ false → (h : Machine) → SettlesTo mode h [] (disarmed h)
  still modes.On up h = (refl, refl)
  still modes.Off up h = cc up
  still modes.Unsettled up h = cc up
  still modes.Stopped up h = (refl, refl)

  pub settled_on : is_down host.mode ≡ false → (h : Machine) → Stands host old h → Settled h host (after_disarm old.panel) quiet
  settled_on up h stands = record {
    starts = [];
    next = disarmed h;
    comes = still h.mode (ap is_down (sym stands.mode) ∙ up) h;
    stands = stands_disarmed h stands;
    serves = serves_disarmed;
    asks = subst (Asks [] (after_disarm old.panel)) (sym panel) (record {
      tells = refl;
      cut_armed = refl;
      fail_armed = refl;
      calls = omega arith;
      persists = omega arith;
      faults = omega arith;
      cuts = refl;
      offs = refl;
      arms = refl;
      evicts = refl;
      disarms = refl;
      setups = refl;
      last_order = refl;
    });
    restarts = ap (λ p. p.counts.restarts) panel;
  }

  -- of one that was not
  module _ (after : HostState) (new : Device) where
    pub settled_disarmed : IsSettled host after quiet new → (h : Machine) → Stands host old h → Settled h after (after_disarm old.panel) new
    settled_disarmed d h stands =
        let s = d.1 (disarmed h) (stands_disarmed h stands) in
        subst (λ p. Settled h after p new) panel (record {
          starts = s.starts;
          next = s.next;
          comes = comes_disarmed h h.mode s.starts s.next s.comes;
          stands = s.stands;
          serves = s.serves;
          asks = s.asks;
          restarts = s.restarts;
        })

    pub left_disarmed : LeftUnsettled host after quiet quiet.panel new → LeftUnsettled host after old (after_disarm old.panel) new
    left_disarmed d =
        subst (λ p. LeftUnsettled host after old p new) panel (record {
          starts = d.starts;
          few = d.few;
          was_down = d.was_down;
          stays_down = d.stays_down;
          serves = d.serves;
          asks = d.asks;
          restarts = d.restarts;
          once = d.once;
          waiting = λ is. let stays = d.waiting is in record { same = stays.same; none = stays.none; lines = waits-after old.panel.unit old.medium quiet.medium new.medium w (subst (λ u. Waits u quiet.medium new.medium) (ap (λ p. p.unit) panel) stays.lines) };
          stands = λ h stands is.
              let l = d.stands (disarmed h) (stands_disarmed h stands) is in
              (l.0, leaves_disarmed h host.mode d.starts l.0 l.1, l.2);
        })

    -- a mount alone
    pub left_remounting : host.mode ≡ modes.Unsettled → StaysUnmounted host after quiet new → LeftUnsettled host after quiet quiet.panel new
    left_remounting unsettled d = record {
      starts = [];
      few = omega arith;
      was_down = ap is_down unsettled;
      stays_down = ap (λ (k : HostState). is_down k.mode) d.same ∙ ap is_down unsettled;
      serves = d.serves;
      asks = d.asks;
      restarts = omega (arith, d.restarts);
      once = omega (arith, d.restarts);
      waiting = λ is. let still : after.mode ≡ modes.Unsettled = ap (λ (k : HostState). k.mode) d.same ∙ unsettled in cc (still, is);
      stands = λ h stands is. (disarmed h, subst (λ mode. LeavesUnmounted mode h [] (disarmed h)) (sym unsettled) (refl, refl), d.stands h stands);
    }

    -- by the answer of what is done after it
    pub settled_of_back : {E : Type 0} (r : Result (Unit {0}) E) → Settles r host after quiet new → OnOk r ((h : Machine) → Stands host old h → Settled h after (after_disarm old.panel) new)
    settled_of_back (Ok u) d = settled_disarmed d
    settled_of_back (Err e) d = tt

    pub left_of_back : {E : Type 0} (r : Result (Unit {0}) E) → Settles r host after quiet new → OnErr r (LeftUnsettled host after old (after_disarm old.panel) new)
    left_of_back (Ok u) d = tt
    left_of_back (Err e) d = left_disarmed d

    pub settled_of_mount : {E : Type 0} (r : Result (Unit {0}) E) → MountsAnew r host after quiet new → OnOk r ((h : Machine) → Stands host old h → Settled h after (after_disarm old.panel) new)
    settled_of_mount (Ok u) d = settled_disarmed d
    settled_of_mount (Err e) d = tt

    pub left_of_mount : {E : Type 0} (r : Result (Unit {0}) E) → host.mode ≡ modes.Unsettled → MountsAnew r host after quiet new
        → OnErr r (LeftUnsettled host after old (after_disarm old.panel) new)
    left_of_mount (Ok u) unsettled d = tt
    left_of_mount (Err e) unsettled d = left_disarmed (left_remounting unsettled d)
