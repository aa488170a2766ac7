-- What an interruption leaves of the panel, and what the panel tells of work.
use Rattle.std.proofs.Common.{◌≡◌, ℕ, ◌≤◌, true, IsTrue, None, Err, refl, sym, subst, ◌∙◌, arith}
use Rattle.line_device.specs.Panel.{Panel, Runs}
use Rattle.line_device.specs.Panel.Outcome.{went}
use Rattle.line_words.specs.declared.interruption.Interruption.{Interruption}
use Rattle.line_words.specs.declared.interruption.Interruption.TheVariants.{Failed, PowerLost}
use Rattle.line_words.specs.Ending.{ended}
use Rattle.reply_text.specs.Answer.{Answer}
use Rattle.machine_model.specs.Machine.{Machine}
use Rattle.machine_model.specs.Interrupted.{Interrupts, may_come, interrupted_answer, interrupted_mode, stop_in}
use Rattle.machine_model.specs.Costs.{Spending}
use Rattle.machine_model.specs.Run.{answered, worked}
use Rattle.machine_model.specs.Telling.{Tells, cuts_after, faults_after}
use Rattle.machine_model.specs.declared.mode.Mode.TheVariants as modes
use Rattle.machine_host.specs.Stands.{is_powered}

-- the state after an interruption, with what is armed then
abbrev pub struck : Machine → Interruption → Panel → Machine
struck h by p = record h { mode = interrupted_mode by; cut_armed = p.cut_armed; fail_armed = p.fail_armed }

module _ (by : Interruption) (h : Machine) (a b : ℕ) (p q : Panel) (runs : Runs a b (ended {T = Unit {0}} (Err by)) p q) where
  -- what stopped the work may come in the state
  pub interrupts : p.cut_armed ≡ h.cut_armed → p.fail_armed ≡ h.fail_armed → Interrupts by h (struck h by q)
  interrupts cut fail = record {
    armed = by_cause by runs;
    state = refl;
    cut = λ t. subst IsTrue cut (runs.armed.cut t);
    fail = λ t. subst IsTrue fail (runs.armed.fail t);
  }
    where
      by_cause : (x : Interruption) → Runs a b (ended {T = Unit {0}} (Err x)) p q → IsTrue (may_come x h)
      by_cause Failed r = subst IsTrue fail r.cause.2
      by_cause PowerLost r = subst IsTrue cut r.cause.1

  pub power_struck : p.power ≡ true → q.power ≡ is_powered (interrupted_mode by)
  power_struck on = by_cause by runs
    where
      by_cause : (x : Interruption) → Runs a b (ended {T = Unit {0}} (Err x)) p q → q.power ≡ is_powered (interrupted_mode x)
      by_cause Failed r = r.cause.0 ∙ on
      by_cause PowerLost r = r.cause.0

-- and the count of it rose
pub risen_faults : (by : Interruption) {a b : ℕ} (p q : Panel) → Runs a b (ended {T = Unit {0}} (Err by)) p q → faults_after (stop_in (interrupted_answer by)) p.counts.faults ≤ q.counts.faults
risen_faults Failed p q runs = runs.cause.3
risen_faults PowerLost p q runs = runs.faults

pub risen_cuts : (by : Interruption) {a b : ℕ} (p q : Panel) → Runs a b (ended {T = Unit {0}} (Err by)) p q → cuts_after (stop_in (interrupted_answer by)) p.counts.cuts ≤ q.counts.cuts
risen_cuts Failed p q runs = runs.cuts
risen_cuts PowerLost p q runs = runs.cause.2

pub never_on : (by : Interruption) → interrupted_mode by ≡ modes.On → ⊥
never_on Failed on = cc on
never_on PowerLost on = cc on

pub never_stops : (by : Interruption) → interrupted_mode by ≡ modes.Stopped → ⊥
never_stops Failed stop = cc stop
never_stops PowerLost stop = cc stop

-- what the panel tells of work that went well, or was interrupted, within what may be spent
module _ (spent : Spending) (a b : ℕ) (few : a ≤ spent.calls) (few_persists : b ≤ spent.persists) (p q : Panel) where
  pub tells_work : (answer : Answer) → stop_in answer ≡ None → Runs a b went p q → Tells (worked spent answer) p q
  tells_work answer quiet runs = record {
    starts = runs.orders.starts;
    restarts = runs.orders.restarts;
    orders = runs.orders.last_order;
    arms = runs.orders.arms;
    offs = omega (arith, runs.orders.offs);
    faults = subst (λ o. faults_after o p.counts.faults ≤ q.counts.faults) (sym quiet) runs.faults;
    cuts = subst (λ o. cuts_after o p.counts.cuts ≤ q.counts.cuts) (sym quiet) runs.cuts;
    calls = omega (arith, runs.few_calls, few);
    persists = omega (arith, runs.few_persists, few_persists);
    evicts = runs.orders.evicts;
    setups = omega (arith, runs.setups);
    disarms = runs.orders.disarms;
  }

  pub tells_interrupted : (by : Interruption) → Runs a b (ended {T = Unit {0}} (Err by)) p q → Tells (worked spent (interrupted_answer by)) p q
  tells_interrupted by runs = record {
    starts = runs.orders.starts;
    restarts = runs.orders.restarts;
    orders = runs.orders.last_order;
    arms = runs.orders.arms;
    offs = omega (arith, runs.orders.offs);
    faults = risen_faults by p q runs;
    cuts = risen_cuts by p q runs;
    calls = omega (arith, runs.few_calls, few);
    persists = omega (arith, runs.few_persists, few_persists);
    evicts = runs.orders.evicts;
    setups = omega (arith, runs.setups);
    disarms = runs.orders.disarms;
  }

pub tells_nothing : (answer : Answer) → stop_in answer ≡ None → (p : Panel) → Tells (answered answer) p p
tells_nothing answer quiet p = record {
  starts = refl;
  restarts = refl;
  orders = refl;
  arms = refl;
  offs = omega arith;
  faults = subst (λ o. faults_after o p.counts.faults ≤ p.counts.faults) (sym quiet) (omega arith);
  cuts = subst (λ o. cuts_after o p.counts.cuts ≤ p.counts.cuts) (sym quiet) (omega arith);
  calls = omega arith;
  persists = omega arith;
  evicts = refl;
  setups = omega arith;
  disarms = refl;
}
