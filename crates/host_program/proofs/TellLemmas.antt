-- What a device told as it was set up, and of a run that ended early.
use Rattle.std.proofs.Common.{ℕ, [], ◌∷◌, inl, inr, refl, sym, ap, subst, ◌∙◌, arith}
use Rattle.line_device.specs.Panel.{Panel, ArmsNothing, after_restart}
use Rattle.line_device.proofs.PanelLemmas.{arms_nothing-refl}
use Rattle.line_device.specs.Device.{Device}
use Rattle.line_device.specs.declared.line.Choice.{Choice}
use Rattle.script_text.specs.Action.{Action}
use Rattle.machine_host.specs.Machine.{Machine}
use Rattle.machine_host.specs.Run.{Transcript, followed_by}
use Rattle.machine_host.specs.Telling.{Tells}
use Rattle.machine_host.specs.Stands.{HostState}
use Rattle.machine_host.specs.Costs.{Opens}
use Rattle.machine_host.specs.Commands.{meaning}
use Rattle.machine_host.specs.Faults.{Leaves, LeavesStarved, LeftUnmounted}
use Rattle.machine_host.specs.Meaning.{Starved}
use Rattle.machine_host.specs.Meaning.Starved.{Untouched, WrittenBack, Unmounted, Unrecovered}
use Rattle.machine_host.proofs.RunLemmas.{tells_then}
use Rattle.host_program.specs.Whole.{TellsFirst, GoesUnanswered}
use Rattle.program_base.specs.Opening.{opening}

pub unanswered-none : (p : Panel) → GoesUnanswered p p
unanswered-none p = record {
  more = [];
  few = omega arith;
  armed = arms_nothing-refl p;
  starts = refl;
  restarts = omega arith;
  once = omega arith;
  last_order = refl;
  arms = refl;
  offs = refl;
  faults = omega arith;
  cuts = omega arith;
  calls = omega arith;
  persists = omega arith;
  evicts = refl;
  disarms = refl;
}

-- opened, and then a run
pub tells_first-after : (disarmed : ℕ → ℕ) (s : Transcript) (h : Machine) (p q r : Panel) → Tells opening p q → TellsFirst disarmed s h q r
    → TellsFirst disarmed (followed_by opening s) h p r
tells_first-after disarmed s h p q r opened first = record {
  between = first.between;
  tells = tells_then opening s p q first.between opened first.tells;
  cut_armed = first.cut_armed;
  fail_armed = first.fail_armed;
  left = first.left;
}

-- a restart without a mount
unanswered-unmounted : (choice : Choice) (host state : HostState) (old new : Device) → LeftUnmounted choice host state old new → GoesUnanswered old.panel new.panel
unanswered-unmounted choice host state old new left =
    let opens = left.opens in
    let panel = left.restarted.panel in
    let after : ArmsNothing (after_restart old.panel left.start) new.panel = subst (λ p. ArmsNothing p new.panel) panel opens.armed in
    let counts = ap (λ (p : Panel). p.counts) panel in
    record {
      more = left.start ∷ [];
      armed = record { cut = after.cut; fail = after.fail };
      few = omega arith;
      starts = opens.orders.starts ∙ ap (λ p. p.starts) panel;
      restarts = omega (arith, opens.orders.restarts, ap (λ c. c.restarts) counts);
      once = omega (arith, opens.orders.restarts, ap (λ c. c.restarts) counts);
      last_order = opens.orders.last_order ∙ ap (λ p. p.last_order) panel;
      arms = opens.orders.arms ∙ ap (λ c. c.arms) counts;
      offs = opens.orders.offs ∙ ap (λ c. c.offs) counts;
      faults = omega (arith, opens.faults, ap (λ c. c.faults) counts);
      cuts = omega (arith, opens.cuts, ap (λ c. c.cuts) counts);
      calls = omega (arith, opens.calls, ap (λ c. c.calls) counts);
      persists = omega (arith, opens.persists, ap (λ c. c.persists) counts);
      evicts = opens.orders.evicts ∙ ap (λ c. c.evicts) counts;
      disarms = opens.orders.disarms ∙ ap (λ c. c.disarms) counts;
    }

-- a mount that was not done
unanswered-opens : (p q : Panel) → Opens p q → GoesUnanswered p q
unanswered-opens p q opens = record {
  more = [];
  few = omega arith;
  starts = opens.orders.starts;
  restarts = omega (arith, opens.orders.restarts);
  once = omega (arith, opens.orders.restarts);
  armed = opens.armed;
  last_order = opens.orders.last_order;
  arms = opens.orders.arms;
  offs = opens.orders.offs;
  faults = opens.faults;
  cuts = opens.cuts;
  calls = opens.calls;
  persists = opens.persists;
  evicts = opens.orders.evicts;
  disarms = opens.orders.disarms;
}

-- what was left where memory ran out, by its row
unanswered-starved : (starved : Starved) (host after : HostState) (old new : Device) → LeavesStarved starved host after old new → GoesUnanswered old.panel new.panel
unanswered-starved Untouched host after old new left = subst (λ (d : Device). GoesUnanswered old.panel d.panel) (sym left.1) (unanswered-none old.panel)
unanswered-starved WrittenBack host after old new left = subst (GoesUnanswered old.panel) (sym left.2) (unanswered-none old.panel)
unanswered-starved (Unmounted choice) host after old new (inl (same, inl is)) = subst (λ (d : Device). GoesUnanswered old.panel d.panel) (sym is) (unanswered-none old.panel)
unanswered-starved (Unmounted choice) host after old new (inl (same, inr waits)) =
    let refused = waits.panel in
    let counts = refused.counts in
    record {
      more = [];
      few = omega arith;
      starts = refused.starts;
      restarts = refused.restarts;
      once = refused.once;
      armed = refused.armed;
      last_order = refused.last_order;
      arms = ap (λ c. c.arms) counts;
      offs = ap (λ c. c.offs) counts;
      faults = omega (arith, ap (λ c. c.faults) counts);
      cuts = omega (arith, ap (λ c. c.cuts) counts);
      calls = omega (arith, ap (λ c. c.calls) counts);
      persists = omega (arith, ap (λ c. c.persists) counts);
      evicts = ap (λ c. c.evicts) counts;
      disarms = ap (λ c. c.disarms) counts;
    }
unanswered-starved (Unmounted choice) host after old new (inr left) = unanswered-unmounted choice host after old new left
unanswered-starved Unrecovered host after old new left = unanswered-opens old.panel new.panel left.opens

-- a command that had no memory for its answer
pub unanswered-left : (action : Action) (host after : HostState) (old new : Device) → Leaves action host after old new → GoesUnanswered old.panel new.panel
unanswered-left action host after old new left = unanswered-starved (meaning action).starved host after old new left
