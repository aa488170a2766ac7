-- A run that is over: host and device are brought to rest, and the device is read out.
use Rattle.std.proofs.Common.{◌≡◌, ℕ, ◌+◌, ◌/◌, ◌≤◌, false, List, [], ◌∷◌, length, sym, ap, subst, ◌∙◌, arith}
use Rattle.std.proofs.lemmas.Bool.{false≢true}
use Rattle.line_device.specs.Medium.{WritesBack}
use Rattle.line_device.specs.Panel.{ArmsNothing, Panel, SetsUp, Outcome, Start, after_disarm}
use Rattle.line_device.specs.Panel.Outcome.{went}
use Rattle.line_device.specs.Device.{Device}
use Rattle.image_file.specs.Text.{FitImage}
use Rattle.word_tables.specs.Layout.{volume_line}
use Rattle.block_device.proofs.ReachLemmas.{each_reads-write_back}
use Rattle.nvm_model.proofs.KeptLemmas.{line_kept-write_back}
use Rattle.pm_volume.proofs.StandingLemmas.{each_pages-kept, images-kept}
use Rattle.machine_host.proofs.FilesAsideLemmas.{files_elsewhere}
use Rattle.machine_model.specs.declared.mode.Mode.{Mode}
use Rattle.machine_model.specs.declared.mode.Mode.TheVariants as modes
use Rattle.machine_host.specs.Commands.{MayLeaveBlocks, MayLeaveFiles, MayLeaveVolume}
use Rattle.machine_host.specs.Machine.{Machine}
use Rattle.machine_host.specs.Restarting.{reading}
use Rattle.machine_host.specs.Settling.{Asks, LeftUnsettled, SettlesTo, disarmed}
use Rattle.machine_model.specs.Recovering.{RecoversTo}
use Rattle.machine_host.specs.Stands.{DeviceStands, HostServes, HostState}
use Rattle.machine_host.specs.Telling.{bumped_by}
use Rattle.machine_host.proofs.LayoutLemmas.{layout-write_back, metadata-then}
use Rattle.machine_host.proofs.SettlingLemmas.{stays_off}
use Rattle.host_program.specs.Whole.{GoesToRest}
use Rattle.host_program.proofs.AgainLemmas.{fit_image}

-- what is off arms nothing
arms_off : (old new : Panel) → new.cut_armed ≡ false → new.fail_armed ≡ false → ArmsNothing old new
arms_off old new cut fail = record { cut = λ is. absurd (false≢true (sym cut ∙ is)); fail = λ is. absurd (false≢true (sym fail ∙ is)) }

-- a settling tells at most one start
few_starts : (mode : Mode) (h next : Machine) (starts : List Start) → SettlesTo mode h starts next → length starts ≤ 1
few_starts modes.On h next starts comes = omega (arith, ap length comes.0)
few_starts modes.Off h next starts comes = omega (arith, ap length comes.1)
few_starts modes.Unsettled h next starts comes = omega (arith, ap length comes.0)
few_starts modes.Stopped h next starts comes = omega (arith, ap length comes.0)

-- nor does it change the unit
unit_recovered : (bad : List ℕ) (h next : Machine) → RecoversTo bad h next → next.unit ≡ h.unit
unit_recovered [] h next to = ap (λ (m : Machine). m.unit) to.state
unit_recovered (line ∷ lines) h next to = ap (λ (m : Machine). m.unit) to

pub unit_settles : (mode : Mode) (h next : Machine) (starts : List Start) → SettlesTo mode h starts next → next.unit ≡ h.unit
unfolding reading
unit_settles modes.On h next starts comes = ap (λ (m : Machine). m.unit) comes.1
unit_settles modes.Off h next starts comes = ap (λ (m : Machine). m.unit) comes.4 ∙ comes.3.unit
unit_settles modes.Unsettled h next starts comes = unit_recovered h.bad_meta (disarmed h) next comes.1
unit_settles modes.Stopped h next starts comes = ap (λ (m : Machine). m.unit) comes.1

bumped_once : (starts : List Start) (count : ℕ) → length starts ≤ 1 → bumped_by starts count ≤ count + 1
bumped_once [] count few = omega arith
bumped_once (start ∷ []) count few = omega arith
bumped_once (start ∷ next ∷ starts) count few = absurd (omega (arith, few))

-- A settling that had no memory is left behind; so is one that was done, where the device was not read out, or the image not stored.
pub rests-unsettled : (host after : HostState) (old new : Device) → LeftUnsettled host after old (after_disarm old.panel) new → GoesToRest old.panel new.panel
rests-unsettled host after old new left =
    let asks = left.asks in
    record {
      more = left.starts;
      few = left.few;
      starts = asks.tells;
      restarts = left.restarts;
      once = left.once;
      armed = arms_off old.panel new.panel asks.cut_armed asks.fail_armed;
      last_order = asks.last_order;
      arms = asks.arms;
      offs = asks.offs;
      faults = asks.faults;
      cuts = omega (arith, asks.cuts);
      calls = asks.calls;
      persists = asks.persists;
      evicts = asks.evicts;
      disarms = asks.disarms;
    }

pub rests-settled : (mode : Mode) (h next : Machine) (starts : List Start) (end : Outcome) (old rest new : Panel) → SettlesTo mode h starts next → Asks starts (after_disarm old) rest
    → rest.counts.restarts ≡ bumped_by starts (after_disarm old).counts.restarts → SetsUp end rest new → GoesToRest old new
rests-settled mode h next starts end old rest new comes asks restarts sets =
    let few = few_starts mode h next starts comes in
    record {
      more = starts;
      few = few;
      starts = sets.orders.starts ∙ asks.tells;
      restarts = omega (arith, sets.orders.restarts, restarts);
      once = omega (arith, sets.orders.restarts, restarts, bumped_once starts old.counts.restarts few);
      armed = arms_off old new (stays_off rest.cut_armed new.cut_armed asks.cut_armed sets.armed.cut) (stays_off rest.fail_armed new.fail_armed asks.fail_armed sets.armed.fail);
      last_order = sets.orders.last_order ∙ asks.last_order;
      arms = sets.orders.arms ∙ asks.arms;
      offs = sets.orders.offs ∙ asks.offs;
      faults = omega (arith, sets.faults, asks.faults);
      cuts = omega (arith, sets.cuts, asks.cuts);
      calls = omega (arith, sets.calls, asks.calls);
      persists = omega (arith, sets.persists, asks.persists);
      evicts = sets.orders.evicts ∙ asks.evicts;
      disarms = sets.orders.disarms ∙ asks.disarms;
    }

-- A host that serves may have its device read out.
pub fit_served : (host : HostState) (d : Device) → HostServes host d → FitImage d.medium.count
fit_served host d serves = subst FitImage (sym serves.layout.lines) (fit_image host.geometry serves.layout.valid)

-- It stands for the same state then.
pub stands-read_out : (h : Machine) (old new : Device) → DeviceStands old h → WritesBack old.medium new.medium → SetsUp went old.panel new.panel → new.panel.power ≡ old.panel.power
    → h.cut_armed ≡ false → h.fail_armed ≡ false → DeviceStands new h
stands-read_out h old new stands w sets power cut fail = record {
  unit = sets.orders.unit ∙ stands.unit;
  metadata = metadata-then h.geometry old.medium new.medium h.bad_meta (layout-write_back h.geometry old.medium new.medium stands.metadata.layout w) (λ n below. w.bad n) stands.metadata;
  blocks = λ none. each_reads-write_back h.geometry old.medium new.medium (MayLeaveBlocks h.interrupted h.blocks) w (stands.blocks none);
  volume = λ none.
      each_pages-kept h.geometry old.medium new.medium (MayLeaveVolume h.geometry h.interrupted h.volume)
      (λ image is. images-kept h.geometry old.medium new.medium (λ p of. line_kept-write_back old.medium new.medium (p / 8) w) image is)
      (λ n below. line_kept-write_back old.medium new.medium (volume_line h.geometry n) w) (stands.volume none);
  files = λ none.
      files_elsewhere h.geometry old.medium new.medium (λ line of. line_kept-write_back old.medium new.medium line w) (MayLeaveFiles h.mappings h.interrupted h.files) (stands.files none);
  power = power ∙ stands.power;
  cut_armed = stays_off old.panel.cut_armed new.panel.cut_armed (stands.cut_armed ∙ cut) sets.armed.cut ∙ sym cut;
  fail_armed = stays_off old.panel.fail_armed new.panel.fail_armed (stands.fail_armed ∙ fail) sets.armed.fail ∙ sym fail;
  whole = stands.whole;
  stopped = stands.stopped;
}
