-- An image that is opened, and one that is not.
use Rattle.std.proofs.Common.{◌≡◌, ℕ, ◌/◌, ◌%◌, List, [], slice_get, Option, Some, None, refl, sym, ap, subst, ◌∙◌, arith}
use Rattle.host_io.specs.Images.{Held}
use Rattle.host_io.specs.declared.images.ImageCounts.{ImageCounts}
use Rattle.image_file.specs.Devices.{image_of, medium_of, told_values}
use Rattle.image_file.specs.Text.{Snapshot}
use Rattle.image_file.specs.declared.Units.{Units}
use Rattle.line_device.specs.History.{newest}
use Rattle.line_device.specs.Word.{word_at}
use Rattle.line_words.specs.Words.{IsOnly}
use Rattle.line_device.proofs.HistoryLemmas.{is_in-one}
use Rattle.line_device.specs.Device.{Device}
use Rattle.line_device.specs.Medium.{Medium}
use Rattle.line_device.specs.Panel.{Outcome, Panel, Runs, SetsUp, with_unit}
use Rattle.line_device.specs.Panel.Outcome.{went}
use Rattle.line_device.specs.declared.line.LineState.{LineState}
use Rattle.line_device.specs.declared.line.LineState.TheVariants.{Healthy, Weak, Bad}
use Rattle.line_device.proofs.PanelLemmas.{arms_nothing-trans, same_orders-then}
use Rattle.machine_host.specs.Costs.{Opens, mount_calls, mount_persists}
use Rattle.machine_model.specs.declared.mode.Mode.TheVariants as modes
use Rattle.machine_host.specs.Lines.{bad_metadata}
use Rattle.machine_host.specs.Machine.{Machine}
use Rattle.machine_host.specs.Restarting.{reading}
use Rattle.machine_host.specs.Stands.{HostState, HostServes, IsFlushed, Stands}
use Rattle.machine_host.proofs.LayoutLemmas.{none_bad}
use Rattle.machine_host.proofs.MountedLemmas.{layout_found}
use Rattle.machine_host.proofs.ReadingLemmas.{read_whole}
use Rattle.recovery.specs.Findings.{first_finding, geometry_told}
use Rattle.program_base.specs.Opening.{IsHeld, Mounts, StaysClosed, StaysUnmounted, opened, opening}
use Rattle.program_base.specs.declared.ending.Ending.{Ending}
use Rattle.program_base.specs.declared.ending.Ending.TheVariants.{Usage, Image, Layout, Meta, Read, Write, Memory, Script}
use Rattle.program_base.specs.declared.ending.Ending.TheVariants as endings
use Rattle.machine_host.specs.Telling.{Tells}

-- setting up and mounting
pub opens-set_up : (end : Outcome) (p q : Panel) → SetsUp end (with_unit p q.unit) q → Opens p q
opens-set_up end p q sets = record {
  faults = sets.faults;
  cuts = sets.cuts;
  calls = omega (arith, sets.calls);
  persists = omega (arith, sets.persists);
  setups = sets.setups;
  armed = record { cut = sets.armed.cut; fail = sets.armed.fail };
  orders = sets.orders;
}

pub tells_opening : (p q : Panel) → Opens p q → Tells opening p q
tells_opening p q opens = record {
  starts = opens.orders.starts;
  restarts = opens.orders.restarts;
  orders = opens.orders.last_order;
  arms = opens.orders.arms;
  offs = omega (arith, opens.orders.offs);
  faults = opens.faults;
  cuts = opens.cuts;
  calls = opens.calls;
  persists = opens.persists;
  setups = opens.setups;
  evicts = opens.orders.evicts;
  disarms = opens.orders.disarms;
}

-- each word of an image has one value
pub flushed_of_image : (lines : List LineState) → IsFlushed (medium_of lines)
flushed_of_image lines p there = by_line (slice_get lines (p / 8)) (p % 8)
  where
    by_line : (line : Option LineState) (w : ℕ) → IsOnly (newest (told_values line w)) (told_values line w)
    by_line None w v at = absurd at
    by_line (Some (Healthy bytes)) w v at = is_in-one v (word_at bytes w) at
    by_line (Some (Weak bytes)) w v at = is_in-one v (word_at bytes w) at
    by_line (Some Bad) w v at = absurd at

-- a right image has no bad line of metadata
pub good_image : (lines : List LineState) → first_finding (medium_of lines) ≡ None → bad_metadata (geometry_told (medium_of lines)) (medium_of lines).is_bad ≡ []
good_image lines right = let m = medium_of lines in none_bad (geometry_told m) m (layout_found m (flushed_of_image lines) right).good

-- so the machine is on as it begins
pub on_opened : (image : Snapshot) → first_finding (medium_of image.lines) ≡ None → (opened image).mode ≡ modes.On
on_opened image right = ap (λ (h : Machine). h.mode) (read_whole (geometry_told (medium_of image.lines)) (image_of image.unit image.lines) (good_image image.lines right))

-- set up and mounted
pub opens-mounted : (end : Outcome) (p q r : Panel) → SetsUp went (with_unit p q.unit) q → Runs mount_calls mount_persists end q r → Opens p r
opens-mounted end p q r sets runs = record {
  faults = omega (arith, sets.faults, runs.faults);
  cuts = omega (arith, sets.cuts, runs.cuts);
  calls = omega (arith, sets.calls, runs.few_calls);
  persists = omega (arith, sets.persists, runs.few_persists);
  setups = omega (arith, sets.setups, runs.setups);
  armed = arms_nothing-trans p q r (record { cut = sets.armed.cut; fail = sets.armed.fail }) runs.armed;
  orders = same_orders-then p q r sets.orders runs.orders;
}

-- an image that was mounted
pub mounts : (image : Snapshot) (host : HostState) (old mid new : Device) → mid.medium ≡ medium_of image.lines → SetsUp went (with_unit old.panel mid.panel.unit) mid.panel
    → first_finding mid.medium ≡ None → new.medium.count ≡ mid.medium.count → HostServes host new
    → Stands host new (record (reading (geometry_told mid.medium) (image_of image.unit image.lines)) { cut_armed = new.panel.cut_armed; fail_armed = new.panel.fail_armed })
    → Runs mount_calls mount_persists went mid.panel new.panel → Mounts image host old new
mounts image host old mid new is sets found count serves stands runs =
    let armed = arms_nothing-trans old.panel mid.panel new.panel (record { cut = sets.armed.cut; fail = sets.armed.fail }) runs.armed in
    record {
      right = sym (ap first_finding is) ∙ found;
      count = count ∙ ap (λ (m : Medium). m.count) is;
      serves = serves;
      tells = tells_opening old.panel new.panel (opens-mounted went old.panel mid.panel new.panel sets runs);
      begin = record (opened image) { cut_armed = new.panel.cut_armed; fail_armed = new.panel.fail_armed };
      begins = record { state = refl; cut = armed.cut; fail = armed.fail };
      stands = subst (λ (m : Medium). Stands host new (record (reading (geometry_told m) (image_of image.unit image.lines)) { cut_armed = new.panel.cut_armed; fail_armed = new.panel.fail_armed })) is stands;
    }

-- an image that was not mounted was not opened
pub closed_unmounted : (units : Units) (name : List ℕ) (held : Option Held) (image : Snapshot) (ending : Ending) (counted counts : ImageCounts) (old new : Panel) → IsHeld units name held image
    → StaysUnmounted image ending old new → StaysClosed units name held ending counted counts old new
closed_unmounted units name held image (Layout place) counted counts old new there is = (image, there, is)
closed_unmounted units name held image (Meta line) counted counts old new there is = (image, there, is)
closed_unmounted units name held image Memory counted counts old new there is = tt
closed_unmounted units name held image endings.Device counted counts old new there is = (image, there, is)
closed_unmounted units name held image Usage counted counts old new there is = is
closed_unmounted units name held image (Image offset) counted counts old new there is = absurd is
closed_unmounted units name held image Read counted counts old new there is = absurd is
closed_unmounted units name held image Write counted counts old new there is = is
closed_unmounted units name held image Script counted counts old new there is = is
