-- A workload on a new device, from its mounting to its summary.
use Rattle.std.proofs.Common.{◌≡◌, inl, inr, ℕ, ◌++◌, None, Ok, Err, refl, sym, ap, subst, ◌∙◌, append-nil, lit≤, arith}
use Rattle.std.specs.Io.KnownBytes.{Appends}
use Rattle.line_device.specs.Device.{Depicts, Device}
use Rattle.line_device.specs.Medium.{Medium}
use Rattle.line_device.specs.Panel.{Panel, Runs, SetsUp, with_unit}
use Rattle.line_device.specs.Panel.Outcome.{went}
use Rattle.line_device.proofs.PanelLemmas.{arms_nothing-trans}
use Rattle.word_tables.specs.Bounds.{IsValid}
use Rattle.word_tables.specs.declared.geometry.Geometry.{Geometry}
use Rattle.recovery.specs.Fresh.{IsFresh}
use Rattle.recovery.specs.Findings.{first_finding, geometry_told}
use Rattle.recovery.specs.Mounting.{Finds, mount_outcome}
use Rattle.recovery.specs.declared.fault.MountFault.{MountFault}
use Rattle.recovery.specs.declared.fault.MountFault.TheVariants as mount
use Rattle.machine_host.specs.Costs.{mount_calls, mount_persists}
use Rattle.machine_host.specs.Restarting.{reading}
use Rattle.machine_host.specs.Stands.{HostServes, HostState, Stands}
use Rattle.machine_host.proofs.RunLemmas.{tells_then}
use Rattle.workload.specs.Lines.{lines}
use Rattle.workload.specs.declared.summary.Summary.{Summary}
use Rattle.host_program.specs.Bench.{Benches, BreaksOff, IsStarted, IsUnstarted, LeavesAside, PerformsAll, bench_sizes, new_image, new_machine, nothing_counted, summary_text, summed}
use Rattle.program_base.specs.Ending.{of_mount}
use Rattle.program_base.specs.Opening.{opening}
use Rattle.program_base.specs.Writing.{WritesFront}
use Rattle.host_program.specs.Whole.{IsRun}
use Rattle.program_base.specs.World.{World}
use Rattle.program_base.proofs.OpenLemmas.{opens-mounted}
use Rattle.host_program.proofs.RunLemmas.{is_run}
use Rattle.program_base.proofs.OpenLemmas.{tells_opening}
use Rattle.host_program.proofs.TellLemmas.{tells_first-after, unanswered-none}

pub bench_sizes_are_valid : IsValid bench_sizes
bench_sizes_are_valid = record {
  least_blocks = lit≤ tt;
  most_blocks = lit≤ tt;
  whole_lines = refl;
  least_vpages = lit≤ tt;
  most_vpages = lit≤ tt;
  least_fpages = lit≤ tt;
  most_fpages = lit≤ tt;
}

-- a new device shows the image of one
pub depicts_new : (geo : Geometry) (m : Medium) → IsFresh geo m → Depicts m (new_image geo)
depicts_new geo m fresh = record {
  count = sym fresh.count;
  bad = λ n on. sym (fresh.good n);
  weak = λ n on. sym (fresh.strong n);
  words = λ p healthy. fresh.words p healthy.0;
}

-- a new device that was mounted
pub is_started : (host : HostState) (old mid new : Device) → IsFresh bench_sizes mid.medium → geometry_told mid.medium ≡ bench_sizes → SetsUp went (with_unit old.panel mid.panel.unit) mid.panel → HostServes host new
    → Stands host new (record (reading (geometry_told mid.medium) (new_image bench_sizes)) { cut_armed = new.panel.cut_armed; fail_armed = new.panel.fail_armed })
    → Runs mount_calls mount_persists went mid.panel new.panel → IsStarted host old new
is_started host old mid new fresh told sets serves stands runs =
    let armed = arms_nothing-trans old.panel mid.panel new.panel (record { cut = sets.armed.cut; fail = sets.armed.fail }) runs.armed in
    record {
      serves = serves;
      tells = tells_opening old.panel new.panel (opens-mounted went old.panel mid.panel new.panel sets runs);
      begin = record (new_machine bench_sizes) { cut_armed = new.panel.cut_armed; fail_armed = new.panel.fail_armed };
      begins = record { state = refl; cut = armed.cut; fail = armed.fail };
      stands = subst (λ geo. Stands host new (record (reading geo (new_image bench_sizes)) { cut_armed = new.panel.cut_armed; fail_armed = new.panel.fail_armed })) told stands;
    }

-- why one was not: on a new device nothing is found
pub unstarted : (fault : MountFault) (m : Medium) (old mid new : Panel) → first_finding m ≡ None → Finds {T = Unit {0}} (first_finding m) (Err fault)
    → Runs mount_calls mount_persists (mount_outcome {T = Unit {0}} (Err fault)) mid new → SetsUp went (with_unit old mid.unit) mid → IsUnstarted (of_mount fault) old new
unstarted (mount.Meta line) m old mid new none finds runs sets = let found = finds in cc (none, found)
unstarted (mount.Layout place) m old mid new none finds runs sets = let found = finds in cc (none, found)
unstarted mount.Device m old mid new none finds runs sets = let rose = runs.cause.3 in inr (inl (omega (arith, rose, sets.faults)))
unstarted mount.PowerLost m old mid new none finds runs sets = let rose = runs.cause.2 in inr (inr (omega (arith, rose, sets.cuts)))
unstarted mount.Memory m old mid new none finds runs sets = tt

-- all lines were performed, and their summary was written
pub benches : (seed count : ℕ) (host after : HostState) (summary : Summary) (started : Device) (old new : World) → IsStarted host old.device started
    → {E : Type 0} → PerformsAll host after (lines seed count) {E = E} (Ok summary) started new.device → Appends old.written new.written (summary_text summary) → LeavesAside old new
    → Benches seed count old new
benches seed count host after summary started old new is performs wrote aside =
    let says = performs.says is.begin is.stands in
    let all : lines seed count ≡ says.performed = says.split ∙ ap (λ ls. says.performed ++ ls) says.outcome.0 ∙ append-nil says.performed in
    record {
      said = says.said;
      end = says.end;
      run = subst (λ ls. IsRun (new_machine bench_sizes) old.device.panel ls says.said says.end) (sym all)
          (is_run bench_sizes (new_image bench_sizes) old.device.panel says.performed says.said is.begin says.end is.begins says.run);
      tells = tells_then opening says.said old.device.panel started.panel new.device.panel is.tells says.outcome.2;
      stands = says.outcome.3.device;
      wrote = subst (λ ls. Appends old.written new.written (summary_text (summed nothing_counted ls says.said.answers))) (sym all) (subst (λ s. Appends old.written new.written (summary_text s)) says.outcome.1 wrote);
      aside = aside;
    }

-- a line was not performed, or had no memory for its answer
pub breaks_off : (seed count : ℕ) (host after : HostState) (started : Device) (cause : Type 0) (old new : World) → IsStarted host old.device started
    → {E : Type 0} (e : E) → PerformsAll host after (lines seed count) (Err e) started new.device → cause → new.written ≡ old.written → LeavesAside old new → BreaksOff seed count cause old new
breaks_off seed count host after started cause old new is e performs caused written aside =
    let says = performs.says is.begin is.stands in
    record {
      performed = says.performed;
      others = says.others;
      said = says.said;
      end = says.end;
      split = says.split;
      run = is_run bench_sizes (new_image bench_sizes) old.device.panel says.performed says.said is.begin says.end is.begins says.run;
      cause = caused;
      tells = tells_first-after (λ n. n) says.said says.end old.device.panel started.panel new.device.panel is.tells says.outcome;
      wrote = inl written;
      aside = aside;
    }

-- all were performed, but their summary was not written
pub breaks_unwritten : (seed count : ℕ) (host after : HostState) (summary : Summary) (started : Device) (cause : Type 0) (old new : World) → IsStarted host old.device started
    → {E : Type 0} → PerformsAll host after (lines seed count) {E = E} (Ok summary) started new.device → cause → WritesFront (summary_text summary) old.written new.written → LeavesAside old new
    → BreaksOff seed count cause old new
breaks_unwritten seed count host after summary started cause old new is performs caused wrote aside =
    let says = performs.says is.begin is.stands in
    record {
      performed = says.performed;
      others = says.others;
      said = says.said;
      end = says.end;
      split = says.split;
      run = is_run bench_sizes (new_image bench_sizes) old.device.panel says.performed says.said is.begin says.end is.begins says.run;
      cause = caused;
      tells = tells_first-after (λ n. n) says.said says.end old.device.panel started.panel new.device.panel is.tells (record {
        between = new.device.panel;
        tells = says.outcome.2;
        cut_armed = says.outcome.3.device.cut_armed;
        fail_armed = says.outcome.3.device.fail_armed;
        left = unanswered-none new.device.panel;
      });
      wrote = inr (says.outcome.0, subst (λ s. WritesFront (summary_text s) old.written new.written) says.outcome.1 wrote);
      aside = aside;
    }
