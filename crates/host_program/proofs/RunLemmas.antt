-- A run of a script over an image that was opened, as far as it came.
use Rattle.std.proofs.Common.{◌≡◌, ◌⊎◌, inl, inr, ℕ, ◌<◌, ◌≤◌, List, length, Option, Some, None, Ok, Err, refl, ap, subst, length-append, arith}
use Rattle.std.specs.Prelude.{IfSome, ⊤}
use Rattle.std.specs.Io.KnownBytes.{Consumes}
use Rattle.nvm_base.specs.Counts.{raised}
use Rattle.host_io.specs.Images.{KeepsHeld}
use Rattle.image_file.specs.Devices.{image_of, medium_of}
use Rattle.image_file.specs.Text.{Snapshot}
use Rattle.image_file.specs.declared.Units.TheVariants.{All}
use Rattle.line_device.specs.Device.{Device}
use Rattle.line_device.specs.Panel.{Image, Panel}
use Rattle.script_text.specs.Script.{inputs_of}
use Rattle.recovery.specs.Findings.{geometry_told}
use Rattle.word_tables.specs.declared.geometry.Geometry.{Geometry}
use Rattle.machine_host.specs.Machine.{Machine}
use Rattle.machine_host.specs.Restarting.{reading}
use Rattle.machine_host.specs.Run.{Run, Transcript}
use Rattle.machine_host.specs.Stands.{HostState, Stands}
use Rattle.durable.specs.Durable.{BringBytes}
use Rattle.durable.proofs.FileLemmas.{files_through}
use Rattle.durable.proofs.PassLemmas.{keeps_through}
use Rattle.durable.proofs.ScriptLemmas.{bring-lines, bring-rest}
use Rattle.durable.proofs.WholeLemmas.{whole-reading}
use Rattle.program_base.specs.Begins.{Begins}
use Rattle.host_program.specs.Forms.{Halts, IsCaused, IsThrough}
use Rattle.program_base.specs.Opening.{CountsOpening, IsReady, opened}
use Rattle.host_program.specs.Running.{IsBroken, Performs}
use Rattle.host_program.specs.Storing.{HoldsOn}
use Rattle.host_program.specs.Whole.{ComesToRest, GoesToRest, IsRun}
use Rattle.program_base.specs.World.{World}
use Rattle.program_base.specs.declared.ending.Ending.{Ending}
use Rattle.program_base.specs.declared.ending.Ending.TheVariants.{Usage, Layout, Meta, Read, Write, Memory, Script}
use Rattle.program_base.specs.declared.ending.Ending.TheVariants as endings
use Rattle.host_program.proofs.TellLemmas.{tells_first-after}

-- a run keeps what its commands made durable
pub is_run : (geo : Geometry) (image : Image) (p : Panel) (performed : List (List ℕ)) (said : Transcript) (begin end : Machine) → Begins (reading geo image) p begin
    → Run begin (inputs_of performed) said end → IsRun (reading geo image) p performed said end
is_run geo image p performed said begin end begins run = record {
  begin = begin;
  begins = begins;
  run = run;
  stays = λ before action after x is.
      keeps_through begin end before after action said x (whole-reading geo image begin begins.state)
      (bring-rest before action after (subst BringBytes is (bring-lines performed))) (subst (λ inputs. Run begin inputs said end) is run);
  files = λ before action after is changes.
      files_through begin end before after action said (whole-reading geo image begin begins.state) changes (subst (λ inputs. Run begin inputs said end) is run);
}

-- and one over what was read in an image
pub is_run-opened : (image : Snapshot) (p : Panel) (performed : List (List ℕ)) (said : Transcript) (begin end : Machine) → Begins (opened image) p begin → Run begin (inputs_of performed) said end
    → IsRun (opened image) p performed said end
is_run-opened image = is_run (geometry_told (medium_of image.lines)) (image_of image.unit image.lines)

-- why a script was not performed to its end
run_cause : (e : Ending) (script : List ℕ) (old new : World) → Consumes old.left new.left script → (e ≡ Script → 1073741824 ≤ length script) → IsBroken e old.reads new.reads old.writes new.writes → IsCaused e old new
run_cause Read script old new read long broken = broken
run_cause Write script old new read long broken = inl broken
run_cause Memory script old new read long broken = tt
run_cause Script script old new read long broken = at_least old.left new.left read
  where
    at_least : (o n : Option (List ℕ)) → Consumes o n script → IfSome o (λ left. 1073741824 ≤ length left)
    at_least None n c = tt
    at_least (Some xs) None c = absurd c
    at_least (Some xs) (Some ys) c = omega (arith, ap length c, length-append script ys, long refl)
run_cause Usage script old new read long broken = absurd broken
run_cause (endings.Image offset) script old new read long broken = absurd broken
run_cause (Layout place) script old new read long broken = absurd broken
run_cause (Meta line) script old new read long broken = absurd broken
run_cause endings.Device script old new read long broken = absurd broken

-- It was not performed to its end, or its replies were not all written.
pub halts-unperformed : (from to : List ℕ) (e : Ending) (host after : HostState) (opened : Device) (old new : World) → IsReady All from old.held host old.device opened
    → Performs host after (Err e) old.left new.left old.written new.written opened new.device → IsBroken e old.reads new.reads old.writes new.writes
    → KeepsHeld (λ _. ⊤) old.held new.held → CountsOpening old.images new.images → Halts from to e old new
halts-unperformed from to e host after opened old new ready performs broken kept counts =
    let says = performs.says ready.mounted.begin ready.mounted.stands in
    record {
      image = ready.image;
      there = ready.held_there;
      right = ready.mounted.right;
      cause = run_cause e says.script old new says.read says.outcome.long broken;
      script = says.script;
      performed = says.lines;
      others = says.others;
      said = says.said;
      end = says.end;
      part = says.part;
      read = says.read;
      split = says.split;
      whole = says.whole;
      run = is_run-opened ready.image old.device.panel says.lines says.said ready.mounted.begin says.end ready.mounted.begins says.run;
      front = says.front;
      answered = says.outcome.answered;
      long = says.outcome.long;
      short = short says.script says.outcome.short broken;
      stands = λ by. says.outcome.stands (by_source by);
      rests = λ is. inl (says.outcome.stands (inr (inr is)));
      wrote = says.wrote;
      tells = inl (tells_first-after (λ count. count) says.said says.end old.device.panel opened.panel new.device.panel ready.mounted.tells says.outcome.tells);
      replaced = inl counts.replaces;
      fetches = counts.fetches;
      holds = inl kept;
    }
  where
    short : (script : List ℕ) → (e ≡ Read → length script < 1073741824) → IsBroken e old.reads new.reads old.writes new.writes → (e ≡ Read) ⊎ (e ≡ endings.Device) → length script < 1073741824
    short script read broken (inl is) = read is
    short script read broken (inr is) = absurd (subst (λ e. IsBroken e old.reads new.reads old.writes new.writes) is broken)

    by_source : (e ≡ Read) ⊎ (e ≡ Script) → (e ≡ Read) ⊎ (e ≡ Script) ⊎ (e ≡ Write)
    by_source (inl is) = inl is
    by_source (inr is) = inr (inl is)

-- The script was performed, and then host and device were brought to rest, or not; and the image was not stored.
pub halts-unstored : (from to : List ℕ) (e : Ending) (host after : HostState) (opened ran : Device) (old new : World) → IsReady All from old.held host old.device opened
    → Performs host after (Ok tt) old.left new.left old.written new.written opened ran → GoesToRest ran.panel new.device.panel → ((e ≡ Read) ⊎ (e ≡ Script) → ⊥)
    → (e ≡ Write → (end : Machine) → Stands after ran end → ComesToRest end new.device) → IsCaused e old new
    → (new.images.replaces ≡ old.images.replaces) ⊎ (new.images.replaces ≡ raised old.images.replaces) → new.images.fetches ≡ raised old.images.fetches
    → HoldsOn to old.held new.held old.images new.images → Halts from to e old new
halts-unstored from to e host after opened ran old new ready performs rests not_source at_rest caused replaces fetches holds =
    let says = performs.says ready.mounted.begin ready.mounted.stands in
    let through : IsThrough says.said says.part says.others new.left = record { none_left = says.outcome.none_left; all = says.outcome.all; ended = says.outcome.ended } in
    record {
      image = ready.image;
      there = ready.held_there;
      right = ready.mounted.right;
      cause = caused;
      script = says.script;
      performed = says.lines;
      others = says.others;
      said = says.said;
      end = says.end;
      part = says.part;
      read = says.read;
      split = says.split;
      whole = says.whole;
      run = is_run-opened ready.image old.device.panel says.lines says.said ready.mounted.begin says.end ready.mounted.begins says.run;
      front = says.front;
      answered = λ by. absurd (not_source by);
      long = λ is. absurd (not_source (inr is));
      short = λ _. says.outcome.short;
      stands = λ by. absurd (not_source by);
      rests = λ is. inr (through, at_rest is says.end says.outcome.stands);
      wrote = says.wrote;
      tells = inr (
        tells_first-after raised says.said says.end old.device.panel opened.panel new.device.panel ready.mounted.tells (record {
          between = ran.panel;
          tells = says.outcome.tells;
          cut_armed = says.outcome.stands.device.cut_armed;
          fail_armed = says.outcome.stands.device.fail_armed;
          left = rests;
        }),
        through,
      );
      replaced = elim replaces as (λ _. (new.images.replaces ≡ old.images.replaces) ⊎ ((new.images.replaces ≡ raised old.images.replaces) × IsThrough says.said says.part says.others new.left)) [
        | inl none ↦ inl none
        | inr one ↦ inr (one, through)
      ];
      fetches = fetches;
      holds = holds;
    }
