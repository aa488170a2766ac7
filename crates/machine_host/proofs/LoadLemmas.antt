-- What a load of the volume comes to.
use Rattle.std.proofs.Common.{◌≡◌, ◌+◌, ◌*◌, ◌==◌, ◌≤◌, ℕ, Some, None, Result, Ok, Err, OnOk, List, length, refl, sym, ap, subst, ◌∙◌, arith}
use Rattle.std.proofs.lemmas.Bool.{le-ltb, ne_eqb}
use Rattle.line_device.specs.Medium.{WritesBack}
use Rattle.line_device.specs.Panel.{Runs}
use Rattle.line_device.specs.Device.{Device}
use Rattle.line_words.specs.Told.{Answers, OnRefused, OnWorked, is_done, outcome_by}
use Rattle.word_tables.specs.declared.geometry.Geometry.{Geometry}
use Rattle.nvm_model.specs.Blocks.{first_there}
use Rattle.nvm_model.specs.Page.{Page, look}
use Rattle.page_lines.proofs.OthersLemmas.{others-write_back}
use Rattle.pm_volume.specs.Area.{IsOfVolume}
use Rattle.pm_volume.specs.Costs.{lines_touched}
use Rattle.pm_volume.specs.Images.{EachReadsPages}
use Rattle.pm_volume.specs.Object.{VolumeState, VolumeHolds, VolumeServes}
use Rattle.pm_volume.specs.Refusals.{bytes_refusal, load_refusal, refused_if, volume_says}
use Rattle.pm_volume.specs.Refusals.VolumeRefusal.{Range, Length}
use Rattle.pm_volume.specs.declared.fault.VolumeFault.{VolumeFault}
use Rattle.nvm_model.proofs.KeptLemmas.{line_kept-write_back}
use Rattle.pm_volume.proofs.StandingLemmas.{served_pages}
use Rattle.reply_text.specs.Answer.{Answer, IsPrintable}
use Rattle.reply_text.specs.Answer.Answer.{Bytes}
use Rattle.reply_text.specs.Room.{most_of}
use Rattle.script_text.specs.Action.Action.{VLoad}
use Rattle.machine_model.specs.declared.mode.Mode.TheVariants.{On}
use Rattle.machine_model.specs.Machine.{Machine}
use Rattle.machine_model.specs.Commands.{MayLeaveVolume, longest}
use Rattle.machine_host.specs.Faults.{answer_after, mode_after}
use Rattle.machine_model.specs.OnVolume.{volume_answer}
use Rattle.machine_host.specs.Responding.{Answered}
use Rattle.machine_host.specs.Stands.{HostState, HostServes}
use Rattle.machine_host.proofs.ElsewhereLemmas.{volume_holds_elsewhere}
use Rattle.machine_host.proofs.VolumeCallLemmas.{VolumeCalled, volume_part, same_volume, settled_ok, settled_was, volume_after, volume_pages, volume_sizes, work_comes, work_serves, same_host}
use Rattle.machine_host.proofs.VolumeFateLemmas.{fate_vload}
use Rattle.machine_host.specs.Keeping.{is_refusal}
use Rattle.machine_host.proofs.KeepLemmas.{AnswersCall, keeps_called, keeps_inside}

-- bytes that are there
bytes_right : (geo : Geometry) (offset len : ℕ) → 1 ≤ len → offset + len ≤ 4096 * geo.vpages → bytes_refusal geo offset len ≡ None
bytes_right geo offset len some within =
    ap (λ b. first_there (refused_if b Range) (refused_if (len == 0) Length)) (le-ltb (4096 * geo.vpages) (offset + len) within)
    ∙ ap (λ b. refused_if b Length) (ne_eqb len 0 (λ e. omega arith))

module _ (now host after : HostState) (s : VolumeState) (r : Result (Unit {0}) VolumeFault) (offset len calls : ℕ) (Q : Type 0) (old new : Device)
    (inside : host ≡ now) (state : after ≡ volume_after host s (mode_after volume_says r)) (on : now.mode ≡ On) (serves : HostServes now old) (few : calls ≤ lines_touched offset len)
    (untouched : OnRefused volume_says r (Q × (new ≡ old))) (lines : WritesBack old.medium new.medium) (served : VolumeServes s new.medium)
    (object : s ≡ record host.volume { settled = is_done (outcome_by volume_says r) }) (runs : Runs calls 0 (outcome_by volume_says r) old.panel new.panel) where
  -- the volume stands for the same pages
  holds_after : (pages : List Page) → VolumeHolds host.volume old.medium pages → VolumeHolds s new.medium pages
  holds_after pages holds =
      let mounted = serves.mounted on in
      let kept = volume_holds_elsewhere now.geometry old.medium new.medium serves.layout.valid (λ line of. line_kept-write_back old.medium new.medium line lines) host.volume pages
      (ap (λ k. k.volume.geo) inside ∙ mounted.volume_geometry) (ap (λ k. length k.volume.present) inside ∙ mounted.volume_serves.all ∙ sym (ap (λ k. k.volume.geo.vpages) inside)) holds in
      subst (λ v. VolumeHolds v new.medium pages) (sym object) (record { there = kept.there; stand = kept.stand })

  on_worked : {P : Type 0} (q : Result (Unit {0}) VolumeFault) → P → OnWorked volume_says q P
  on_worked (Ok x) p = p
  on_worked (Err f) p = λ stop. p

  call : VolumeCalled volume_says host s r (MayLeaveVolume host.volume.geo (Some (VLoad offset len))) calls 0 old new
  call = record {
    untouched = same_volume host.volume s (Q × (new ≡ old)) (new ≡ old) r object (settled_was now host old inside on serves) (λ same. same.1) untouched;
    images = on_worked r (λ pages holds. subst (λ g. EachReadsPages g new.medium (λ x. x ≡ pages)) (ap (λ k. k.geo) object) (served_pages s new.medium pages served (holds_after pages holds)));
    outside = others-write_back (IsOfVolume host.volume.geo) old.medium new.medium lines;
    marks = λ n below. lines.bad n;
    serves = λ _. served;
    sizes = ap (λ k. k.geo) object;
    settled = settled_ok s r (ap (λ k. k.settled) object);
    runs = runs;
  }

  on_ok : {P : Type 0} (q : Result (Unit {0}) VolumeFault) → P → OnOk q P
  on_ok (Ok x) p = p
  on_ok (Err f) p = tt

  pub load_answered : (answer : Answer) → 1 ≤ len → offset + len ≤ 4096 * now.geometry.vpages → len ≤ 65536
      → ((pages : List Page) → VolumeHolds host.volume old.medium pages → Answers volume_says (load_refusal host.volume pages offset len) r)
      → ((h : Machine) → VolumeHolds host.volume old.medium h.volume → answer ≡ answer_after volume_says volume_answer (Bytes (look h.volume offset len)) r)
      → AnswersCall volume_says volume_answer r answer → IsPrintable answer → most_of answer ≤ longest (VLoad offset len) → Answered (VLoad offset len) answer now after old new
  load_answered answer some within most refused answer_is told printable room = record {
    step = λ h stands.
        let holds = volume_pages now host old h inside on serves stands in
        let there = subst (λ g. offset + len ≤ 4096 * g.vpages) stands.geometry within in
        work_comes volume_says volume_answer volume_part now host after s r calls 0 old new inside state on serves (VLoad offset len) (λ h stands. (few, omega arith)) (λ h bs same. same) call h (Bytes (look h.volume offset len)) answer
        (load_refusal host.volume h.volume offset len) h.volume refl stands
        (fate_vload h host.volume (sym stands.mode ∙ on) (volume_sizes now host old h inside on serves stands) offset len some there most (bytes_right h.geometry offset len some there))
        (refused h.volume holds) (on_ok r (holds_after h.volume holds)) (answer_is h holds);
    keeps = keeps_inside (is_refusal answer) (VLoad offset len) now host after (volume_after host s (mode_after volume_says r)) old new inside state
        (keeps_called volume_says volume_answer r answer told (VLoad offset len) host (volume_after host s) old new (ap (λ k. k.mode) inside ∙ on) (same_host volume_says host s r old new call.untouched) lines);
    printable = printable;
    room = room;
    serves = work_serves volume_says volume_answer volume_part now host after s r calls 0 old new inside state on serves (VLoad offset len) (λ h stands. (few, omega arith)) (λ h bs same. same) call;
  }
