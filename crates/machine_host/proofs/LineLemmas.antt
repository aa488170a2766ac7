-- The commands that mark a line, and the one that clears it, by what their calls say.
use Rattle.std.proofs.Common.{◌≡◌, ◌⊎◌, inr, ℕ, ◌*◌, ◌/◌, ◌<◌, ◌≤◌, ◌||◌, if◌then◌else◌, Bool, true, false, nat_le, nat_lt, Option, Some, None, option_map, Result, Ok, Err, OnOk, List, refl, sym, ap, ap₂, subst, ◌∙◌, arith, slice_get, ◌+◌}
use Rattle.std.specs.Prelude.{IfErr}
use Rattle.std.proofs.lemmas.Bool.Decides.{nat_tests}
use Rattle.line_device.specs.Medium.{Medium, WritesBack}
use Rattle.line_device.specs.Panel.{Runs}
use Rattle.line_device.specs.Device.{Device}
use Rattle.line_device.proofs.WriteBackLemmas.{write_back-refl}
use Rattle.line_words.specs.Told.{Told, Answers, OnRefused, OnWorked, outcome_by, refusal_of}
use Rattle.line_words.specs.Told.Told.{Refuses, Stops, Starves}
use Rattle.word_tables.specs.declared.geometry.Geometry.{Geometry}
use Rattle.word_tables.specs.Layout.{blocks, first_line, size, meta_lines, volume_line, HasLine, block_line}
use Rattle.nvm_model.specs.Blocks.{first_there, lose, nth}
use Rattle.nvm_model.specs.Cell.{Cell, clear_cell, lose_cell, weaken_cell}
use Rattle.nvm_model.specs.Page.{Page, cell_of, change_line}
use Rattle.nvm_model.specs.Storage.{Block}
use Rattle.nvm_model.specs.Device.{device_pages}
use Rattle.nvm_model.proofs.DeviceLemmas.{device_pages-stand, presence_of-device}
use Rattle.block_device.specs.Area.{IsBlockLine}
use Rattle.block_device.specs.Object.{BlocksServe, blocks_of}
use Rattle.block_device.proofs.PlaceLemmas.{named_is_data}
use Rattle.pm_volume.specs.Area.{IsOfVolume}
use Rattle.page_lines.specs.Turns.{WritesBackOthers}
use Rattle.page_lines.proofs.OthersLemmas.{others-wider, others-write_back}
use Rattle.pm_volume.specs.Images.{EachReadsPages}
use Rattle.pm_volume.specs.Object.{VolumeState, VolumeHolds, VolumeServes}
use Rattle.scrub.specs.Lines.{IsLineOf}
use Rattle.scrub.specs.Others.{WritesBackBut}
use Rattle.marked_lines.specs.Refusals.{ScrubRefusal, unit_refusal, block_refusal, clear_refusal, line_refusal, place_refusal, cell_refusal}
use Rattle.scrub.specs.Refusals.{place_says, scrub_says}
use Rattle.marked_lines.specs.Refusals.ScrubRefusal.{Range, Nothing, NotPoisoned}
use Rattle.scrub.specs.declared.fault.ScrubFault.{ScrubFault}
use Rattle.scrub.specs.declared.fault.ScrubFault.TheVariants as scrubbing
use Rattle.scrub.specs.declared.fault.PlaceFault.{PlaceFault}
use Rattle.scrub.specs.declared.fault.PlaceFault.TheVariants as placing
use Rattle.script_text.specs.Action.{Action}
use Rattle.script_text.specs.Action.Action.{PoisonBlock, PoisonVolume, WeakenVolume, ClearVolume}
use Rattle.reply_text.specs.Answer.{Answer, IsPrintable}
use Rattle.reply_text.specs.Answer.Answer.{Done}
use Rattle.reply_text.specs.Room.{most_of}
use Rattle.machine_model.specs.declared.mode.Mode.TheVariants.{On}
use Rattle.machine_model.specs.Machine.{Machine}
use Rattle.machine_model.specs.Machine.Fate.{Gives, Works}
use Rattle.machine_model.specs.Commands.{MayLeaveVolume, fate, longest, meaning, unless_refused}
use Rattle.machine_model.specs.declared.needs.Needs.TheVariants.{Usable}
use Rattle.machine_model.specs.Meaning.{metadata_refusal}
use Rattle.machine_host.specs.Faults.{answer_after, IsRoomier}
use Rattle.machine_model.specs.Interrupted.{stop_in}
use Rattle.machine_model.specs.OnMedia.{line_answer}
use Rattle.machine_host.specs.Responding.{Answered}
use Rattle.machine_host.specs.Stands.{HostState, HostServes, AreMounted, Stands, Comes}
use Rattle.machine_host.proofs.CallLemmas.{IsPart, printable_told, short_told, on_refused-then}
use Rattle.machine_host.proofs.ElsewhereLemmas.{line_of_range}
use Rattle.machine_host.proofs.MediaLemmas.{IsRefusal, answers_told, blocks_marked, blocks_marked_serve, comes_of_marking, volume_marked, volume_marked_serves}
use Rattle.machine_model.proofs.RefusalLemmas.{fate_worked, first_alone}
use Rattle.machine_host.proofs.VolumeCallLemmas.{VolumeCalled}
use Rattle.machine_host.proofs.VolumeLemmas.{volume_behind}
use Rattle.machine_host.specs.Keeping.{Changes, Reach, reach}
use Rattle.machine_host.specs.Keeping.Reach.{OneLine}
use Rattle.machine_host.proofs.KeepLemmas.{but_named, keeps_answer, roomier-same}
use Rattle.block_map.specs.declared.state.BlockState.{BlockState}
use Rattle.block_map.specs.declared.state.BlockState.TheVariants.{At}

-- a refusal of a line tells of no interruption, is short, and can be printed
pub quiet_line : (w : ScrubRefusal) → stop_in (line_answer w) ≡ None
quiet_line Range = refl
quiet_line Nothing = refl
quiet_line NotPoisoned = refl

pub short_line : (w : ScrubRefusal) → most_of (line_answer w) ≤ 72
short_line Range = omega arith
short_line Nothing = omega arith
short_line NotPoisoned = omega arith

pub printable_line : (w : ScrubRefusal) → IsPrintable (line_answer w)
printable_line Range = tt
printable_line Nothing = tt
printable_line NotPoisoned = tt

-- a fault of a place refuses
pub place_refuses : (f : PlaceFault) → IsRefusal (place_says f)
place_refuses placing.Range = tt
place_refuses placing.Nothing = tt

pub if_err_all : {T E : Type 0} {P : E → Type 0} (r : Result T E) → ((f : E) → P f) → IfErr r P
if_err_all (Ok x) all = tt
if_err_all (Err f) all = all f

pub short_after : {E : Type 0} (says : E → Told ScrubRefusal) (r : Result (Unit {0}) E) → most_of (answer_after says line_answer Done r) ≤ 72
short_after says (Ok x) = omega arith
short_after says (Err f) = short_told line_answer short_line (says f)

pub line_printable : {E : Type 0} (says : E → Told ScrubRefusal) (r : Result (Unit {0}) E) → IsPrintable (answer_after says line_answer Done r)
line_printable says (Ok x) = tt
line_printable says (Err f) = printable_told line_answer printable_line (says f)

-- what was done was not refused
answers_ok : {T E R : Type 0} (says : E → Told R) (why : Option R) (x : T) → Answers {T = T} says why (Ok x) → why ≡ None
answers_ok says None x refused = refl
answers_ok says (Some w) x refused = absurd refused

-- where a line of a block is not refused, it is one of eight, and a byte of the volume is there
line_within : (count : ℕ) (bs : List Block) (block line : ℕ) → block_refusal count bs block line ≡ None → line ≤ 7
line_within count bs block line = by_tests (nat_le count block) (nat_lt 7 line) refl
  where
    by_tests : (a b : Bool) → nat_lt 7 line ≡ b → (if a || b then Some Range else unit_refusal (nth bs block)) ≡ None → line ≤ 7
    by_tests true b e none = cc none
    by_tests false true e none = cc none
    by_tests false false e none = grind (arith, nat_tests)

byte_within : (geo : Geometry) (offset : ℕ) (rest : Option ScrubRefusal) → (if nat_le (4096 * geo.vpages) offset then Some Range else rest) ≡ None → offset < 4096 * geo.vpages
byte_within geo offset rest = by_test (nat_le (4096 * geo.vpages) offset) refl
  where
    by_test : (b : Bool) → nat_le (4096 * geo.vpages) offset ≡ b → (if b then Some Range else rest) ≡ None → offset < 4096 * geo.vpages
    by_test true e none = cc none
    by_test false e none = grind (arith, nat_tests)

-- volume and device stand for some pages
held : (s : VolumeState) (m : Medium) → VolumeHolds s m (device_pages (volume_line s.geo) m s.present)
held s m = record { there = presence_of-device (volume_line s.geo) m s.present; stand = device_pages-stand (volume_line s.geo) m s.present }

-- a row of places alone is its fate
fate_marking : (host : HostState) (old : Device) (h : Machine) (action : Action) → HostServes host old → Stands host old h → host.mode ≡ On → (meaning action).needs ≡ Usable
    → ((meaning action).reasons h).named ≡ None → ((meaning action).reasons h).full ≡ None → ((meaning action).reasons h).changes_metadata ≡ false → ((meaning action).reasons h).unreadable ≡ None
    → fate h action ≡ unless_refused h ((meaning action).reasons h).places ((meaning action).comes h)
fate_marking host old h action serves stands on needs named full changes readable =
    let r = (meaning action).reasons h in
    fate_worked h action needs (sym stands.mode ∙ on) named full
    ∙ ap (λ b. unless_refused h (first_there r.places (first_there (metadata_refusal b h.bad_meta) r.unreadable)) ((meaning action).comes h)) changes
    ∙ ap (λ o. unless_refused h (first_there r.places o) ((meaning action).comes h)) readable
    ∙ ap (λ o. unless_refused h o ((meaning action).comes h)) (first_alone r.places)

-- a line of a unit lies behind the metadata
pub data_behind : (geo : Geometry) (n : ℕ) → HasLine geo blocks n → meta_lines geo ≤ n
unfolding first_line size
data_behind geo n has = omega (arith, has)

module _ (host : HostState) (old new : Device) (serves : HostServes host old) (on : host.mode ≡ On) (panel : new.panel ≡ old.panel) where
  mounted : AreMounted host.geometry host.blocks host.volume host.files old.medium
  mounted = serves.mounted on

  -- it was refused, so all is as it was
  pub same_serves : new ≡ old → HostServes host new
  same_serves same = subst (λ d. HostServes host d) (sym same) serves

  pub refused_same : {E : Type 0} (says : E → Told ScrubRefusal) (f : E) → IsRefusal (says f) → OnRefused {T = Unit {0}} says (Err f) (new ≡ old) → new ≡ old
  refused_same says f is untouched = untouched (λ none. by_told (says f) is none)
    where
      by_told : (t : Told ScrubRefusal) → IsRefusal t → refusal_of t ≡ None → ⊥
      by_told (Refuses w) is none = cc none
      by_told (Stops by) is none = is
      by_told Starves is none = is

  left_same : {E : Type 0} (says : E → Told ScrubRefusal) (r : Result (Unit {0}) E) → OnRefused says r (new ≡ old) → OnRefused says r (IsRoomier host host × WritesBack old.medium new.medium)
  left_same says r untouched = on_refused-then says r (λ same. (roomier-same host, subst (λ d. WritesBack old.medium d.medium) (sym same) (write_back-refl old.medium))) untouched

  pub poison_block_answered : (block line : ℕ) (r : Result (Unit {0}) PlaceFault) (answer : Answer) → Answers place_says (block_refusal host.blocks.geo.blocks (blocks_of host.blocks old.medium) block line) r
      → OnRefused place_says r (new ≡ old) → OnOk r (blocks_of host.blocks new.medium ≡ lose block line (blocks_of host.blocks old.medium)) → WritesBackBut (IsLineOf host.blocks block line) old.medium new.medium
      → BlocksServe host.blocks new.medium → answer ≡ answer_after place_says line_answer Done r → Answered (PoisonBlock block line) answer host host old new
  poison_block_answered block line r answer refused untouched ok x served answer_is = record {
    step = λ h stands.
        let seen : block_refusal host.blocks.geo.blocks (blocks_of host.blocks old.medium) block line ≡ block_refusal h.geometry.blocks h.blocks block line =
        ap₂ (λ n bs. block_refusal n bs block line) (ap (λ g. g.blocks) (mounted.geometry ∙ stands.geometry)) (stands.blocks on) in
        subst (λ a. Comes h (PoisonBlock block line) (fate h (PoisonBlock block line)) a host old new) (sym answer_is)
        (subst (λ f. Comes h (PoisonBlock block line) f (answer_after place_says line_answer Done r) host old new) (sym (fate_marking host old h (PoisonBlock block line) serves stands on refl refl refl refl refl))
        (comes_of_marking place_says line_answer quiet_line host old new h (record h { blocks = lose block line h.blocks }) (PoisonBlock block line) r (block_refusal h.geometry.blocks h.blocks block line) panel
        (subst (λ o. Answers place_says o r) seen refused) (if_err_all r place_refuses) untouched (on_refused-then place_says r (λ _. stands) untouched) (stands_ok r refused ok h stands)));
    keeps = keeps_answer place_says line_answer r answer (record { good = Done; accepts = refl; is = answer_is }) (PoisonBlock block line) host host old new (left_same place_says r untouched)
        (but_named (block_place (slice_get host.blocks.map block)) (IsLineOf host.blocks block line) old.medium new.medium (λ n of. ap block_place of.at ∙ ap (λ k. Some k) (sym of.is)) x);
    printable = subst IsPrintable (sym answer_is) (line_printable place_says r);
    room = subst (λ a. most_of a ≤ 72) (sym answer_is) (short_after place_says r);
    serves = serves_by r refused untouched;
  }
    where
      block_place : Option BlockState → Option ℕ
      block_place (Some (At unit)) = Some (block_line host.blocks.geo unit + line)
      block_place _ = None

      of_blocks : line ≤ 7 → (n : ℕ) → IsLineOf host.blocks block line n → IsBlockLine host.geometry n
      of_blocks few n of =
          subst (λ g. IsBlockLine g n) mounted.geometry
          (inr (inr (named_is_data host.blocks.geo mounted.serves.valid host.blocks.map n mounted.serves.all mounted.serves.is_map
          (record { block = block; unit = of.unit; at = of.at; from = omega (arith, of.is); to = omega (arith, of.is, few) }))))

      behind : line ≤ 7 → (n : ℕ) → IsLineOf host.blocks block line n → meta_lines host.geometry ≤ n
      behind few n of =
          subst (λ g. meta_lines g ≤ n) mounted.geometry
          (data_behind host.blocks.geo n (named_is_data host.blocks.geo mounted.serves.valid host.blocks.map n mounted.serves.all mounted.serves.is_map
          (record { block = block; unit = of.unit; at = of.at; from = omega (arith, of.is); to = omega (arith, of.is, few) })))

      within : (u : Unit {0}) → Answers {T = Unit {0}} place_says (block_refusal host.blocks.geo.blocks (blocks_of host.blocks old.medium) block line) (Ok u) → line ≤ 7
      within u refused = line_within host.blocks.geo.blocks (blocks_of host.blocks old.medium) block line (answers_ok place_says (block_refusal host.blocks.geo.blocks (blocks_of host.blocks old.medium) block line) u refused)

      stands_ok : (r : Result (Unit {0}) PlaceFault) → Answers place_says (block_refusal host.blocks.geo.blocks (blocks_of host.blocks old.medium) block line) r
          → OnOk r (blocks_of host.blocks new.medium ≡ lose block line (blocks_of host.blocks old.medium)) → (h : Machine) → Stands host old h → OnOk r (Stands host new (record h { blocks = lose block line h.blocks }))
      stands_ok (Ok u) refused ok h stands =
          let few = within u refused in
          blocks_marked host old new serves on panel (IsLineOf host.blocks block line) (behind few) x (of_blocks few) served h (PoisonBlock block line) (lose block line) stands ok
      stands_ok (Err f) refused ok h stands = tt

      serves_by : (r : Result (Unit {0}) PlaceFault) → Answers place_says (block_refusal host.blocks.geo.blocks (blocks_of host.blocks old.medium) block line) r → OnRefused place_says r (new ≡ old) → HostServes host new
      serves_by (Ok u) refused untouched =
          let few = within u refused in blocks_marked_serve host old new serves on panel (IsLineOf host.blocks block line) (behind few) x (of_blocks few) served
      serves_by (Err f) refused untouched = same_serves (refused_same place_says f (place_refuses f) untouched)

  -- a line of the volume
  pub volume_line_answered : {E : Type 0} (says : E → Told ScrubRefusal) (mark : Cell → Cell) (action : Action) (offset : ℕ) (r : Result (Unit {0}) E) (answer : Answer) → longest action ≡ 72
      → ((h : Machine) → Stands host old h → fate h action ≡ unless_refused h (option_map line_answer (place_refusal h.geometry h.volume offset)) (Gives Done (record h { volume = change_line mark (offset / 64) h.volume })))
      → ((pages : List Page) → VolumeHolds host.volume old.medium pages → Answers says (place_refusal host.volume.geo pages offset) r) → IfErr r (λ f. IsRefusal (says f)) → OnRefused says r (new ≡ old)
      → OnOk r ((pages : List Page) → VolumeHolds host.volume old.medium pages → VolumeHolds host.volume new.medium (change_line mark (offset / 64) pages))
      → WritesBackBut (λ line. line ≡ volume_line host.volume.geo (offset / 64)) old.medium new.medium → VolumeServes host.volume new.medium
      → answer ≡ answer_after says line_answer Done r → reach action ≡ OneLine → Answered action answer host host old new
  volume_line_answered {E} says mark action offset r answer long row refused told untouched ok x served answer_is one = record {
    step = λ h stands.
        let pages = stands.volume on in
        subst (λ a. Comes h action (fate h action) a host old new) (sym answer_is)
        (subst (λ f. Comes h action f (answer_after says line_answer Done r) host old new) (sym (row h stands))
        (comes_of_marking says line_answer quiet_line host old new h (record h { volume = change_line mark (offset / 64) h.volume }) action r (place_refusal h.geometry h.volume offset) panel
        (subst (λ g. Answers says (place_refusal g h.volume offset) r) (mounted.volume_geometry ∙ stands.geometry) (refused h.volume pages)) told untouched (on_refused-then says r (λ _. stands) untouched) (stands_ok r refused ok h stands)));
    keeps = keeps_answer says line_answer r answer (record { good = Done; accepts = refl; is = answer_is }) action host host old new (left_same says r untouched)
        (subst (λ (k : Reach). Changes k old new) (sym one) (volume_line host.volume.geo (offset / 64), x));
    printable = subst IsPrintable (sym answer_is) (line_printable says r);
    room = subst (λ n. most_of answer ≤ n) (sym long) (subst (λ a. most_of a ≤ 72) (sym answer_is) (short_after says r));
    serves = serves_by r refused told untouched;
  }
    where
      lines : ℕ → Type 0
      lines line = line ≡ volume_line host.volume.geo (offset / 64)

      behind : (n : ℕ) → lines n → meta_lines host.geometry ≤ n
      behind n is = subst (λ g. meta_lines g ≤ n) mounted.volume_geometry (subst (λ k. meta_lines host.volume.geo ≤ k) (sym is) (volume_behind host.volume.geo (offset / 64)))

      of_volume : offset < 4096 * host.volume.geo.vpages → (n : ℕ) → lines n → IsOfVolume host.geometry n
      of_volume below n is = subst (λ g. IsOfVolume g n) mounted.volume_geometry (subst (IsOfVolume host.volume.geo) (sym is) (line_of_range host.volume.geo (offset / 64) (omega (arith, below))))

      within : (u : Unit {0}) → ((pages : List Page) → VolumeHolds host.volume old.medium pages → Answers {T = Unit {0}} says (place_refusal host.volume.geo pages offset) (Ok u)) → offset < 4096 * host.volume.geo.vpages
      within u refused =
          let pages = device_pages (volume_line host.volume.geo) old.medium host.volume.present in
          byte_within host.volume.geo offset (cell_refusal (cell_of pages (offset / 64))) (answers_ok says (place_refusal host.volume.geo pages offset) u (refused pages (held host.volume old.medium)))

      stands_ok : (r : Result (Unit {0}) E) → ((pages : List Page) → VolumeHolds host.volume old.medium pages → Answers says (place_refusal host.volume.geo pages offset) r)
          → OnOk r ((pages : List Page) → VolumeHolds host.volume old.medium pages → VolumeHolds host.volume new.medium (change_line mark (offset / 64) pages)) → (h : Machine) → Stands host old h
          → OnOk r (Stands host new (record h { volume = change_line mark (offset / 64) h.volume }))
      stands_ok (Ok u) refused ok h stands =
          volume_marked host old new serves on panel lines behind x (of_volume (within u refused)) served h action (change_line mark (offset / 64) h.volume) stands (ok h.volume (stands.volume on))
      stands_ok (Err f) refused ok h stands = tt

      serves_by : (r : Result (Unit {0}) E) → ((pages : List Page) → VolumeHolds host.volume old.medium pages → Answers says (place_refusal host.volume.geo pages offset) r) → IfErr r (λ f. IsRefusal (says f))
          → OnRefused says r (new ≡ old) → HostServes host new
      serves_by (Ok u) refused told untouched = volume_marked_serves host old new serves on panel lines behind x (of_volume (within u refused)) served
      serves_by (Err f) refused told untouched = same_serves (refused_same says f told untouched)

-- a state's fate, by the row that marks a line of the volume
pub fate_poison : (host : HostState) (old : Device) (h : Machine) (offset : ℕ) → HostServes host old → Stands host old h → host.mode ≡ On
    → fate h (PoisonVolume offset) ≡ unless_refused h (option_map line_answer (place_refusal h.geometry h.volume offset)) (Gives Done (record h { volume = change_line lose_cell (offset / 64) h.volume }))
fate_poison host old h offset serves stands on = fate_marking host old h (PoisonVolume offset) serves stands on refl refl refl refl refl

pub fate_weaken : (host : HostState) (old : Device) (h : Machine) (offset : ℕ) → HostServes host old → Stands host old h → host.mode ≡ On
    → fate h (WeakenVolume offset) ≡ unless_refused h (option_map line_answer (place_refusal h.geometry h.volume offset)) (Gives Done (record h { volume = change_line weaken_cell (offset / 64) h.volume }))
fate_weaken host old h offset serves stands on = fate_marking host old h (WeakenVolume offset) serves stands on refl refl refl refl refl

-- no fault of a clear wants memory
scrub_fed : (f : ScrubFault) → scrub_says f ≡ Starves → ⊥
scrub_fed scrubbing.Range e = cc e
scrub_fed scrubbing.Nothing e = cc e
scrub_fed scrubbing.NotPoisoned e = cc e
scrub_fed scrubbing.Device e = cc e
scrub_fed scrubbing.PowerLost e = cc e

pub scrub_part : IsPart scrub_says line_answer
scrub_part = record { printable = printable_line; quiet = quiet_line; short = short_line; fed = scrub_fed }

-- What a clear says, as a call on the volume.
module _ (host : HostState) (offset : ℕ) (r : Result (Unit {0}) ScrubFault) (old new : Device) (serves : HostServes host old) (on : host.mode ≡ On)
    (refused : (pages : List Page) → VolumeHolds host.volume old.medium pages → Answers scrub_says (clear_refusal host.volume.geo pages offset) r) (untouched : OnRefused scrub_says r (new ≡ old)) where
  beside : WritesBackOthers (λ line. line ≡ volume_line host.volume.geo (offset / 64)) old.medium new.medium → WritesBackOthers (IsOfVolume host.volume.geo) old.medium new.medium
  beside x = by_result r refused untouched
    where
      wider : offset < 4096 * host.volume.geo.vpages → WritesBackOthers (IsOfVolume host.volume.geo) old.medium new.medium
      wider below =
          others-wider (λ line. line ≡ volume_line host.volume.geo (offset / 64)) (IsOfVolume host.volume.geo) old.medium new.medium
          (λ n is. subst (IsOfVolume host.volume.geo) (sym is) (line_of_range host.volume.geo (offset / 64) (omega (arith, below)))) x

      some_pages : List Page
      some_pages = device_pages (volume_line host.volume.geo) old.medium host.volume.present

      below_of : clear_refusal host.volume.geo some_pages offset ≡ None → offset < 4096 * host.volume.geo.vpages
      below_of none = byte_within host.volume.geo offset (line_refusal (cell_of some_pages (offset / 64))) none

      by_told : (t : Told ScrubRefusal) → refusal_of t ≡ clear_refusal host.volume.geo some_pages offset → ((refusal_of t ≡ None → ⊥) → new ≡ old) → WritesBackOthers (IsOfVolume host.volume.geo) old.medium new.medium
      by_told (Refuses w) reason same =
          subst (λ d. WritesBackOthers (IsOfVolume host.volume.geo) old.medium d.medium) (sym (same (λ e. cc e)))
          (others-write_back (IsOfVolume host.volume.geo) old.medium old.medium (write_back-refl old.medium))
      by_told (Stops by) reason same = wider (below_of (sym reason))
      by_told Starves reason same = wider (below_of (sym reason))

      by_result : (r : Result (Unit {0}) ScrubFault) → ((pages : List Page) → VolumeHolds host.volume old.medium pages → Answers scrub_says (clear_refusal host.volume.geo pages offset) r)
          → OnRefused scrub_says r (new ≡ old) → WritesBackOthers (IsOfVolume host.volume.geo) old.medium new.medium
      by_result (Ok u) refused untouched = wider (below_of (answers_ok scrub_says (clear_refusal host.volume.geo some_pages offset) u (refused some_pages (held host.volume old.medium))))
      by_result (Err f) refused untouched =
          by_told (scrub_says f) (answers_told scrub_says f (clear_refusal host.volume.geo some_pages offset) (refused some_pages (held host.volume old.medium))) (λ none. untouched (λ e. none e))

  with_volume : (q : Result (Unit {0}) ScrubFault) → OnRefused scrub_says q (new ≡ old) → OnRefused scrub_says q ((host.volume ≡ host.volume) × (new ≡ old))
  with_volume (Ok u) same = tt
  with_volume (Err f) same = λ told. (refl, same told)

  on_ok : {P : Type 0} (q : Result (Unit {0}) ScrubFault) → P → OnOk q P
  on_ok (Ok u) p = p
  on_ok (Err f) p = tt

  pub clear_called : OnWorked scrub_says r ((pages : List Page) → VolumeHolds host.volume old.medium pages
      → EachReadsPages host.volume.geo new.medium (λ left. (left ≡ pages) ⊎ (left ≡ change_line clear_cell (offset / 64) pages)))
      → WritesBackOthers (λ line. line ≡ volume_line host.volume.geo (offset / 64)) old.medium new.medium → VolumeServes host.volume new.medium
      → Runs 1 0 (outcome_by scrub_says r) old.panel new.panel → VolumeCalled scrub_says host host.volume r (MayLeaveVolume host.volume.geo (Some (ClearVolume offset))) 1 0 old new
  clear_called images outside served runs = record {
    untouched = with_volume r untouched;
    images = images;
    outside = beside outside;
    marks = λ n below. outside.bad n (λ is. let behind = volume_behind host.volume.geo (offset / 64) in omega (arith, is, behind, below));
    serves = λ _. served;
    sizes = refl;
    settled = on_ok r (serves.mounted on).volume_settled;
    runs = runs;
  }

pub fate_clear : (host : HostState) (old : Device) (h : Machine) (offset : ℕ) → HostServes host old → Stands host old h → host.mode ≡ On
    → fate h (ClearVolume offset) ≡ unless_refused h (option_map line_answer (clear_refusal h.geometry h.volume offset)) (Works Done (record h { volume = change_line clear_cell (offset / 64) h.volume }))
fate_clear host old h offset serves stands on = fate_marking host old h (ClearVolume offset) serves stands on refl refl refl refl refl
