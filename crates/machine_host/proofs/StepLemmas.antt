-- What a host and its device stand for, after what is done to the device.
use Rattle.std.proofs.Common.{◌≡◌, ℕ, ◌≤◌, inl, inr, true, false, Some, None, option_map, Result, Ok, Err, OnErr, List, [], refl, sym, ap, subst, ◌∙◌, arith}
use Rattle.word_tables.specs.declared.geometry.Geometry.{Geometry}
use Rattle.line_device.specs.Medium.{Medium, WritesBack}
use Rattle.line_device.proofs.WriteBackLemmas.{write_back-refl}
use Rattle.line_device.specs.Panel.{Runs, after_arm_cut, after_arm_fail, after_evict, after_power_off}
use Rattle.line_device.specs.declared.order.Order.{Order}
use Rattle.line_device.specs.declared.order.Order.TheVariants.{Cut as ForCut, Evict as ForWriteBack, Fail as ForFailure}
use Rattle.line_device.specs.Panel.Outcome.{went}
use Rattle.line_device.specs.Device.{Device}
use Rattle.line_words.specs.declared.interruption.Interruption.{Interruption}
use Rattle.line_words.specs.Ending.{ended}
use Rattle.nvm_model.specs.Page.{Page}
use Rattle.nvm_model.specs.Storage.{Block, File, Event}
use Rattle.block_device.specs.Area.{IsBlockLine}
use Rattle.block_device.specs.Object.{blocks_of}
use Rattle.block_device.specs.Images.{EachReads}
use Rattle.block_device.proofs.FrameLemmas.{each_reads-stays}
use Rattle.block_device.proofs.ReadLemmas.{Stays}
use Rattle.block_device.proofs.ServesLemmas.{blocks_of-stays}
use Rattle.pm_volume.specs.Images.{EachReadsPages}
use Rattle.pm_volume.specs.Object.{VolumeHolds}
use Rattle.nvm_model.proofs.KeptLemmas.{LineKept, line_kept-write_back}
use Rattle.pm_volume.specs.Area.{IsOfVolume}
use Rattle.file_journal.specs.Area.{IsOfFiles}
use Rattle.file_journal.specs.Standing.{EachReadsFiles, FilesStand}
use Rattle.script_text.specs.Action.{Action}
use Rattle.script_text.specs.Action.Action.{Cut, CutIn, FailIn, Evict}
use Rattle.reply_text.specs.Answer.{Answer}
use Rattle.reply_text.specs.Answer.Answer.{Done, Refused}
use Rattle.machine_model.specs.Machine.{Machine}
use Rattle.machine_model.specs.Commands.{MayLeaveBlocks, MayLeaveFiles, MayLeaveVolume, early_refusal, fate, meaning, spending, unless_refused, while_interrupted}
use Rattle.machine_model.specs.Machine.Fate.{Works, Orders, Cuts}
use Rattle.machine_model.specs.Interrupted.{interrupted_answer, interrupted_mode, stop_in}
use Rattle.machine_model.specs.Run.{answered, with_cut, with_order, worked}
use Rattle.machine_model.specs.Telling.{Tells}
use Rattle.machine_model.specs.declared.mode.Mode.TheVariants as modes
use Rattle.machine_host.specs.Faults.{LeavesStarved}
use Rattle.machine_model.specs.Meaning.{Starved, mode_refusal, no_reasons}
use Rattle.machine_model.specs.Meaning.Starved.{Untouched, WrittenBack, Unmounted, Unrecovered}
use Rattle.machine_host.specs.Lines.{MetadataStands}
use Rattle.machine_model.specs.Lines.{bad_metadata}
use Rattle.machine_host.specs.Stands.{HostState, HostServes, Stands, Comes, is_powered, medium_of}
use Rattle.machine_host.proofs.CostLemmas.{opens-none}
use Rattle.machine_host.proofs.ElsewhereLemmas.{pages_elsewhere, volume_holds_elsewhere}
use Rattle.machine_host.proofs.FilesAsideLemmas.{files_elsewhere, files_stand_elsewhere}
use Rattle.machine_host.proofs.LayoutLemmas.{layout-write_back, metadata-then, stays_of_kept}
use Rattle.machine_model.proofs.RefusalLemmas.{early_first, early_plain, fate_placed}
use Rattle.machine_host.proofs.TellingLemmas.{interrupts, never_on, never_stops, power_struck, struck, tells_interrupted, tells_nothing, tells_work}
use Rattle.nvm_base.specs.Stock.{Stock}

-- what a device stands for of the state: these blocks, pages and files
abbrev pub BlocksAre : HostState → Device → Machine → List Block → Type 0
BlocksAre host d h bs = (h.bad_meta ≡ [] → EachReads h.geometry d.medium (λ x. x ≡ bs)) × (blocks_of host.blocks d.medium ≡ bs)

abbrev pub PagesAre : HostState → Device → Machine → List Page → Type 0
PagesAre host d h pages = (h.bad_meta ≡ [] → EachReadsPages h.geometry d.medium (λ x. x ≡ pages)) × VolumeHolds host.volume d.medium pages

abbrev pub FilesAre : HostState → Device → Machine → List File → Type 0
FilesAre host d h files = (h.bad_meta ≡ [] → EachReadsFiles h.geometry d.medium (λ x. x ≡ files)) × FilesStand host.files.pages.journal.geo d.medium host.files.pages.journal.tables files

-- Each part stays for what it is, while lines of other parts are worked on.
module _ (host : HostState) (old new : Device) (h : Machine) (stands : Stands host old h) (serves : HostServes host old) where
  pub blocks_elsewhere : ((n : ℕ) → IsBlockLine host.geometry n → Stays old.medium new.medium n)
      → (h.bad_meta ≡ [] → EachReads h.geometry new.medium (MayLeaveBlocks h.interrupted h.blocks)) × (host.mode ≡ modes.On → blocks_of host.blocks new.medium ≡ h.blocks)
  blocks_elsewhere stays =
      let P = MayLeaveBlocks h.interrupted h.blocks in (
        λ good.
            subst (λ g. EachReads g new.medium P) stands.geometry
            (each_reads-stays host.geometry old.medium new.medium P serves.layout.valid stays
            (subst (λ g. EachReads g old.medium P) (sym stands.geometry) (stands.device.blocks good))),
        λ on.
            let mounted = serves.mounted on in
            blocks_of-stays host.blocks old.medium new.medium mounted.serves.valid (λ n of. stays n (subst (λ g. IsBlockLine g n) mounted.geometry of)) mounted.serves.all mounted.serves.is_map ∙ stands.blocks on,
      )

  pub volume_elsewhere : ((line : ℕ) → IsOfVolume host.geometry line → LineKept old.medium new.medium line)
      → (h.bad_meta ≡ [] → EachReadsPages h.geometry new.medium (MayLeaveVolume h.geometry h.interrupted h.volume)) × (host.mode ≡ modes.On → VolumeHolds host.volume new.medium h.volume)
  volume_elsewhere kept =
      let P = MayLeaveVolume h.geometry h.interrupted h.volume in (
        λ good.
            subst (λ g. EachReadsPages g new.medium P) stands.geometry
            (pages_elsewhere host.geometry old.medium new.medium serves.layout.valid kept P (subst (λ g. EachReadsPages g old.medium P) (sym stands.geometry) (stands.device.volume good))),
        λ on.
            let mounted = serves.mounted on in
            volume_holds_elsewhere host.geometry old.medium new.medium serves.layout.valid kept host.volume h.volume mounted.volume_geometry mounted.volume_serves.all (stands.volume on),
      )

  pub files_aside : ((line : ℕ) → IsOfFiles host.geometry line → LineKept old.medium new.medium line)
      → (h.bad_meta ≡ [] → EachReadsFiles h.geometry new.medium (MayLeaveFiles h.mappings h.interrupted h.files)) × (host.mode ≡ modes.On → FilesStand host.files.pages.journal.geo new.medium host.files.pages.journal.tables h.files)
  files_aside kept =
      let P = MayLeaveFiles h.mappings h.interrupted h.files in (
        λ good.
            subst (λ g. EachReadsFiles g new.medium P) stands.geometry
            (files_elsewhere host.geometry old.medium new.medium kept P (subst (λ g. EachReadsFiles g old.medium P) (sym stands.geometry) (stands.device.files good))),
        λ on.
            let mounted = serves.mounted on in
            files_stand_elsewhere host.geometry old.medium new.medium kept host.files.pages.journal h.files mounted.journal_geometry mounted.journal_right (stands.files on),
      )

  -- With the power on nothing is interrupted.
  module _ (on : host.mode ≡ modes.On) where
    pub is_whole : h.interrupted ≡ None
    is_whole = stands.device.whole (sym stands.mode ∙ on)

    pub blocks_still : ((n : ℕ) → IsBlockLine host.geometry n → Stays old.medium new.medium n) → BlocksAre host new h h.blocks
    blocks_still stays =
        let kept = blocks_elsewhere stays in
        (λ good. subst (λ interrupted. EachReads h.geometry new.medium (MayLeaveBlocks interrupted h.blocks)) is_whole (kept.0 good), kept.1 on)

    pub pages_still : ((line : ℕ) → IsOfVolume host.geometry line → LineKept old.medium new.medium line) → PagesAre host new h h.volume
    pages_still lines =
        let kept = volume_elsewhere lines in
        (λ good. subst (λ interrupted. EachReadsPages h.geometry new.medium (MayLeaveVolume h.geometry interrupted h.volume)) is_whole (kept.0 good), kept.1 on)

    pub files_still : ((line : ℕ) → IsOfFiles host.geometry line → LineKept old.medium new.medium line) → FilesAre host new h h.files
    files_still lines =
        let kept = files_aside lines in
        (λ good. subst (λ interrupted. EachReadsFiles h.geometry new.medium (MayLeaveFiles h.mappings interrupted h.files)) is_whole (kept.0 good), kept.1 on)

-- what an interrupted action left on the device
pub record DeviceLeft (h : Machine) (action : Action) (new : Medium) : Type 0 where
  pub metadata : MetadataStands h.geometry new h.bad_meta
  pub blocks : h.bad_meta ≡ [] → EachReads h.geometry new (MayLeaveBlocks (Some action) h.blocks)
  pub volume : h.bad_meta ≡ [] → EachReadsPages h.geometry new (MayLeaveVolume h.geometry (Some action) h.volume)
  pub files : h.bad_meta ≡ [] → EachReadsFiles h.geometry new (MayLeaveFiles h.mappings (Some action) h.files)

module _ (host after : HostState) (old new : Device) (h : Machine) (action : Action) (stands : Stands host old h) (on : host.mode ≡ modes.On)
    (calls persists : ℕ) (few : calls ≤ (spending h action).calls) (few_persists : persists ≤ (spending h action).persists) (same : medium_of after ≡ medium_of host) where
  -- Work that went well comes to its answer and its state.
  pub comes_of_done : (to : Machine) (answer : Answer) → stop_in answer ≡ None → Runs calls persists went old.panel new.panel → Stands after new to → Comes h action (Works answer to) answer after old new
  comes_of_done to answer quiet runs now = record {
    said = worked (spending h action) answer;
    next = to;
    answers = refl;
    takes = (answer, refl, inl (refl, refl));
    tells = tells_work (spending h action) calls persists few few_persists old.panel new.panel answer quiet runs;
    stands = now;
  }

  -- the state after it, where blocks, pages and files are these, and mappings and events as they were
  pub stands_done : after.files.mappings ≡ host.files.mappings → after.files.events ≡ host.files.events → (bs : List Block) (pages : List Page) (files : List File) → after.mode ≡ modes.On → Runs calls persists went old.panel new.panel → MetadataStands h.geometry new.medium h.bad_meta
      → BlocksAre after new h bs → PagesAre after new h pages → FilesAre after new h files → Stands after new (record h { blocks = bs; volume = pages; files = files })
  stands_done maps events bs pages files mode runs metadata blocks_are pages_are files_are =
      let whole = stands.device.whole (sym stands.mode ∙ on) in
      record {
        geometry = ap (λ (g : Geometry × ℕ). g.0) same ∙ stands.geometry;
        unit = ap (λ (g : Geometry × ℕ). g.1) same ∙ stands.unit;
        mode = mode ∙ sym on ∙ stands.mode;
        blocks = λ _. blocks_are.1;
        volume = λ _. pages_are.1;
        files = λ _. files_are.1;
        mappings = λ _. maps ∙ stands.mappings on;
        events = λ _. ap (λ (e : Stock Event). e.items) events ∙ stands.events on;
        device = record {
          unit = runs.orders.unit ∙ stands.device.unit;
          metadata = metadata;
          blocks = λ good. subst (λ interrupted. EachReads h.geometry new.medium (MayLeaveBlocks interrupted bs)) (sym whole) (blocks_are.0 good);
          volume = λ good. subst (λ interrupted. EachReadsPages h.geometry new.medium (MayLeaveVolume h.geometry interrupted pages)) (sym whole) (pages_are.0 good);
          files = λ good. subst (λ interrupted. EachReadsFiles h.geometry new.medium (MayLeaveFiles h.mappings interrupted files)) (sym whole) (files_are.0 good);
          power = runs.cause.0 ∙ stands.device.power;
          cut_armed = runs.cause.2 ∙ stands.device.cut_armed;
          fail_armed = runs.cause.3 ∙ stands.device.fail_armed;
          whole = stands.device.whole;
          stopped = stands.device.stopped;
        };
      }

  -- Work that was interrupted comes to what stopped it, in a state that knows it interrupted.
  pub comes_of_interruption : (good : Answer) (to : Machine) (by : Interruption) → after.mode ≡ interrupted_mode by → Runs calls persists (ended {T = Unit {0}} (Err by)) old.panel new.panel
      → DeviceLeft h action new.medium → Comes h action (Works good to) (interrupted_answer by) after old new
  comes_of_interruption good to by mode runs left = record {
    said = worked (spending h action) (interrupted_answer by);
    next = struck (while_interrupted h action) by new.panel;
    answers = refl;
    takes = (
      interrupted_answer by,
      refl,
      inr (by, refl, interrupts by (while_interrupted h action) calls persists old.panel new.panel runs stands.device.cut_armed stands.device.fail_armed),
    );
    tells = tells_interrupted (spending h action) calls persists few few_persists old.panel new.panel by runs;
    stands = record {
      geometry = ap (λ (g : Geometry × ℕ). g.0) same ∙ stands.geometry;
      unit = ap (λ (g : Geometry × ℕ). g.1) same ∙ stands.unit;
      mode = mode;
      blocks = λ is_on. absurd (never_on by (sym mode ∙ is_on));
      volume = λ is_on. absurd (never_on by (sym mode ∙ is_on));
      files = λ is_on. absurd (never_on by (sym mode ∙ is_on));
      mappings = λ is_on. absurd (never_on by (sym mode ∙ is_on));
      events = λ is_on. absurd (never_on by (sym mode ∙ is_on));
      device = record {
        unit = runs.orders.unit ∙ stands.device.unit;
        metadata = left.metadata;
        blocks = left.blocks;
        volume = left.volume;
        files = left.files;
        power = power_struck by h calls persists old.panel new.panel runs (stands.device.power ∙ ap is_powered (sym stands.mode ∙ on));
        cut_armed = refl;
        fail_armed = refl;
        whole = λ is_on. absurd (never_on by is_on);
        stopped = λ stop. absurd (never_stops by stop);
      };
    };
  }

-- what stands while all is only written back, in another mode and with other flags
pub written_back : (host : HostState) (old new : Device) (h next : Machine) → Stands host old h → HostServes host old → WritesBack old.medium new.medium → (next ≡ record h { mode = next.mode; cut_armed = next.cut_armed; fail_armed = next.fail_armed })
    → new.panel.unit ≡ old.panel.unit → new.panel.power ≡ is_powered next.mode → new.panel.cut_armed ≡ next.cut_armed → new.panel.fail_armed ≡ next.fail_armed → (next.mode ≡ modes.On → h.mode ≡ modes.On)
    → (next.mode ≡ modes.Stopped → h.mode ≡ modes.Stopped) → Stands (record host { mode = next.mode }) new next
written_back host old new h next stands serves write_back is unit power cut fail mode stop =
    let lines : (n : ℕ) → LineKept old.medium new.medium n = λ n. line_kept-write_back old.medium new.medium n write_back in
    let kept = blocks_elsewhere host old new h stands serves (λ n of. stays_of_kept old.medium new.medium n (lines n)) in
    let pages = volume_elsewhere host old new h stands serves (λ n of. lines n) in
    let listed = files_aside host old new h stands serves (λ n of. lines n) in
    subst (λ n. Stands (record host { mode = next.mode }) new n) (sym is) (record {
      geometry = stands.geometry;
      unit = stands.unit;
      mode = refl;
      blocks = λ on. kept.1 (stands.mode ∙ mode on);
      volume = λ on. pages.1 (stands.mode ∙ mode on);
      files = λ on. listed.1 (stands.mode ∙ mode on);
      mappings = λ on. stands.mappings (stands.mode ∙ mode on);
      events = λ on. stands.events (stands.mode ∙ mode on);
      device = record {
        unit = unit ∙ stands.device.unit;
        metadata = metadata-then h.geometry old.medium new.medium h.bad_meta (layout-write_back h.geometry old.medium new.medium stands.device.metadata.layout write_back) (λ n below. write_back.bad n) stands.device.metadata;
        blocks = kept.0;
        volume = pages.0;
        files = listed.0;
        power = power;
        cut_armed = cut;
        fail_armed = fail;
        whole = λ on. stands.device.whole (mode on);
        stopped = λ is. stands.device.stopped (stop is);
      };
    })

-- what stands after an order to the device, where other things are armed
pub stands_ordered : (host : HostState) (old new : Device) (h next : Machine) → Stands host old h → HostServes host old → WritesBack old.medium new.medium → (next ≡ record h { cut_armed = next.cut_armed; fail_armed = next.fail_armed })
    → new.panel.unit ≡ old.panel.unit → new.panel.power ≡ old.panel.power → new.panel.cut_armed ≡ next.cut_armed → new.panel.fail_armed ≡ next.fail_armed → Stands host new next
stands_ordered host old new h next stands serves write_back is unit power cut fail =
    let mode : next.mode ≡ h.mode = ap (λ n. n.mode) is in
    subst (λ (s : HostState). Stands s new next) (ap (λ m. record host { mode = m }) (mode ∙ sym stands.mode))
    (written_back host old new h next stands serves write_back (is ∙ ap (λ m. record h { mode = m; cut_armed = next.cut_armed; fail_armed = next.fail_armed }) (sym mode)) unit
    (power ∙ stands.device.power ∙ ap is_powered (sym mode)) cut fail (λ on. sym mode ∙ on) (λ stop. sym mode ∙ stop))

-- A cut comes to the state without power.
pub comes_of_cut : (host : HostState) (old new : Device) (h : Machine) → Stands host old h → HostServes host old → WritesBack old.medium new.medium
    → new.panel ≡ after_power_off old.panel
    → Comes h Cut (Cuts (record h { mode = modes.Off; cut_armed = false; fail_armed = false })) Done (record host { mode = modes.Off }) old new
comes_of_cut host old new h stands serves write_back panel =
    let next = record h { mode = modes.Off; cut_armed = false; fail_armed = false } in
    record {
      said = with_cut Done;
      next = next;
      answers = refl;
      takes = (refl, refl);
      tells = subst (Tells (with_cut Done) old.panel) (sym panel) (record {
        starts = refl;
        restarts = refl;
        orders = refl;
        arms = refl;
        offs = omega arith;
        faults = omega arith;
        cuts = omega arith;
        calls = omega arith;
        persists = omega arith;
        evicts = refl;
        setups = omega arith;
        disarms = refl;
      });
      stands = written_back host old new h next stands serves write_back refl (ap (λ p. p.unit) panel) (ap (λ p. p.power) panel) (ap (λ p. p.cut_armed) panel) (ap (λ p. p.fail_armed) panel) (λ on. cc) (λ stop. cc stop);
    }

-- An order to the device comes to the state where something is armed.
comes_of_order : (host : HostState) (old new : Device) (h next : Machine) (action : Action) (order : Order) → Stands host old h → HostServes host old → WritesBack old.medium new.medium
    → Tells (with_order order Done) old.panel new.panel → (next ≡ record h { cut_armed = next.cut_armed; fail_armed = next.fail_armed }) → new.panel.unit ≡ old.panel.unit
    → new.panel.power ≡ old.panel.power → new.panel.cut_armed ≡ next.cut_armed → new.panel.fail_armed ≡ next.fail_armed → Comes h action (Orders order next) Done host old new
comes_of_order host old new h next action order stands serves write_back tells is unit power cut fail = record {
  said = with_order order Done;
  next = next;
  answers = refl;
  takes = (refl, refl);
  tells = tells;
  stands = stands_ordered host old new h next stands serves write_back is unit power cut fail;
}

pub comes_of_cut_in : (host : HostState) (old new : Device) (h : Machine) (calls : ℕ) → Stands host old h → HostServes host old → WritesBack old.medium new.medium
    → new.panel ≡ after_arm_cut old.panel calls → Comes h (CutIn calls) (Orders (ForCut calls) (record h { cut_armed = true })) Done host old new
comes_of_cut_in host old new h calls stands serves write_back panel =
    comes_of_order host old new h (record h { cut_armed = true }) (CutIn calls) (ForCut calls) stands serves write_back
    (subst (Tells (with_order (ForCut calls) Done) old.panel) (sym panel) (record {
      starts = refl;
      restarts = refl;
      orders = refl;
      arms = refl;
      offs = omega arith;
      faults = omega arith;
      cuts = omega arith;
      calls = omega arith;
      persists = omega arith;
      evicts = refl;
      setups = omega arith;
      disarms = refl;
    }))
    refl (ap (λ p. p.unit) panel) (ap (λ p. p.power) panel) (ap (λ p. p.cut_armed) panel) (ap (λ p. p.fail_armed) panel ∙ stands.device.fail_armed)

pub comes_of_fail_in : (host : HostState) (old new : Device) (h : Machine) (calls : ℕ) → Stands host old h → HostServes host old → WritesBack old.medium new.medium
    → new.panel ≡ after_arm_fail old.panel calls → Comes h (FailIn calls) (Orders (ForFailure calls) (record h { fail_armed = true })) Done host old new
comes_of_fail_in host old new h calls stands serves write_back panel =
    comes_of_order host old new h (record h { fail_armed = true }) (FailIn calls) (ForFailure calls) stands serves write_back
    (subst (Tells (with_order (ForFailure calls) Done) old.panel) (sym panel) (record {
      starts = refl;
      restarts = refl;
      orders = refl;
      arms = refl;
      offs = omega arith;
      faults = omega arith;
      cuts = omega arith;
      calls = omega arith;
      persists = omega arith;
      evicts = refl;
      setups = omega arith;
      disarms = refl;
    }))
    refl (ap (λ p. p.unit) panel) (ap (λ p. p.power) panel) (ap (λ p. p.cut_armed) panel ∙ stands.device.cut_armed) (ap (λ p. p.fail_armed) panel)

-- A write-back comes to the state that there was.
pub comes_of_evict : (host : HostState) (old new : Device) (h : Machine) (lines : ℕ) → Stands host old h → HostServes host old → WritesBack old.medium new.medium
    → new.panel ≡ after_evict old.panel lines → Comes h (Evict lines) (Orders (ForWriteBack lines) h) Done host old new
comes_of_evict host old new h lines stands serves write_back panel =
    comes_of_order host old new h h (Evict lines) (ForWriteBack lines) stands serves write_back
    (subst (Tells (with_order (ForWriteBack lines) Done) old.panel) (sym panel) (record {
      starts = refl;
      restarts = refl;
      orders = refl;
      arms = refl;
      offs = omega arith;
      faults = omega arith;
      cuts = omega arith;
      calls = omega arith;
      persists = omega arith;
      evicts = refl;
      setups = omega arith;
      disarms = refl;
    }))
    refl (ap (λ p. p.unit) panel) (ap (λ p. p.power) panel) (ap (λ p. p.cut_armed) panel ∙ stands.device.cut_armed) (ap (λ p. p.fail_armed) panel ∙ stands.device.fail_armed)

-- What comes of a command where mode and places are right.
pub comes_placed : (host after : HostState) (old new : Device) (h : Machine) (action : Action) (answer : Answer) → Stands host old h → ((bad_meta : List ℕ) → mode_refusal host.mode bad_meta (meaning action).needs ≡ None)
    → (meaning action).reasons h ≡ record no_reasons { places = option_map Refused ((meaning action).checked h.geometry) } → (meaning action).checked host.geometry ≡ None
    → Comes h action ((meaning action).comes h) answer after old new → Comes h action (fate h action) answer after old new
comes_placed host after old new h action answer stands mode reasons places =
    subst (λ f. Comes h action f answer after old new)
    (sym (fate_placed h action (subst (λ m. mode_refusal m h.bad_meta (meaning action).needs ≡ None) stands.mode (mode h.bad_meta)) reasons
    (subst (λ geo. (meaning action).checked geo ≡ None) stands.geometry places)))

-- what holds at an error
pub on_err : {T E P : Type 0} (r : Result T E) → P → OnErr r P
on_err (Ok x) p = tt
on_err (Err e) p = p

pub on_err-with : {T E Q : Type 0} (P : Type 0) (r : Result T E) → OnErr r P → Q → OnErr r (P × Q)
on_err-with P (Ok x) p q = tt
on_err-with P (Err e) p q = (p, q)

-- where all is as it was, a command that ran out of memory leaves what it may
pub leaves_all : (starved : Starved) (host : HostState) (d : Device) → LeavesStarved starved host host d d
leaves_all Untouched host d = (refl, refl)
leaves_all WrittenBack host d = (record { events = host.files.events; same = refl; items = refl; spare = omega arith }, write_back-refl d.medium, refl)
leaves_all (Unmounted choice) host d = inl (refl, inl refl)
leaves_all Unrecovered host d = record { same = refl; opens = opens-none d.panel; stands = λ h stands. stands }

-- A refusal comes to itself.
pub comes_of_refusal : (host : HostState) (d : Device) (h : Machine) (action : Action) (answer : Answer) → Stands host d h
    → early_refusal host.mode (bad_metadata host.geometry d.medium.is_bad) host.geometry action ≡ Some answer → Comes h action (fate h action) answer host d d
comes_of_refusal host d h action answer stands is =
    subst (λ r. Comes h action (unless_refused h r ((meaning action).comes h)) answer host d d) (sym (early_first h action answer there)) (record {
      said = answered answer;
      next = h;
      answers = refl;
      takes = (refl, refl);
      tells = tells_nothing answer (early_plain h.mode h.bad_meta h.geometry action answer there).quiet d.panel;
      stands = stands;
    })
  where
    there : early_refusal h.mode h.bad_meta h.geometry action ≡ Some answer
    there =
        sym (ap (λ m. early_refusal m (bad_metadata host.geometry d.medium.is_bad) host.geometry action) stands.mode
        ∙ ap (λ geo. early_refusal h.mode (bad_metadata geo d.medium.is_bad) geo action) stands.geometry
        ∙ ap (λ bad. early_refusal h.mode bad h.geometry action) stands.device.metadata.bad) ∙ is
