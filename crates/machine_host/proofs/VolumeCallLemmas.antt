-- What a host and its device stand for, after a call on the volume.
use Rattle.std.proofs.Common.{◌≡◌, ◌≢◌, ◌<◌, ◌≤◌, ℕ, Bool, true, false, IsTrue, Option, Some, None, option_map, Result, Ok, Err, OnOk, List, [], refl, sym, ap, subst, ◌∙◌, arith}
use Rattle.line_device.specs.Medium.{Medium}
use Rattle.line_device.specs.Panel.{Runs}
use Rattle.line_device.specs.Device.{Device}
use Rattle.line_words.specs.Told.{Told, Answers, OnRefused, OnWorked, is_done, outcome_by, refusal_of}
use Rattle.line_words.specs.Told.Told.{Starves}
use Rattle.word_tables.specs.declared.geometry.Geometry.{Geometry}
use Rattle.word_tables.specs.Layout.{meta_lines}
use Rattle.nvm_model.specs.Page.{Page, presence_of}
use Rattle.nvm_model.specs.Storage.{Block}
use Rattle.page_lines.specs.Turns.{WritesBackOthers}
use Rattle.block_device.specs.Images.{AreReadable}
use Rattle.block_device.proofs.FrameLemmas.{each_reads-stays}
use Rattle.block_device.specs.Area.{IsBlockLine}
use Rattle.block_device.proofs.ReadLemmas.{Stays}
use Rattle.block_device.proofs.ImageLemmas.{each_reads-then}
use Rattle.pm_volume.specs.Area.{IsOfVolume}
use Rattle.pm_volume.specs.Calls.{ChangesVolume, SyncsVolume}
use Rattle.pm_volume.specs.Costs.{lines_there_at}
use Rattle.pm_volume.specs.Images.{EachReadsPages}
use Rattle.pm_volume.specs.Object.{KeepsMarks, VolumeState, VolumeHolds, VolumeServes}
use Rattle.pm_volume.specs.Refusals.{VolumeRefusal, metadata_refusal_if, volume_says}
use Rattle.pm_volume.specs.Refusals.VolumeRefusal.{Range, Length, Address, Meta, Poison}
use Rattle.pm_volume.specs.Synced.{MaySyncAt}
use Rattle.pm_volume.specs.declared.fault.VolumeFault.{VolumeFault}
use Rattle.pm_volume.specs.declared.fault.VolumeFault.TheVariants as fault
use Rattle.pm_volume.proofs.StandingLemmas.{served_pages}
use Rattle.nvm_model.proofs.KeptLemmas.{LineKept}
use Rattle.file_journal.specs.Area.{IsOfFiles}
use Rattle.file_journal.proofs.EachFilesLemmas.{each_files-then}
use Rattle.reply_text.specs.Answer.{Answer, IsPrintable}
use Rattle.reply_text.specs.Answer.Answer.{Done}
use Rattle.reply_text.specs.Room.{most_of}
use Rattle.script_text.specs.Action.{Action}
use Rattle.machine_model.specs.declared.mode.Mode.{Mode}
use Rattle.machine_model.specs.declared.mode.Mode.TheVariants.{On}
use Rattle.machine_model.specs.Machine.{Machine}
use Rattle.machine_model.specs.Machine.Fate.{Works}
use Rattle.machine_model.specs.Commands.{LeavesVolume, MayLeaveBlocks, MayLeaveFiles, MayLeaveVolume, fate, longest, spending, unless_refused}
use Rattle.machine_host.specs.Faults.{answer_after, mode_after}
use Rattle.machine_model.specs.Interrupted.{stop_in}
use Rattle.machine_host.specs.Lines.{HasLayout, MetadataStands}
use Rattle.machine_model.specs.Lines.{bad_metadata}
use Rattle.machine_model.specs.Meaning.{metadata_refusal}
use Rattle.machine_model.specs.OnVolume.{part_synced_at, persist_at, volume_answer}
use Rattle.machine_host.specs.Responding.{Answered}
use Rattle.machine_host.specs.Stands.{HostState, HostServes, AreMounted, Stands, Comes}
use Rattle.machine_host.proofs.CallLemmas.{IsPart, comes_of_call, on_refused-then, printable_after, serves_of_call, short_told, worked-then}
use Rattle.machine_host.proofs.ElsewhereLemmas.{first_not_volume, mounted-volume, volume_apart}
use Rattle.machine_host.proofs.FilesAsideLemmas.{files_not_volume}
use Rattle.machine_host.proofs.FilesLeftLemmas.{may_leave-same}
use Rattle.machine_host.proofs.LayoutLemmas.{kept-others, layout-others, metadata-then, same_bad, stays_of_kept}
use Rattle.machine_model.proofs.RefusalLemmas.{meta_refused}
use Rattle.machine_host.proofs.StepLemmas.{BlocksAre, DeviceLeft, FilesAre, blocks_still, files_still, stands_done}
use Rattle.machine_host.specs.Keeping.{Changes, is_refusal, reach}
use Rattle.machine_host.proofs.KeepLemmas.{keeps_called, keeps_inside}

-- What a call on the volume says, whichever it is. What it may leave is told of the pages that the volume stood for.
pub record VolumeCalled {T E R : Type 0} (says : E → Told R) (host : HostState) (s : VolumeState) (r : Result T E) (may : List Page → List Page → Type 0) (calls persists : ℕ) (old new : Device) : Type 0 where
  pub untouched : OnRefused says r ((s ≡ host.volume) × (new ≡ old))
  pub images : OnWorked says r ((pages : List Page) → VolumeHolds host.volume old.medium pages → EachReadsPages host.volume.geo new.medium (may pages))
  pub outside : WritesBackOthers (IsOfVolume host.volume.geo) old.medium new.medium
  pub marks : KeepsMarks host.volume.geo old.medium new.medium
  pub serves : IsTrue s.settled → VolumeServes s new.medium
  pub sizes : s.geo ≡ host.volume.geo
  pub settled : OnOk r (IsTrue s.settled)
  pub runs : Runs calls persists (outcome_by says r) old.panel new.panel

-- its answers
never_starves : (f : VolumeFault) → volume_says f ≡ Starves → ⊥
never_starves fault.Range e = cc e
never_starves fault.Length e = cc e
never_starves fault.Address e = cc e
never_starves (fault.Meta line) e = cc e
never_starves (fault.Poison offset) e = cc e
never_starves fault.Device e = cc e
never_starves fault.PowerLost e = cc e

no_stop : (w : VolumeRefusal) → stop_in (volume_answer w) ≡ None
no_stop Range = refl
no_stop Length = refl
no_stop Address = refl
no_stop (Meta line) = refl
no_stop (Poison offset) = refl

short_refusal : (w : VolumeRefusal) → most_of (volume_answer w) ≤ 72
short_refusal Range = omega arith
short_refusal Length = omega arith
short_refusal Address = omega arith
short_refusal (Meta line) = omega arith
short_refusal (Poison offset) = omega arith

printable_refusal : (w : VolumeRefusal) → IsPrintable (volume_answer w)
printable_refusal Range = tt
printable_refusal Length = tt
printable_refusal Address = tt
printable_refusal (Meta line) = tt
printable_refusal (Poison offset) = tt

pub volume_part : IsPart volume_says volume_answer
volume_part = record { printable = printable_refusal; quiet = no_stop; short = short_refusal; fed = never_starves }

pub short_after : {T E R : Type 0} (says : E → Told R) (answer_to : R → Answer) → IsPart says answer_to → (good : Answer) → most_of good ≤ 72 → (r : Result T E) → most_of (answer_after says answer_to good r) ≤ 72
short_after says answer_to part good short (Ok x) = short
short_after says answer_to part good short (Err f) = short_told answer_to part.short (says f)

-- the host in a mode after the call
abbrev pub volume_after : HostState → VolumeState → Mode → HostState
volume_after host s mode = record host { mode = mode; volume = s }

module _ (host : HostState) (old new : Device) (on : host.mode ≡ On) (serves : HostServes host old) (outside : WritesBackOthers (IsOfVolume host.volume.geo) old.medium new.medium) where
  mounted : AreMounted host.geometry host.blocks host.volume host.files old.medium
  mounted = serves.mounted on

  work_outside : WritesBackOthers (IsOfVolume host.geometry) old.medium new.medium
  work_outside = subst (λ g. WritesBackOthers (IsOfVolume g) old.medium new.medium) mounted.volume_geometry outside

  -- lines of other parts are only written back
  kept_worked : (n : ℕ) → (IsOfVolume host.geometry n → ⊥) → LineKept old.medium new.medium n
  kept_worked n apart = kept-others (IsOfVolume host.geometry) old.medium new.medium n apart work_outside

  blocks_stay : (n : ℕ) → IsBlockLine host.geometry n → Stays old.medium new.medium n
  blocks_stay n of = stays_of_kept old.medium new.medium n (kept_worked n (λ of_volume. volume_apart host.geometry n serves.layout.valid of_volume of))

  files_stay : (n : ℕ) → IsOfFiles host.geometry n → LineKept old.medium new.medium n
  files_stay n of = kept_worked n (files_not_volume host.geometry n serves.layout.valid of)

  layout_worked : HasLayout host.geometry new.medium
  layout_worked = layout-others host.geometry old.medium new.medium serves.layout (IsOfVolume host.geometry) (λ of. first_not_volume host.geometry 0 (omega arith) of) work_outside

  mounted_worked : (s : VolumeState) → s.geo ≡ host.volume.geo → IsTrue s.settled → VolumeServes s new.medium → AreMounted host.geometry host.blocks s host.files new.medium
  mounted_worked s same settled served =
      mounted-volume host.geometry host.blocks host.volume host.files old.medium new.medium serves.layout.valid (λ n below. work_outside.stays_strong n (serves.layout.strong n below)) work_outside.count mounted
      s blocks_stay files_stay same settled served

  -- the blocks can be read still
  readable_worked : KeepsMarks host.volume.geo old.medium new.medium → bad_metadata host.geometry new.medium.is_bad ≡ [] → AreReadable host.geometry new.medium
  readable_worked marks none =
      let same = same_bad host.geometry old.medium new.medium (λ n below. marks n (subst (λ g. n < meta_lines g) (sym mounted.volume_geometry) below)) in
      each_reads-stays host.geometry old.medium new.medium (λ _. Unit {0}) serves.layout.valid blocks_stay (serves.readable (sym same ∙ none))

module _ {E R : Type 0} (says : E → Told R) (host : HostState) (s : VolumeState) (action : Action) (calls persists : ℕ) (h : Machine) (few : calls ≤ (spending h action).calls) (few_persists : persists ≤ (spending h action).persists)
    (old new : Device) (on : host.mode ≡ On) (serves : HostServes host old) (stands : Stands host old h) where
  geo_is : host.volume.geo ≡ h.geometry
  geo_is = (serves.mounted on).volume_geometry ∙ stands.geometry

  -- blocks and files, which such a call leaves
  blocks_after : WritesBackOthers (IsOfVolume host.volume.geo) old.medium new.medium → BlocksAre host new h h.blocks
  blocks_after outside = blocks_still host old new h stands serves on (blocks_stay host old new on serves outside)

  files_after : WritesBackOthers (IsOfVolume host.volume.geo) old.medium new.medium → FilesAre host new h h.files
  files_after outside = files_still host old new h stands serves on (files_stay host old new on serves outside)

  -- and the metadata
  metadata_after : WritesBackOthers (IsOfVolume host.volume.geo) old.medium new.medium → KeepsMarks host.volume.geo old.medium new.medium → MetadataStands h.geometry new.medium h.bad_meta
  metadata_after outside marks =
      metadata-then h.geometry old.medium new.medium h.bad_meta
      (layout-others h.geometry old.medium new.medium stands.device.metadata.layout (IsOfVolume host.volume.geo) (λ of. first_not_volume host.volume.geo 0 (omega arith) of) outside)
      (λ n below. marks n (subst (λ g. n < meta_lines g) (sym geo_is) below)) stands.device.metadata

  -- the state after a call that went well
  stands_worked : {T : Type 0} {may : List Page → List Page → Type 0} (r : Result T E) (pages : List Page) → VolumeCalled says host s r may calls persists old new → OnOk r (VolumeHolds s new.medium pages)
      → OnOk r (Stands (volume_after host s On) new (record h { volume = pages }))
  stands_worked (Ok x) pages c holds =
      stands_done host (volume_after host s On) old new h action stands on calls persists few few_persists refl refl refl h.blocks pages h.files refl c.runs (metadata_after c.outside c.marks)
      (blocks_after c.outside)
      (λ good. subst (λ g. EachReadsPages g new.medium (λ x. x ≡ pages)) (c.sizes ∙ geo_is) (served_pages s new.medium pages (c.serves c.settled) holds), holds)
      (files_after c.outside)
  stands_worked (Err e) pages c holds = tt

  left_by : ((bs : List Block) → bs ≡ h.blocks → MayLeaveBlocks (Some action) h.blocks bs) → WritesBackOthers (IsOfVolume host.volume.geo) old.medium new.medium → KeepsMarks host.volume.geo old.medium new.medium
      → EachReadsPages host.volume.geo new.medium (MayLeaveVolume host.volume.geo (Some action) h.volume) → DeviceLeft h action new.medium
  left_by kept outside marks each = record {
    metadata = metadata_after outside marks;
    blocks = λ good. each_reads-then h.geometry new.medium (λ bs. bs ≡ h.blocks) (MayLeaveBlocks (Some action) h.blocks) kept ((blocks_after outside).0 good);
    volume = λ good. subst (λ g. EachReadsPages g new.medium (MayLeaveVolume g (Some action) h.volume)) geo_is each;
    files = λ good. each_files-then h.geometry new.medium (λ files. files ≡ h.files) (MayLeaveFiles h.mappings (Some action) h.files) (may_leave-same h.mappings (Some action) h.files) ((files_after outside).0 good);
  }

  left_worked : {T : Type 0} (r : Result T E) → ((bs : List Block) → bs ≡ h.blocks → MayLeaveBlocks (Some action) h.blocks bs)
      → VolumeCalled says host s r (MayLeaveVolume host.volume.geo (Some action)) calls persists old new → OnWorked says r (DeviceLeft h action new.medium)
  left_worked (Ok x) kept c = left_by kept c.outside c.marks (c.images h.volume (stands.volume on))
  left_worked (Err e) kept c = λ worked. left_by kept c.outside c.marks (c.images worked h.volume (stands.volume on))

pub same_host : {T E R : Type 0} (says : E → Told R) (host : HostState) (s : VolumeState) (r : Result T E) (old new : Device) → OnRefused says r ((s ≡ host.volume) × (new ≡ old))
    → OnRefused says r ((volume_after host s host.mode ≡ host) × (new ≡ old))
same_host says host s (Ok x) old new untouched = tt
same_host says host s (Err e) old new untouched = λ told. let same = untouched told in (ap (λ v. record host { volume = v }) same.0, same.1)

mounted_ok : {T E R : Type 0} {may : List Page → List Page → Type 0} (says : E → Told R) (host : HostState) (s : VolumeState) (r : Result T E) (calls persists : ℕ) (old new : Device) → host.mode ≡ On → HostServes host old
    → VolumeCalled says host s r may calls persists old new → OnOk r (AreMounted host.geometry host.blocks s host.files new.medium)
mounted_ok says host s (Ok x) calls persists old new on serves c = mounted_worked host old new on serves c.outside s c.sizes c.settled (c.serves c.settled)
mounted_ok says host s (Err e) calls persists old new on serves c = tt

pub settled_ok : {T : Type 0} (s : VolumeState) (r : Result T VolumeFault) → s.settled ≡ is_done (outcome_by volume_says r) → OnOk r (IsTrue s.settled)
settled_ok s (Ok x) is = is
settled_ok s (Err f) is = tt

-- a call that changes the volume
pub volume_called : {D : Type 0} (state : D → Device) (host : HostState) (s : VolumeState) (before after : D) (r : Result (Unit {0}) VolumeFault) (to : List Page → List Page) (may : List Page → List Page → Type 0) (calls persists : ℕ)
    → ChangesVolume state host.volume s before after r to may calls persists → VolumeCalled volume_says host s r may calls persists (state before) (state after)
volume_called state host s before after r to may calls persists said = record {
  untouched = on_refused-then volume_says r (λ same. (same.0, ap state same.1)) said.untouched;
  images = said.images;
  outside = said.outside;
  marks = said.metadata;
  serves = said.serves;
  sizes = said.object.0;
  settled = settled_ok s r said.object.1;
  runs = said.runs;
}

-- a fault that refuses leaves the volume settled
refused_done : (f : VolumeFault) → refusal_of (volume_says f) ≢ None → is_done (outcome_by {T = Unit {0}} volume_says (Err f)) ≡ true
refused_done fault.Range told = refl
refused_done fault.Length told = refl
refused_done fault.Address told = refl
refused_done (fault.Meta line) told = refl
refused_done (fault.Poison offset) told = refl
refused_done fault.Device told = absurd (told refl)
refused_done fault.PowerLost told = absurd (told refl)

-- so a sync that is refused leaves it as it was
pub same_volume : (v s : VolumeState) (P Q : Type 0) (r : Result (Unit {0}) VolumeFault) → s ≡ record v { settled = is_done (outcome_by volume_says r) } → v.settled ≡ true → (P → Q) → OnRefused volume_says r P
    → OnRefused volume_says r ((s ≡ v) × Q)
same_volume v s P Q (Ok x) is was then_ same = tt
same_volume v s P Q (Err f) is was then_ same = λ told. (is ∙ ap (λ b. record v { settled = b }) (refused_done f told ∙ sym was), then_ (same told))

-- the images of a sync, as the machine has them
synced_images : (geo : Geometry) (n : Medium) (start : Option ℕ) (len : ℕ) (pages : List Page) → EachReadsPages geo n (MaySyncAt start len pages) → EachReadsPages geo n (LeavesVolume (part_synced_at start len) pages (persist_at start len pages))
synced_images geo n None len pages each = each
synced_images geo n (Some start) len pages each = each

pub volume_synced : {D : Type 0} (state : D → Device) (host : HostState) (s : VolumeState) (before after : D) (r : Result (Unit {0}) VolumeFault) (why : List Page → Option VolumeRefusal) (start : Option ℕ) (len : ℕ) → host.volume.settled ≡ true
    → SyncsVolume state host.volume s before after r why start len
    → VolumeCalled volume_says host s r (λ pages. LeavesVolume (part_synced_at start len) pages (persist_at start len pages)) (lines_there_at host.volume.geo host.volume.present start len) (lines_there_at host.volume.geo host.volume.present start len)
    (state before) (state after)
volume_synced state host s before after r why start len was said = record {
  untouched = same_volume host.volume s _ _ r said.object was (λ same. ap state same) said.untouched;
  images = worked-then volume_says r (λ each pages holds. synced_images host.volume.geo (state after).medium start len pages (each pages holds)) said.images;
  outside = said.outside;
  marks = said.metadata;
  serves = λ _. said.serves;
  sizes = ap (λ k. k.geo) said.object;
  settled = settled_ok s r (ap (λ k. k.settled) said.object);
  runs = said.runs;
}

-- Of a host behind a reference: `host` is what is inside `now`, and `after` what the answer leaves.
module _ {E R : Type 0} (says : E → Told R) (answer_to : R → Answer) (part : IsPart says answer_to) (now host after : HostState) (s : VolumeState) (r : Result (Unit {0}) E) (calls persists : ℕ) (old new : Device)
    (inside : host ≡ now) (state : after ≡ volume_after host s (mode_after says r)) (on : now.mode ≡ On) (serves : HostServes now old) (action : Action)
    (few : (h : Machine) → Stands now old h → (calls ≤ (spending h action).calls) × (persists ≤ (spending h action).persists))
    (kept : (h : Machine) (bs : List Block) → bs ≡ h.blocks → MayLeaveBlocks (Some action) h.blocks bs)
    (call : VolumeCalled says host s r (MayLeaveVolume host.volume.geo (Some action)) calls persists old new) where
  on_inside : host.mode ≡ On
  on_inside = ap (λ k. k.mode) inside ∙ on

  serves_inside : HostServes host old
  serves_inside = subst (λ k. HostServes k old) (sym inside) serves

  pub work_serves : HostServes after new
  work_serves =
      subst (λ k. HostServes k new) (sym state)
      (serves_of_call says answer_to part host (volume_after host s) old new on_inside (λ m. refl) (λ m. refl) calls persists r serves_inside
      (same_host says host s r old new call.untouched) (layout_worked host old new on_inside serves_inside call.outside) (readable_worked host old new on_inside serves_inside call.outside call.marks) (mounted_ok says host s r calls persists old new on_inside serves_inside call) call.runs)

  pub work_comes : (h : Machine) (good answer : Answer) (why : Option R) (pages : List Page) → stop_in good ≡ None → Stands now old h
      → fate h action ≡ unless_refused h (option_map answer_to why) (Works good (record h { volume = pages })) → Answers says why r → OnOk r (VolumeHolds s new.medium pages)
      → answer ≡ answer_after says answer_to good r → Comes h action (fate h action) answer after old new
  work_comes h good answer why pages quiet stands fate_is refused ok answer_is =
      let stands_inside = subst (λ k. Stands k old h) (sym inside) stands in
      let spent = few h stands in
      subst (λ a. Comes h action (fate h action) a after old new) (sym answer_is)
      (subst (λ k. Comes h action (fate h action) (answer_after says answer_to good r) k old new) (sym state)
      (subst (λ fate. Comes h action fate (answer_after says answer_to good r) (volume_after host s (mode_after says r)) old new) (sym fate_is)
      (comes_of_call says answer_to part host (volume_after host s) old new on_inside (λ m. refl) (λ m. refl) calls persists action h stands_inside spent.0 spent.1
      r good why (record h { volume = pages }) quiet refused (same_host says host s r old new call.untouched)
      (stands_worked says host s action calls persists h spent.0 spent.1 old new on_inside serves_inside stands_inside r pages call ok)
      (left_worked says host s action calls persists h spent.0 spent.1 old new on_inside serves_inside stands_inside r (kept h) call) call.runs)))

-- The refusals of the volume are the machine's, of a state that the host stands for.
module _ (now host : HostState) (old : Device) (h : Machine) (inside : host ≡ now) (on : now.mode ≡ On) (serves : HostServes now old) (stands : Stands now old h) where
  pub volume_sizes : host.volume.geo ≡ h.geometry
  volume_sizes = ap (λ k. k.volume.geo) inside ∙ (serves.mounted on).volume_geometry ∙ stands.geometry

  pub volume_pages : VolumeHolds host.volume old.medium h.volume
  volume_pages = subst (λ k. VolumeHolds k.volume old.medium h.volume) (sym inside) (stands.volume on)

  pub presence_seen : presence_of h.volume ≡ host.volume.present
  presence_seen = volume_pages.there

  -- what is counted of the volume is counted of the machine's pages
  pub counted_seen : (count : Geometry → List Bool → ℕ) → count host.volume.geo host.volume.present ≤ count h.geometry (presence_of h.volume)
  counted_seen count =
      subst (λ geo. count host.volume.geo host.volume.present ≤ count geo (presence_of h.volume)) volume_sizes
      (subst (λ there. count host.volume.geo host.volume.present ≤ count host.volume.geo there) (sym presence_seen) (omega arith))

  -- a bad line of metadata refuses what changes it
  pub meta_seen : (changes : Bool) → metadata_refusal changes h.bad_meta ≡ option_map volume_answer (metadata_refusal_if changes host.volume.geo old.medium)
  meta_seen true =
      ap (metadata_refusal true) (sym stands.device.metadata.bad ∙ ap (λ g. bad_metadata g old.medium.is_bad) (sym volume_sizes))
      ∙ meta_refused Meta volume_answer (λ n. refl) host.volume.geo old.medium.is_bad
  meta_seen false = refl

-- a call that was not refused or stopped, of the pages that the volume stands for
pub of_pages : {T E : Type 0} (s t : VolumeState) (m n : Medium) (r : Result T E) (f : List Page → List Page) (pages : List Page)
    → OnOk r ((pages : List Page) → VolumeHolds s m pages → VolumeHolds t n (f pages)) → VolumeHolds s m pages → OnOk r (VolumeHolds t n (f pages))
of_pages s t m n (Ok x) f pages so holds = so pages holds
of_pages s t m n (Err e) f pages so holds = tt

module _ {E R : Type 0} (says : E → Told R) (answer_to : R → Answer) (part : IsPart says answer_to) (now host after : HostState) (s : VolumeState) (r : Result (Unit {0}) E) (calls persists : ℕ) (old new : Device)
    (inside : host ≡ now) (state : after ≡ volume_after host s (mode_after says r)) (on : now.mode ≡ On) (serves : HostServes now old) (action : Action)
    (few : (h : Machine) → Stands now old h → (calls ≤ (spending h action).calls) × (persists ≤ (spending h action).persists))
    (kept : (h : Machine) (bs : List Block) → bs ≡ h.blocks → MayLeaveBlocks (Some action) h.blocks bs)
    (call : VolumeCalled says host s r (MayLeaveVolume host.volume.geo (Some action)) calls persists old new) where
  -- A change of the volume is answered.
  pub work_answered : (answer : Answer) (why : List Page → Option R) (to : Machine → List Page) → longest action ≡ 72
      → ((h : Machine) → Stands now old h → fate h action ≡ unless_refused h (option_map answer_to (why h.volume)) (Works Done (record h { volume = to h })))
      → ((h : Machine) → Stands now old h → Answers says (why h.volume) r) → ((h : Machine) → Stands now old h → OnOk r (VolumeHolds s new.medium (to h)))
      → answer ≡ answer_after says answer_to Done r → Changes (reach action) old new → Answered action answer now after old new
  work_answered answer why to long fate_is refused ok answer_is changes = record {
    step = λ h stands. work_comes says answer_to part now host after s r calls persists old new inside state on serves action few kept call h Done answer (why h.volume) (to h) refl stands (fate_is h stands) (refused h stands) (ok h stands) answer_is;
    keeps = keeps_inside (is_refusal answer) action now host after (volume_after host s (mode_after says r)) old new inside state
        (keeps_called says answer_to r answer (record { good = Done; accepts = refl; is = answer_is }) action host (volume_after host s) old new (ap (λ k. k.mode) inside ∙ on) (same_host says host s r old new call.untouched) changes);
    printable = subst IsPrintable (sym answer_is) (printable_after says answer_to part Done tt r);
    room = let short = subst (λ a. most_of a ≤ 72) (sym answer_is) (short_after says answer_to part Done (omega arith) r) in subst (λ n. most_of answer ≤ n) (sym long) short;
    serves = work_serves says answer_to part now host after s r calls persists old new inside state on serves action few kept call;
  }

pub settled_was : (now host : HostState) (old : Device) → host ≡ now → now.mode ≡ On → HostServes now old → host.volume.settled ≡ true
settled_was now host old inside on serves = ap (λ k. k.volume.settled) inside ∙ (serves.mounted on).volume_settled
