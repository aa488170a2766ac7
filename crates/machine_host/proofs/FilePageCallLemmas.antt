-- What a host and its device stand for, after a call on the bytes of files.
use Rattle.std.proofs.Common.{◌≡◌, ◌<◌, ◌≤◌, ◌&&◌, ℕ, Bool, true, false, IsTrue, Option, Some, None, option_map, Result, Ok, Err, OnOk, List, [], refl, sym, ap, ap₂, subst, ◌∙◌, arith}
use Rattle.line_device.specs.Panel.{Runs}
use Rattle.line_device.specs.Device.{Device}
use Rattle.line_device.specs.Medium.{Medium}
use Rattle.line_words.specs.Told.{Told, Answers, OnRefused, OnWorked, outcome_by}
use Rattle.word_tables.specs.declared.geometry.Geometry.{Geometry}
use Rattle.word_tables.specs.Layout.{meta_lines}
use Rattle.nvm_base.specs.declared.files.FileEntry.{FileEntry}
use Rattle.mappings.specs.Object.{MappingsState}
use Rattle.nvm_model.specs.Page.{Page}
use Rattle.nvm_model.specs.Storage.{Block, File, Event}
use Rattle.nvm_model.proofs.KeptLemmas.{LineKept}
use Rattle.page_lines.specs.Turns.{WritesBackOthers}
use Rattle.block_device.specs.Area.{IsBlockLine}
use Rattle.block_device.specs.Images.{AreReadable}
use Rattle.block_device.proofs.FrameLemmas.{each_reads-stays}
use Rattle.block_device.proofs.ImageLemmas.{each_reads-then}
use Rattle.block_device.proofs.ReadLemmas.{Stays}
use Rattle.pm_volume.specs.Area.{IsOfVolume}
use Rattle.pm_volume.proofs.StandingLemmas.{each_pages-then}
use Rattle.file_journal.specs.Area.{IsOfFiles}
use Rattle.file_journal.specs.Object.{JournalState}
use Rattle.file_journal.specs.Standing.{EachReadsFiles, FilesStand}
use Rattle.file_journal.specs.Tables.{AreTables, known_units}
use Rattle.file_journal.proofs.ServesLemmas.{served_files}
use Rattle.file_pages.specs.Object.{KeepsMarks, PagesServe, PagesState}
use Rattle.reply_text.specs.Answer.{Answer, IsPrintable}
use Rattle.reply_text.specs.Answer.Answer.{Done}
use Rattle.reply_text.specs.Room.{most_of}
use Rattle.script_text.specs.Action.{Action}
use Rattle.machine_model.specs.declared.mode.Mode.{Mode}
use Rattle.machine_model.specs.declared.mode.Mode.TheVariants.{On}
use Rattle.machine_model.specs.Machine.{Machine}
use Rattle.machine_model.specs.Machine.Fate.{Works}
use Rattle.machine_model.specs.Commands.{MayLeaveBlocks, MayLeaveFiles, MayLeaveVolume, fate, longest, spending, unless_refused}
use Rattle.machine_host.specs.Faults.{answer_after, mode_after}
use Rattle.machine_model.specs.Interrupted.{stop_in}
use Rattle.machine_host.specs.Lines.{HasLayout, MetadataStands}
use Rattle.machine_model.specs.Lines.{bad_metadata}
use Rattle.machine_host.specs.Responding.{Answered}
use Rattle.machine_host.specs.Stands.{AreMounted, Comes, EachMapping, HostServes, HostState, IsOnFile, Stands, HasRoom}
use Rattle.machine_host.proofs.CallLemmas.{IsPart, comes_of_call, on_refused-then, printable_after, serves_of_call}
use Rattle.machine_host.proofs.ElsewhereLemmas.{mounted-files}
use Rattle.machine_host.proofs.FilesAsideLemmas.{files_not_blocks, files_not_volume, first_not_files}
use Rattle.machine_host.proofs.LayoutLemmas.{kept-others, layout-others, metadata-then, same_bad, stays_of_kept}
use Rattle.machine_host.proofs.StepLemmas.{BlocksAre, DeviceLeft, PagesAre, blocks_still, pages_still, stands_done}
use Rattle.machine_host.proofs.VolumeCallLemmas.{short_after}
use Rattle.nvm_base.specs.Stock.{Stock}
use Rattle.machine_host.proofs.RoomLemmas.{stands_telling}
use Rattle.machine_host.specs.Keeping.{Changes, is_refusal, reach}
use Rattle.machine_host.proofs.KeepLemmas.{keeps_called, keeps_inside}

-- files and their journal, ready for the next call
pub record AreReady (s : JournalState) (p : PagesState) (m : Medium) : Type 0 where
  pub sizes : p.journal.geo ≡ s.geo
  pub names : p.journal.tables.files ≡ s.tables.files
  pub settled : IsTrue p.settled
  pub journal : IsTrue p.journal.settled
  pub serves : PagesServe p m
  pub right : AreTables s.geo.fpages p.journal.tables
  pub held : known_units p.journal.tables.pages p.journal.free ≡ s.geo.fpages

-- What a call on the bytes of files says, whichever it is, and the events after it. What it may leave is told of the files that the journal stood for.
pub record PagesCalled {T E R : Type 0} (says : E → Told R) (host : HostState) (p : PagesState) (e : Stock Event) (r : Result T E) (may : List File → List File → Type 0) (calls persists : ℕ) (old new : Device) : Type 0 where
  pub untouched : OnRefused says r (((p ≡ host.files.pages) × (e ≡ host.files.events)) × (new ≡ old))
  pub images : OnWorked says r ((files : List File) → FilesStand host.files.pages.journal.geo old.medium host.files.pages.journal.tables files → EachReadsFiles host.files.pages.journal.geo new.medium (may files))
  pub outside : WritesBackOthers (IsOfFiles host.files.pages.journal.geo) old.medium new.medium
  pub marks : KeepsMarks host.files.pages.journal.geo old.medium new.medium
  pub ready : OnOk r (AreReady host.files.pages.journal p new.medium)
  pub room : OnOk r (HasRoom (record host.files { pages = p; events = e }) new.medium)
  pub runs : Runs calls persists (outcome_by says r) old.panel new.panel

-- an action that leaves blocks and volume, also where it is interrupted
pub record LeavesOthers (action : Action) : Type 0 where
  pub blocks : (old new : List Block) → new ≡ old → MayLeaveBlocks (Some action) old new
  pub volume : (geo : Geometry) (old new : List Page) → new ≡ old → MayLeaveVolume geo (Some action) old new

-- both are settled
pub both_settled : (a b : Bool) → (a && b) ≡ true → IsTrue a × IsTrue b
both_settled true b is = (refl, is)
both_settled false b is = cc is

-- the host in a mode after the call
abbrev pub pages_after : HostState → PagesState → Stock Event → Mode → HostState
pages_after host p e mode = record host { mode = mode; files = record host.files { pages = p; events = e } }

module _ (host : HostState) (old new : Device) (on : host.mode ≡ On) (serves : HostServes host old) (outside : WritesBackOthers (IsOfFiles host.files.pages.journal.geo) old.medium new.medium) where
  mounted : AreMounted host.geometry host.blocks host.volume host.files old.medium
  mounted = serves.mounted on

  work_outside : WritesBackOthers (IsOfFiles host.geometry) old.medium new.medium
  work_outside = subst (λ g. WritesBackOthers (IsOfFiles g) old.medium new.medium) mounted.journal_geometry outside

  -- lines of other parts are only written back
  kept_worked : (n : ℕ) → (IsOfFiles host.geometry n → ⊥) → LineKept old.medium new.medium n
  kept_worked n apart = kept-others (IsOfFiles host.geometry) old.medium new.medium n apart work_outside

  blocks_stay : (n : ℕ) → IsBlockLine host.geometry n → Stays old.medium new.medium n
  blocks_stay n of = stays_of_kept old.medium new.medium n (kept_worked n (λ of_files. files_not_blocks host.geometry n of_files of))

  volume_stays : (n : ℕ) → IsOfVolume host.geometry n → LineKept old.medium new.medium n
  volume_stays n of = kept_worked n (λ of_files. files_not_volume host.geometry n serves.layout.valid of_files of)

  layout_worked : HasLayout host.geometry new.medium
  layout_worked = layout-others host.geometry old.medium new.medium serves.layout (IsOfFiles host.geometry) (first_not_files host.geometry) work_outside

  mounted_worked : (p : PagesState) (e : Stock Event) → AreReady host.files.pages.journal p new.medium → HasRoom (record host.files { pages = p; events = e }) new.medium
      → AreMounted host.geometry host.blocks host.volume (record host.files { pages = p; events = e }) new.medium
  mounted_worked p e ready room =
      mounted-files host.geometry host.blocks host.volume host.files old.medium new.medium serves.layout.valid layout_worked.strong work_outside.count mounted
      (record host.files { pages = p; events = e }) blocks_stay volume_stays ready.sizes ready.journal ready.settled ready.serves (subst (λ g. AreTables g.fpages p.journal.tables) mounted.journal_geometry ready.right)
      (ready.held ∙ ap (λ g. g.fpages) mounted.journal_geometry ∙ sym mounted.journal_held)
      (subst (λ (slots : List (Option FileEntry)). EachMapping (IsOnFile slots) host.files.mappings.mappings) (sym ready.names) mounted.mapped) room

  -- the blocks can be read still
  readable_worked : KeepsMarks host.files.pages.journal.geo old.medium new.medium → bad_metadata host.geometry new.medium.is_bad ≡ [] → AreReadable host.geometry new.medium
  readable_worked marks none =
      let same = same_bad host.geometry old.medium new.medium (λ n below. marks n (subst (λ g. n < meta_lines g) (sym mounted.journal_geometry) below)) in
      each_reads-stays host.geometry old.medium new.medium (λ _. Unit {0}) serves.layout.valid blocks_stay (serves.readable (sym same ∙ none))

module _ {E R : Type 0} (says : E → Told R) (host : HostState) (p : PagesState) (e : Stock Event) (action : Action) (calls persists : ℕ) (h : Machine) (few : calls ≤ (spending h action).calls) (few_persists : persists ≤ (spending h action).persists)
    (old new : Device) (on : host.mode ≡ On) (serves : HostServes host old) (stands : Stands host old h) where
  geo_is : host.files.pages.journal.geo ≡ h.geometry
  geo_is = (serves.mounted on).journal_geometry ∙ stands.geometry

  -- blocks and volume, which such a call leaves
  blocks_after : WritesBackOthers (IsOfFiles host.files.pages.journal.geo) old.medium new.medium → BlocksAre host new h h.blocks
  blocks_after outside = blocks_still host old new h stands serves on (blocks_stay host old new on serves outside)

  volume_after : WritesBackOthers (IsOfFiles host.files.pages.journal.geo) old.medium new.medium → PagesAre host new h h.volume
  volume_after outside = pages_still host old new h stands serves on (volume_stays host old new on serves outside)

  -- and the metadata
  metadata_after : WritesBackOthers (IsOfFiles host.files.pages.journal.geo) old.medium new.medium → KeepsMarks host.files.pages.journal.geo old.medium new.medium → MetadataStands h.geometry new.medium h.bad_meta
  metadata_after outside marks =
      metadata-then h.geometry old.medium new.medium h.bad_meta
      (layout-others h.geometry old.medium new.medium stands.device.metadata.layout (IsOfFiles host.files.pages.journal.geo) (first_not_files host.files.pages.journal.geo) outside)
      (λ n below. marks n (subst (λ g. n < meta_lines g) (sym geo_is) below)) stands.device.metadata

  -- the state after a call that went well
  stands_worked : {T : Type 0} {may : List File → List File → Type 0} (r : Result T E) (files : List File) (events : List Event) → PagesCalled says host p e r may calls persists old new
      → OnOk r (FilesStand host.files.pages.journal.geo new.medium p.journal.tables files) → OnOk r (e.items ≡ events) → OnOk r (Stands (pages_after host p e On) new (record h { files = files; events = events }))
  stands_worked (Ok x) files events c holds told =
      let now : FilesStand p.journal.geo new.medium p.journal.tables files = subst (λ g. FilesStand g new.medium p.journal.tables files) (sym c.ready.sizes) holds in
      stands_telling (pages_after host p host.files.events On) new (record h { files = files }) e events told
      (stands_done host (pages_after host p host.files.events On) old new h action stands on calls persists few few_persists refl refl refl h.blocks h.volume files refl c.runs (metadata_after c.outside c.marks)
      (blocks_after c.outside) (volume_after c.outside) (
        λ good.
            subst (λ g. EachReadsFiles g new.medium (λ x. x ≡ files)) (c.ready.sizes ∙ geo_is)
            (served_files p.journal new.medium files (subst (λ g. AreTables g.fpages p.journal.tables) (sym c.ready.sizes) c.ready.right) c.ready.serves now),
        now,
      ))
  stands_worked (Err f) files events c holds told = tt

  -- and one that was stopped
  left_by : LeavesOthers action → WritesBackOthers (IsOfFiles host.files.pages.journal.geo) old.medium new.medium → KeepsMarks host.files.pages.journal.geo old.medium new.medium
      → EachReadsFiles host.files.pages.journal.geo new.medium (MayLeaveFiles host.files.mappings.mappings (Some action) h.files) → DeviceLeft h action new.medium
  left_by leaves outside marks each = record {
    metadata = metadata_after outside marks;
    blocks = λ good. each_reads-then h.geometry new.medium (λ bs. bs ≡ h.blocks) (MayLeaveBlocks (Some action) h.blocks) (leaves.blocks h.blocks) ((blocks_after outside).0 good);
    volume = λ good. each_pages-then h.geometry new.medium (λ pages. pages ≡ h.volume) (MayLeaveVolume h.geometry (Some action) h.volume) (leaves.volume h.geometry h.volume) ((volume_after outside).0 good);
    files = λ good. subst (λ g. EachReadsFiles g new.medium (MayLeaveFiles h.mappings (Some action) h.files)) geo_is
        (subst (λ (s : MappingsState). EachReadsFiles host.files.pages.journal.geo new.medium (MayLeaveFiles s.mappings (Some action) h.files)) (stands.mappings on) each);
  }

  left_worked : {T : Type 0} (r : Result T E) → LeavesOthers action → PagesCalled says host p e r (MayLeaveFiles host.files.mappings.mappings (Some action)) calls persists old new → OnWorked says r (DeviceLeft h action new.medium)
  left_worked (Ok x) leaves c = left_by leaves c.outside c.marks (c.images h.files (stands.files on))
  left_worked (Err f) leaves c = λ worked. left_by leaves c.outside c.marks (c.images worked h.files (stands.files on))

pub same_host : {T E R : Type 0} (says : E → Told R) (host : HostState) (p : PagesState) (e : Stock Event) (r : Result T E) (old new : Device) → OnRefused says r (((p ≡ host.files.pages) × (e ≡ host.files.events)) × (new ≡ old))
    → OnRefused says r ((pages_after host p e host.mode ≡ host) × (new ≡ old))
same_host says host p e r old new untouched = on_refused-then says r (λ same. (ap₂ (λ q f. record host { files = record host.files { pages = q; events = f } }) same.0.0 same.0.1, same.1)) untouched

mounted_ok : {T E R : Type 0} {may : List File → List File → Type 0} (says : E → Told R) (host : HostState) (p : PagesState) (e : Stock Event) (r : Result T E) (calls persists : ℕ) (old new : Device) → host.mode ≡ On → HostServes host old
    → PagesCalled says host p e r may calls persists old new → OnOk r (AreMounted host.geometry host.blocks host.volume (record host.files { pages = p; events = e }) new.medium)
mounted_ok says host p e (Ok x) calls persists old new on serves c = mounted_worked host old new on serves c.outside p e c.ready c.room
mounted_ok says host p e (Err f) calls persists old new on serves c = tt

-- Of a host behind a reference: `host` is what is inside `now`, and `after` what the answer leaves.
module _ {E R : Type 0} (says : E → Told R) (answer_to : R → Answer) (part : IsPart says answer_to) (now host after : HostState) (p : PagesState) (e : Stock Event) (r : Result (Unit {0}) E) (calls persists : ℕ) (old new : Device)
    (inside : host ≡ now) (state : after ≡ pages_after host p e (mode_after says r)) (on : now.mode ≡ On) (serves : HostServes now old) (action : Action)
    (few : (h : Machine) → Stands now old h → (calls ≤ (spending h action).calls) × (persists ≤ (spending h action).persists)) (leaves : LeavesOthers action)
    (call : PagesCalled says host p e r (MayLeaveFiles host.files.mappings.mappings (Some action)) calls persists old new) where
  on_inside : host.mode ≡ On
  on_inside = ap (λ k. k.mode) inside ∙ on

  serves_inside : HostServes host old
  serves_inside = subst (λ k. HostServes k old) (sym inside) serves

  pub work_serves : HostServes after new
  work_serves =
      subst (λ k. HostServes k new) (sym state)
      (serves_of_call says answer_to part host (pages_after host p e) old new on_inside (λ m. refl) (λ m. refl) calls persists r serves_inside
      (same_host says host p e r old new call.untouched) (layout_worked host old new on_inside serves_inside call.outside) (readable_worked host old new on_inside serves_inside call.outside call.marks)
      (mounted_ok says host p e r calls persists old new on_inside serves_inside call) call.runs)

  pub work_comes : (h : Machine) (good answer : Answer) (why : Option R) (files : List File) (events : List Event) → stop_in good ≡ None → Stands now old h
      → fate h action ≡ unless_refused h (option_map answer_to why) (Works good (record h { files = files; events = events })) → Answers says why r → OnOk r (FilesStand host.files.pages.journal.geo new.medium p.journal.tables files)
      → OnOk r (e.items ≡ events) → answer ≡ answer_after says answer_to good r → Comes h action (fate h action) answer after old new
  work_comes h good answer why files events quiet stands fate_is refused ok told answer_is =
      let stands_inside = subst (λ k. Stands k old h) (sym inside) stands in
      let spent = few h stands in
      subst (λ a. Comes h action (fate h action) a after old new) (sym answer_is)
      (subst (λ k. Comes h action (fate h action) (answer_after says answer_to good r) k old new) (sym state)
      (subst (λ fate. Comes h action fate (answer_after says answer_to good r) (pages_after host p e (mode_after says r)) old new) (sym fate_is)
      (comes_of_call says answer_to part host (pages_after host p e) old new on_inside (λ m. refl) (λ m. refl) calls persists action h stands_inside spent.0 spent.1
      r good why (record h { files = files; events = events }) quiet refused (same_host says host p e r old new call.untouched)
      (stands_worked says host p e action calls persists h spent.0 spent.1 old new on_inside serves_inside stands_inside r files events call ok told)
      (left_worked says host p e action calls persists h spent.0 spent.1 old new on_inside serves_inside stands_inside r leaves call) call.runs)))

  -- events that a call leaves are the state's
  pub told_still : e ≡ host.files.events → (h : Machine) → Stands now old h → OnOk r (e.items ≡ h.events)
  told_still same h stands = by_end r (ap (λ (x : Stock Event). x.items) same ∙ ap (λ (k : HostState). k.files.events.items) inside ∙ stands.events on)
    where
      by_end : {P : Type 0} (q : Result (Unit {0}) E) → P → OnOk q P
      by_end (Ok x) p = p
      by_end (Err f) p = tt

  -- A change of bytes is answered.
  pub work_answered : e ≡ host.files.events → (answer : Answer) (why : (h : Machine) → Stands now old h → Option R) (to : Machine → List File) → longest action ≡ 72
      → ((h : Machine) (stands : Stands now old h) → fate h action ≡ unless_refused h (option_map answer_to (why h stands)) (Works Done (record h { files = to h })))
      → ((h : Machine) (stands : Stands now old h) → Answers says (why h stands) r) → ((h : Machine) → Stands now old h → OnOk r (FilesStand host.files.pages.journal.geo new.medium p.journal.tables (to h)))
      → answer ≡ answer_after says answer_to Done r → Changes (reach action) old new → Answered action answer now after old new
  work_answered same answer why to long fate_is refused ok answer_is changes = record {
    step = λ h stands. work_comes h Done answer (why h stands) (to h) h.events refl stands (fate_is h stands) (refused h stands) (ok h stands) (told_still same h stands) answer_is;
    keeps = keeps_inside (is_refusal answer) action now host after (pages_after host p e (mode_after says r)) old new inside state
        (keeps_called says answer_to r answer (record { good = Done; accepts = refl; is = answer_is }) action host (pages_after host p e) old new on_inside (same_host says host p e r old new call.untouched) changes);
    printable = subst IsPrintable (sym answer_is) (printable_after says answer_to part Done tt r);
    room = let short = subst (λ a. most_of a ≤ 72) (sym answer_is) (short_after says answer_to part Done (omega arith) r) in subst (λ n. most_of answer ≤ n) (sym long) short;
    serves = work_serves;
  }
