-- What a host and its device stand for, after a call that changes files.
use Rattle.std.proofs.Common.{◌≡◌, ◌⊎◌, ◌/◌, ◌<◌, ◌≤◌, ℕ, true, false, IsTrue, Option, Some, None, option_map, Result, Ok, Err, OnOk, List, [], map, refl, sym, ap, subst, ◌∙◌, arith}
use Rattle.line_device.specs.Panel.{Runs}
use Rattle.line_device.specs.Device.{Device}
use Rattle.line_device.specs.Medium.{Medium}
use Rattle.line_words.specs.Told.{Told, Answers, OnRefused, OnWorked, is_done, outcome_by}
use Rattle.line_words.specs.Told.Told.{Starves}
use Rattle.line_words.specs.Words.{WritesBackOutside}
use Rattle.word_log.specs.Area.{IsOf}
use Rattle.word_log.specs.Changes.{commit_calls, commit_persists}
use Rattle.word_tables.specs.Bounds.{IsValid}
use Rattle.word_tables.specs.Layout.{file_pages, HasLine}
use Rattle.nvm_model.specs.Files.{entry_of_file}
use Rattle.nvm_model.specs.Mappings.{is_mapped}
use Rattle.nvm_model.specs.Storage.{File}
use Rattle.nvm_model.proofs.KeptLemmas.{LineKept}
use Rattle.block_device.specs.Area.{IsBlockLine}
use Rattle.block_device.specs.Images.{AreReadable}
use Rattle.block_device.proofs.FrameLemmas.{each_reads-stays}
use Rattle.block_device.proofs.ImageLemmas.{each_reads-then}
use Rattle.block_device.proofs.ReadLemmas.{Stays}
use Rattle.pm_volume.specs.Area.{IsOfVolume}
use Rattle.pm_volume.proofs.StandingLemmas.{each_pages-then}
use Rattle.file_journal.specs.Area.{IsOfFiles, file_area}
use Rattle.file_journal.specs.Device.{device_files}
use Rattle.file_journal.specs.Calls.{ChangesFiles}
use Rattle.file_journal.specs.Images.{EachReadsTables, IsEither}
use Rattle.file_journal.specs.Listing.{listed}
use Rattle.file_journal.specs.Object.{JournalServes, JournalState, KeepsUnits}
use Rattle.file_journal.specs.Refusals.{JournalRefusal, journal_says}
use Rattle.file_journal.specs.Refusals.JournalRefusal.{Missing, Exists, Limit, Slots, Full, Meta}
use Rattle.file_journal.specs.Standing.{EachReadsFiles, FilesStand}
use Rattle.file_journal.specs.Tables.{AreTables, Tables}
use Rattle.file_journal.specs.declared.fault.JournalFault.{JournalFault}
use Rattle.file_journal.specs.declared.fault.JournalFault.TheVariants as fault
use Rattle.file_journal.proofs.DeviceFileLemmas.{device_files-stand}
use Rattle.file_journal.proofs.AgreeLemmas.{file_count-stands, has_file-stands, listed-stands}
use Rattle.file_journal.proofs.FileChangeLemmas.{Becomes, changed_images}
use Rattle.file_journal.proofs.FileLineLemmas.{area_of_files, page_lines-kept}
use Rattle.file_journal.proofs.ServesLemmas.{served_files}
use Rattle.file_journal.proofs.StandingLemmas.{files-kept}
use Rattle.reply_text.specs.Answer.{Answer, IsPrintable}
use Rattle.reply_text.specs.Answer.Answer.{Done}
use Rattle.reply_text.specs.Room.{most_of}
use Rattle.script_text.specs.Action.{Action}
use Rattle.mappings.specs.Object.{MappingsState}
use Rattle.machine_model.specs.declared.mode.Mode.{Mode}
use Rattle.machine_model.specs.declared.mode.Mode.TheVariants.{On}
use Rattle.machine_model.specs.Machine.{Machine}
use Rattle.machine_model.specs.Machine.Fate.{Works}
use Rattle.machine_model.specs.Commands.{LeavesBlocks, LeavesFiles, LeavesVolume, MayLeaveBlocks, MayLeaveVolume, fate, meaning, spending, unless_refused}
use Rattle.machine_host.specs.Faults.{answer_after, mode_after}
use Rattle.machine_model.specs.Interrupted.{stop_in}
use Rattle.machine_host.specs.Lines.{HasLayout, MetadataStands}
use Rattle.machine_model.specs.Lines.{bad_metadata}
use Rattle.machine_model.specs.Meaning.{Reasons, metadata_refusal}
use Rattle.machine_model.specs.OnFiles.{changing_files, journal_answer}
use Rattle.machine_host.specs.Responding.{Answered}
use Rattle.machine_host.specs.Stands.{AreMounted, Comes, EachMapping, HostServes, HostState, IsOnFile, Stands, HasRoom}
use Rattle.machine_host.proofs.CallLemmas.{IsPart, comes_of_call, on_refused-then, printable_after, serves_of_call}
use Rattle.machine_host.proofs.ElsewhereLemmas.{mounted-files}
use Rattle.machine_host.proofs.FilesAsideLemmas.{files_not_blocks, files_not_volume, first_not_files}
use Rattle.machine_host.proofs.FilesFateLemmas.{SeesFiles}
use Rattle.machine_host.proofs.LayoutLemmas.{kept-outside, layout-outside, metadata-then, same_bad, stays_of_kept}
use Rattle.machine_model.proofs.RefusalLemmas.{meta_refused}
use Rattle.machine_host.proofs.StepLemmas.{DeviceLeft, blocks_still, pages_still, stands_done}
use Rattle.machine_host.proofs.MappedLemmas.{Spares, still_on}
use Rattle.machine_host.proofs.VolumeCallLemmas.{short_after}
use Rattle.machine_host.proofs.RoomLemmas.{Thins, room_then}
use Rattle.machine_host.specs.Keeping.{Changes, is_refusal, reach}
use Rattle.machine_host.proofs.KeepLemmas.{keeps_called, keeps_inside}

-- What a call that changes files says, whichever it is: it leaves these tables, or those before it.
abbrev pub FilesCalled : HostState → JournalState → Result (Unit {0}) JournalFault → Option JournalRefusal → Tables → ℕ → Device → Device → Type 0
FilesCalled host s r why to words old new = ChangesFiles (λ (d : Device). d) host.files.pages.journal s old new r why to 0 words

-- its answers
never_starves : (f : JournalFault) → journal_says f ≡ Starves → ⊥
never_starves fault.Missing e = cc e
never_starves fault.Exists e = cc e
never_starves fault.Limit e = cc e
never_starves fault.Slots e = cc e
never_starves fault.Full e = cc e
never_starves (fault.Meta line) e = cc e
never_starves fault.Device e = cc e
never_starves fault.PowerLost e = cc e

no_stop : (w : JournalRefusal) → stop_in (journal_answer w) ≡ None
no_stop Missing = refl
no_stop Exists = refl
no_stop Limit = refl
no_stop Slots = refl
no_stop Full = refl
no_stop (Meta line) = refl

short_refusal : (w : JournalRefusal) → most_of (journal_answer w) ≤ 72
short_refusal Missing = omega arith
short_refusal Exists = omega arith
short_refusal Limit = omega arith
short_refusal Slots = omega arith
short_refusal Full = omega arith
short_refusal (Meta line) = omega arith

printable_refusal : (w : JournalRefusal) → IsPrintable (journal_answer w)
printable_refusal Missing = tt
printable_refusal Exists = tt
printable_refusal Limit = tt
printable_refusal Slots = tt
printable_refusal Full = tt
printable_refusal (Meta line) = tt

files_part : IsPart journal_says journal_answer
files_part = record { printable = printable_refusal; quiet = no_stop; short = short_refusal; fed = never_starves }

-- what was not refused has no reason to be
pub worked_none : {T E R : Type 0} (says : E → Told R) (why : Option R) (r : Result T E) → Answers says why r → OnWorked says r (why ≡ None)
worked_none says None (Ok x) answers = refl
worked_none says None (Err f) answers = λ stop. refl
worked_none says (Some w) (Ok x) answers = absurd answers
worked_none says (Some w) (Err f) answers = λ stop. cc (stop, answers)

-- files that journal and device stand for
abbrev pub files_of_device : JournalState → Medium → List File
files_of_device s m = device_files s.geo m s.tables

-- the host in a mode after the call
abbrev pub journal_after : HostState → JournalState → Mode → HostState
journal_after host s mode = record host { mode = mode; files = record host.files { pages = record host.files.pages { journal = s } } }

module _ (host : HostState) (old new : Device) (on : host.mode ≡ On) (serves : HostServes host old) (outside : WritesBackOutside (IsOf (file_area host.files.pages.journal.geo)) old.medium new.medium) where
  mounted : AreMounted host.geometry host.blocks host.volume host.files old.medium
  mounted = serves.mounted on

  right_was : AreTables host.files.pages.journal.geo.fpages host.files.pages.journal.tables
  right_was = subst (λ g. AreTables g.fpages host.files.pages.journal.tables) (sym mounted.journal_geometry) mounted.journal_right

  -- lines of other parts are only written back, and so are those of pages
  kept_changed : (n : ℕ) → (IsOfFiles host.geometry n → ⊥) → LineKept old.medium new.medium n
  kept_changed n apart =
      kept-outside (IsOf (file_area host.files.pages.journal.geo)) old.medium new.medium n
      (λ p at of. apart (subst (λ g. IsOfFiles g n) mounted.journal_geometry (subst (IsOfFiles host.files.pages.journal.geo) at (area_of_files host.files.pages.journal.geo p of)))) outside

  blocks_stay : (n : ℕ) → IsBlockLine host.geometry n → Stays old.medium new.medium n
  blocks_stay n of = stays_of_kept old.medium new.medium n (kept_changed n (λ of_files. files_not_blocks host.geometry n of_files of))

  volume_stays : (n : ℕ) → IsOfVolume host.geometry n → LineKept old.medium new.medium n
  volume_stays n of = kept_changed n (λ of_files. files_not_volume host.geometry n serves.layout.valid of_files of)

  pages_stay : (n : ℕ) → HasLine host.files.pages.journal.geo file_pages n → LineKept old.medium new.medium n
  pages_stay = page_lines-kept host.files.pages.journal.geo old.medium new.medium (subst IsValid (sym mounted.journal_geometry) serves.layout.valid) outside

  first_words : (p : ℕ) → p < 8 → IsOf (file_area host.files.pages.journal.geo) p → ⊥
  first_words p below of = let first : p / 8 ≡ 0 = omega (arith, below) in first_not_files host.files.pages.journal.geo (subst (IsOfFiles host.files.pages.journal.geo) first (area_of_files host.files.pages.journal.geo p of))

  layout_changed : HasLayout host.geometry new.medium
  layout_changed = layout-outside host.geometry old.medium new.medium serves.layout (IsOf (file_area host.files.pages.journal.geo)) first_words outside

  mounted_changed : (s : JournalState) → s.geo ≡ host.files.pages.journal.geo → IsTrue s.settled → JournalServes s new.medium → AreTables host.files.pages.journal.geo.fpages s.tables → KeepsUnits 0 host.files.pages.journal s
      → EachMapping (IsOnFile s.tables.files) host.files.mappings.mappings → HasRoom (record host.files { pages = record host.files.pages { journal = s } }) new.medium → AreMounted host.geometry host.blocks host.volume (record host.files { pages = record host.files.pages { journal = s } }) new.medium
  mounted_changed s same settled served right units mapped room =
      mounted-files host.geometry host.blocks host.volume host.files old.medium new.medium serves.layout.valid layout_changed.strong outside.count mounted
      (record host.files { pages = record host.files.pages { journal = s } }) blocks_stay volume_stays same settled mounted.pages_settled served (subst (λ g. AreTables g.fpages s.tables) mounted.journal_geometry right)
      (omega (arith, units.known)) mapped room

  -- the blocks can be read still
  readable_changed : bad_metadata host.geometry new.medium.is_bad ≡ [] → AreReadable host.geometry new.medium
  readable_changed none =
      each_reads-stays host.geometry old.medium new.medium (λ _. Unit {0}) serves.layout.valid blocks_stay
      (serves.readable (sym (same_bad host.geometry old.medium new.medium (λ n below. outside.bad n)) ∙ none))

module _ (host : HostState) (s : JournalState) (r : Result (Unit {0}) JournalFault) (why : Option JournalRefusal) (to : Tables) (words : ℕ) (f : List File → List File) (old new : Device)
    (on : host.mode ≡ On) (serves : HostServes host old) (call : FilesCalled host s r why to words old new)
    (becomes : AreTables host.files.pages.journal.geo.fpages host.files.pages.journal.tables → why ≡ None → Becomes host.files.pages.journal.geo host.files.pages.journal.tables to f)
    (spares : AreTables host.files.pages.journal.geo.fpages host.files.pages.journal.tables → why ≡ None → Spares f (files_of_device host.files.pages.journal old.medium) host.files.mappings.mappings)
    (thins : Thins f) where
  became : why ≡ None → Becomes host.files.pages.journal.geo host.files.pages.journal.tables to f
  became = becomes (right_was host old new on serves call.outside)

  still_mapped : why ≡ None → EachMapping (IsOnFile to.files) host.files.mappings.mappings
  still_mapped none =
      let j = host.files.pages.journal in
      let right = right_was host old new on serves call.outside in
      still_on j old.medium to f right (became none).right ((became none).keeps old.medium (files_of_device j old.medium) (device_files-stand j.geo old.medium j.tables)) host.files.mappings.mappings
      (serves.mounted on).mapped (spares right none)

  -- what the journal stands for after the call
  stands_for : why ≡ None → s.tables ≡ to → (files : List File) → FilesStand host.files.pages.journal.geo old.medium host.files.pages.journal.tables files → FilesStand s.geo new.medium s.tables (f files)
  stands_for none is files stand =
      let j = host.files.pages.journal in
      let kept = files-kept j.geo old.medium new.medium j.tables files (right_was host old new on serves call.outside) (pages_stay host old new on serves call.outside) stand in
      subst (λ g. FilesStand g new.medium s.tables (f files)) (sym call.object.0) (subst (λ t. FilesStand j.geo new.medium t (f files)) (sym is) ((became none).keeps new.medium files kept))

  mounted_ok : OnOk r (AreMounted host.geometry host.blocks host.volume (record host.files { pages = record host.files.pages { journal = s } }) new.medium)
  mounted_ok = by_result r call.refused call.object.1 call.ok call.units
    where
      by_result : (q : Result (Unit {0}) JournalFault) → Answers journal_says why q → s.settled ≡ is_done (outcome_by journal_says q) → OnOk q (s.tables ≡ to) → OnOk q (KeepsUnits 0 host.files.pages.journal s)
          → OnOk q (AreMounted host.geometry host.blocks host.volume (record host.files { pages = record host.files.pages { journal = s } }) new.medium)
      by_result (Ok x) answers settled is units =
          mounted_changed host old new on serves call.outside s call.object.0 settled (call.serves settled)
          (subst (AreTables host.files.pages.journal.geo.fpages) (sym is) (became (worked_none journal_says why (Ok x) answers)).right) units
          (subst (λ (now : Tables). EachMapping (IsOnFile now.files) host.files.mappings.mappings) (sym is) (still_mapped (worked_none journal_says why (Ok x) answers)))
          (room_then host.files (record host.files { pages = record host.files.pages { journal = s } }) old.medium new.medium f thins
          (λ files stand. stands_for (worked_none journal_says why (Ok x) answers) is files stand) (omega arith) (serves.mounted on).room)
      by_result (Err e) answers settled is units = tt

  same_host : OnRefused journal_says r ((journal_after host s host.mode ≡ host) × (new ≡ old))
  same_host = on_refused-then journal_says r (λ same. (ap (λ j. record host { files = record host.files { pages = record host.files.pages { journal = j } } }) same.0, same.1)) call.untouched

  module _ (h : Machine) (stands : Stands host old h) where
    geo_is : host.files.pages.journal.geo ≡ h.geometry
    geo_is = (serves.mounted on).journal_geometry ∙ stands.geometry

    metadata_changed : MetadataStands h.geometry new.medium h.bad_meta
    metadata_changed =
        metadata-then h.geometry old.medium new.medium h.bad_meta
        (subst (λ g. HasLayout g new.medium) stands.geometry (layout_changed host old new on serves call.outside)) (λ n below. call.outside.bad n) stands.device.metadata

    -- the state after a call that went well
    stands_ok : (action : Action) → commit_calls words ≤ (spending h action).calls → commit_persists words ≤ (spending h action).persists
        → OnOk r (Stands (journal_after host s On) new (record h { files = f h.files }))
    stands_ok action few few_persists = by_result r call.refused call.object.1 call.ok call.runs
      where
        by_result : (q : Result (Unit {0}) JournalFault) → Answers journal_says why q → s.settled ≡ is_done (outcome_by journal_says q) → OnOk q (s.tables ≡ to)
            → Runs (commit_calls words) (commit_persists words) (outcome_by journal_says q) old.panel new.panel → OnOk q (Stands (journal_after host s On) new (record h { files = f h.files }))
        by_result (Ok x) answers settled is runs =
            let became_ = became (worked_none journal_says why (Ok x) answers) in
            let right : AreTables s.geo.fpages s.tables = subst (λ g. AreTables g.fpages s.tables) (sym call.object.0) (subst (AreTables host.files.pages.journal.geo.fpages) (sym is) became_.right) in
            let now = stands_for (worked_none journal_says why (Ok x) answers) is h.files (stands.files on) in
            stands_done host (journal_after host s On) old new h action stands on (commit_calls words) (commit_persists words) few few_persists refl refl refl h.blocks h.volume (f h.files) refl runs metadata_changed
            (blocks_still host old new h stands serves on (blocks_stay host old new on serves call.outside)) (pages_still host old new h stands serves on (volume_stays host old new on serves call.outside))
            (λ good. subst (λ g. EachReadsFiles g new.medium (λ x. x ≡ f h.files)) (call.object.0 ∙ geo_is) (served_files s new.medium (f h.files) right (call.serves settled) now), now)
        by_result (Err e) answers settled is runs = tt

    -- what an interruption left
    left_changed : (action : Action) (reasons : Machine → Reasons) → meaning action ≡ changing_files reasons f words → OnWorked journal_says r (DeviceLeft h action new.medium)
    left_changed action reasons row = by_result r call.refused call.images
      where
        kept_blocks : MayLeaveBlocks (Some action) h.blocks h.blocks
        kept_blocks = subst (λ m. LeavesBlocks m.blocks_left h.blocks (m.blocks h.blocks) h.blocks) (sym row) refl

        kept_volume : MayLeaveVolume h.geometry (Some action) h.volume h.volume
        kept_volume = subst (λ m. LeavesVolume (m.volume_left h.geometry) h.volume (m.volume h.geometry h.volume) h.volume) (sym row) refl

        left : EachReadsTables host.files.pages.journal.geo new.medium (IsEither host.files.pages.journal.tables to) → why ≡ None → DeviceLeft h action new.medium
        left images none = record {
          metadata = metadata_changed;
          blocks = λ good.
              each_reads-then h.geometry new.medium (λ bs. bs ≡ h.blocks) (MayLeaveBlocks (Some action) h.blocks) (λ bs same. subst (MayLeaveBlocks (Some action) h.blocks) (sym same) kept_blocks)
              ((blocks_still host old new h stands serves on (blocks_stay host old new on serves call.outside)).0 good);
          volume = λ good.
              each_pages-then h.geometry new.medium (λ pages. pages ≡ h.volume) (MayLeaveVolume h.geometry (Some action) h.volume)
              (λ pages same. subst (MayLeaveVolume h.geometry (Some action) h.volume) (sym same) kept_volume)
              ((pages_still host old new h stands serves on (volume_stays host old new on serves call.outside)).0 good);
          files = λ good.
              subst (λ m. EachReadsFiles h.geometry new.medium (λ x. LeavesFiles (m.files_left h.mappings) h.files (m.files h.mappings h.files) x)) (sym row)
              (subst (λ g. EachReadsFiles g new.medium (λ x. (x ≡ h.files) ⊎ (x ≡ f h.files))) geo_is
              (changed_images host.files.pages.journal.geo old.medium new.medium host.files.pages.journal.tables to f h.files (right_was host old new on serves call.outside) (became none) (stands.files on)
              (pages_stay host old new on serves call.outside) images));
        }

        by_result : (q : Result (Unit {0}) JournalFault) → Answers journal_says why q → OnWorked journal_says q (EachReadsTables host.files.pages.journal.geo new.medium (IsEither host.files.pages.journal.tables to))
            → OnWorked journal_says q (DeviceLeft h action new.medium)
        by_result (Ok x) answers images = left images (worked_none journal_says why (Ok x) answers)
        by_result (Err e) answers images = λ stop. left (images stop) (worked_none {T = Unit {0}} journal_says why (Err e) answers stop)

-- a call that changes files, whichever, by its clauses
pub files_called : {D : Type 0} (state : D → Device) (host : HostState) (s : JournalState) (before after : D) (r : Result (Unit {0}) JournalFault) (why : Option JournalRefusal) (to : Tables) (words : ℕ)
    → ChangesFiles state host.files.pages.journal s before after r why to 0 words → FilesCalled host s r why to words (state before) (state after)
files_called state host s before after r why to words said = record {
  refused = said.refused;
  untouched = on_refused-then journal_says r (λ same. (same.0, ap state same.1)) said.untouched;
  ok = said.ok;
  images = said.images;
  outside = said.outside;
  serves = said.serves;
  object = said.object;
  units = said.units;
  runs = said.runs;
}

-- A change of files, by its row, is answered. Of a host behind a reference `host` is what is inside `now`, and `after` what the answer leaves.
module _ (now host after : HostState) (s : JournalState) (r : Result (Unit {0}) JournalFault) (why : Option JournalRefusal) (to : Tables) (words : ℕ) (f : List File → List File) (old new : Device)
    (inside : host ≡ now) (state : after ≡ journal_after host s (mode_after journal_says r)) (on : now.mode ≡ On) (serves : HostServes now old)
    (call : FilesCalled host s r why to words old new) (becomes : AreTables host.files.pages.journal.geo.fpages host.files.pages.journal.tables → why ≡ None → Becomes host.files.pages.journal.geo host.files.pages.journal.tables to f)
    (spares : AreTables host.files.pages.journal.geo.fpages host.files.pages.journal.tables → why ≡ None → Spares f (files_of_device host.files.pages.journal old.medium) host.files.mappings.mappings)
    (thins : Thins f) (action : Action) (reasons : Machine → Reasons) (row : meaning action ≡ changing_files reasons f words) where
  on_inside : host.mode ≡ On
  on_inside = ap (λ k. k.mode) inside ∙ on

  serves_inside : HostServes host old
  serves_inside = subst (λ k. HostServes k old) (sym inside) serves

  pub change_serves : HostServes after new
  change_serves =
      subst (λ k. HostServes k new) (sym state)
      (serves_of_call journal_says journal_answer files_part host (journal_after host s) old new on_inside (λ m. refl) (λ m. refl) (commit_calls words) (commit_persists words) r serves_inside
      (same_host host s r why to words f old new on_inside serves_inside call becomes spares thins) (layout_changed host old new on_inside serves_inside call.outside)
      (readable_changed host old new on_inside serves_inside call.outside) (mounted_ok host s r why to words f old new on_inside serves_inside call becomes spares thins) call.runs)

  change_comes : (h : Machine) (answer : Answer) → Stands now old h → fate h action ≡ unless_refused h (option_map journal_answer why) (Works Done (record h { files = f h.files }))
      → answer ≡ answer_after journal_says journal_answer Done r → Comes h action (fate h action) answer after old new
  change_comes h answer stands fate_is answer_is =
      let stands_inside = subst (λ k. Stands k old h) (sym inside) stands in
      let few : commit_calls words ≤ (spending h action).calls = subst (λ m. commit_calls words ≤ (m.spends h).calls) (sym row) (omega arith) in
      let few_persists : commit_persists words ≤ (spending h action).persists = subst (λ m. commit_persists words ≤ (m.spends h).persists) (sym row) (omega arith) in
      subst (λ a. Comes h action (fate h action) a after old new) (sym answer_is)
      (subst (λ k. Comes h action (fate h action) (answer_after journal_says journal_answer Done r) k old new) (sym state)
      (subst (λ fate. Comes h action fate (answer_after journal_says journal_answer Done r) (journal_after host s (mode_after journal_says r)) old new) (sym fate_is)
      (comes_of_call journal_says journal_answer files_part host (journal_after host s) old new on_inside (λ m. refl) (λ m. refl) (commit_calls words) (commit_persists words) action h stands_inside few few_persists
      r Done why (record h { files = f h.files }) refl call.refused (same_host host s r why to words f old new on_inside serves_inside call becomes spares thins)
      (stands_ok host s r why to words f old new on_inside serves_inside call becomes spares thins h stands_inside action few few_persists)
      (left_changed host s r why to words f old new on_inside serves_inside call becomes spares thins h stands_inside action reasons row) call.runs)))

  pub change_answered : (answer : Answer) → ((h : Machine) → Stands now old h → fate h action ≡ unless_refused h (option_map journal_answer why) (Works Done (record h { files = f h.files })))
      → answer ≡ answer_after journal_says journal_answer Done r → Changes (reach action) old new → Answered action answer now after old new
  change_answered answer fate_is answer_is changes = record {
    step = λ h stands. change_comes h answer stands (fate_is h stands) answer_is;
    keeps = keeps_inside (is_refusal answer) action now host after (journal_after host s (mode_after journal_says r)) old new inside state
        (keeps_called journal_says journal_answer r answer (record { good = Done; accepts = refl; is = answer_is }) action host (journal_after host s) old new on_inside
        (same_host host s r why to words f old new on_inside serves_inside call becomes spares thins) changes);
    printable = subst IsPrintable (sym answer_is) (printable_after journal_says journal_answer files_part Done tt r);
    room = let short = subst (λ a. most_of a ≤ 72) (sym answer_is) (short_after journal_says journal_answer files_part Done (omega arith) r) in subst (λ m. most_of answer ≤ m.room) (sym row) short;
    serves = change_serves;
  }

-- What the journal tells of files is told of the machine's, of a state that the host stands for.
module _ (now host : HostState) (old : Device) (h : Machine) (inside : host ≡ now) (on : now.mode ≡ On) (serves : HostServes now old) (stands : Stands now old h) where
  pub journal_sizes : host.files.pages.journal.geo ≡ h.geometry
  journal_sizes = ap (λ k. k.files.pages.journal.geo) inside ∙ (serves.mounted on).journal_geometry ∙ stands.geometry

  pub files_seen : FilesStand host.files.pages.journal.geo old.medium host.files.pages.journal.tables h.files
  files_seen = subst (λ k. FilesStand k.files.pages.journal.geo old.medium k.files.pages.journal.tables h.files) (sym inside) (stands.files on)

  pub right_seen : AreTables now.geometry.fpages host.files.pages.journal.tables
  right_seen = subst (λ k. AreTables now.geometry.fpages k.files.pages.journal.tables) (sym inside) (serves.mounted on).journal_right

  pub sees_files : SeesFiles h host.files.pages.journal old.medium
  sees_files = record {
    on = sym stands.mode ∙ on;
    meta = ap (metadata_refusal true) (sym stands.device.metadata.bad ∙ ap (λ g. bad_metadata g old.medium.is_bad) (sym journal_sizes))
        ∙ meta_refused Meta journal_answer (λ n. refl) host.files.pages.journal.geo old.medium.is_bad;
    names = λ name. sym (has_file-stands host.files.pages.journal.geo old.medium host.files.pages.journal.tables h.files files_seen now.geometry.fpages name right_seen);
    count = sym (file_count-stands host.files.pages.journal.geo old.medium host.files.pages.journal.tables h.files files_seen);
  }

  -- the same list of them
  pub listed_seen : listed host.files.pages.journal.tables ≡ map entry_of_file h.files
  listed_seen = listed-stands host.files.pages.journal.geo old.medium host.files.pages.journal.tables h.files files_seen

-- a file that has no mapping of the host has none of the state
pub free_seen : (name : List ℕ) (host : HostState) (old : Device) (h : Machine) → host.mode ≡ On → Stands host old h → is_mapped name host.files.mappings.mappings ≡ false → is_mapped name h.mappings ≡ false
free_seen name host old h on stands free = ap (λ (s : MappingsState). is_mapped name s.mappings) (sym (stands.mappings on)) ∙ free
