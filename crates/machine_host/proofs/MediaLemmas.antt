-- What host and device stand for once a line was marked: bad or weak from now on, with no counted call.
use Rattle.std.proofs.Common.{◌≡◌, ℕ, ◌<◌, ◌≤◌, false, Option, Some, None, option_map, Result, Ok, Err, OnOk, List, [], refl, sym, ap, subst, ◌∙◌, arith}
use Rattle.std.specs.Prelude.{IfErr}
use Rattle.line_device.specs.History.{WordWritesBack}
use Rattle.line_device.specs.Medium.{Medium}
use Rattle.line_device.specs.Panel.{Runs}
use Rattle.line_device.specs.Panel.Outcome.{went}
use Rattle.line_device.specs.Device.{Device}
use Rattle.line_device.proofs.PanelLemmas.{runs-refl}
use Rattle.line_words.specs.Told.{Told, Answers, OnRefused, refusal_of}
use Rattle.line_words.specs.Told.Told.{Refuses, Stops, Starves}
use Rattle.word_tables.specs.declared.geometry.Geometry.{Geometry}
use Rattle.word_tables.specs.Layout.{meta_lines}
use Rattle.nvm_model.specs.Page.{Page}
use Rattle.nvm_model.specs.Storage.{Block, File, Event}
use Rattle.block_device.specs.Area.{IsBlockLine}
use Rattle.block_device.specs.Images.{EachReads}
use Rattle.block_device.specs.Object.{BlocksServe, HasGoodMetadata, blocks_of}
use Rattle.block_device.proofs.ImageLemmas.{served_reads}
use Rattle.block_device.proofs.ReadLemmas.{Stays}
use Rattle.pm_volume.specs.Area.{IsOfVolume}
use Rattle.pm_volume.specs.Images.{EachReadsPages}
use Rattle.pm_volume.specs.Object.{VolumeHolds, VolumeServes}
use Rattle.file_journal.specs.Area.{IsOfFiles}
use Rattle.file_journal.specs.Standing.{EachReadsFiles, FilesStand}
use Rattle.file_journal.specs.Tables.{AreTables}
use Rattle.file_journal.proofs.ServesLemmas.{served_files}
use Rattle.file_pages.specs.Object.{PagesServe}
use Rattle.nvm_model.proofs.KeptLemmas.{LineKept}
use Rattle.pm_volume.proofs.StandingLemmas.{served_pages}
use Rattle.recovery.proofs.SuperblockLemmas.{some_meta}
use Rattle.scrub.specs.Others.{WritesBackBut}
use Rattle.reply_text.specs.Answer.{Answer}
use Rattle.reply_text.specs.Answer.Answer.{Done}
use Rattle.script_text.specs.Action.{Action}
use Rattle.machine_model.specs.declared.mode.Mode.TheVariants as modes
use Rattle.machine_model.specs.Machine.{Machine}
use Rattle.machine_model.specs.Machine.Fate.{Gives}
use Rattle.machine_model.specs.Commands.{unless_refused}
use Rattle.machine_host.specs.Faults.{answer_after, told_answer}
use Rattle.machine_model.specs.Interrupted.{stop_in}
use Rattle.machine_host.specs.Lines.{HasLayout, MetadataStands}
use Rattle.machine_model.specs.Run.{answered}
use Rattle.machine_model.specs.Telling.{Tells}
use Rattle.machine_host.specs.Stands.{HostState, HostServes, AreMounted, Stands, Comes, HasRoom}
use Rattle.machine_host.proofs.BadLineLemmas.{good_lines}
use Rattle.machine_host.proofs.MountedLemmas.{readable_served}
use Rattle.machine_host.proofs.ElsewhereLemmas.{mounted-blocks, mounted-files, mounted-volume, volume_apart}
use Rattle.machine_host.proofs.FilesAsideLemmas.{files_not_blocks, files_not_volume}
use Rattle.machine_host.proofs.LayoutLemmas.{layout-kept, metadata-then, stays_of_kept}
use Rattle.machine_host.proofs.StepLemmas.{blocks_still, files_still, pages_still, stands_done}
use Rattle.machine_host.proofs.TellingLemmas.{tells_nothing}
use Rattle.nvm_base.specs.Stock.{Stock}
use Rattle.machine_host.specs.declared.held.HeldFiles.{HeldFiles}
use Rattle.machine_host.proofs.RoomLemmas.{telling}

-- the call was refused, and nothing stopped it
abbrev pub IsRefusal : {R : Type 0} → Told R → Type 0
IsRefusal (Refuses why) = Unit {0}
IsRefusal (Stops by) = ⊥
IsRefusal Starves = ⊥

pub answers_told : {E R : Type 0} (says : E → Told R) (f : E) (why : Option R) → Answers {T = Unit {0}} says why (Err f) → refusal_of (says f) ≡ why
answers_told says f None refused = refused
answers_told says f (Some w) refused = refused

-- a line apart from those that were marked is only written back
pub kept-but : (lines : ℕ → Type 0) (old new : Medium) (line : ℕ) → (lines line → ⊥) → WritesBackBut lines old new → LineKept old new line
kept-but lines old new line apart x = record {
  bad = x.bad line apart;
  weak = x.weak line apart;
  words = λ p at. subst (λ n. WordWritesBack (old.is_weak n) (old.history p) (new.history p)) at (x.word_write_back p (λ of. apart (subst lines at of)));
}

-- A mark is made, or refused for its line.
pub comes_of_marking : {E R : Type 0} (says : E → Told R) (answer : R → Answer) → ((w : R) → stop_in (answer w) ≡ None) → (after : HostState) (old new : Device) (h to : Machine) (action : Action) (r : Result (Unit {0}) E) (why : Option R)
    → new.panel ≡ old.panel → Answers says why r → IfErr r (λ f. IsRefusal (says f)) → OnRefused says r (new ≡ old) → OnRefused says r (Stands after old h) → OnOk r (Stands after new to)
    → Comes h action (unless_refused h (option_map answer why) (Gives Done to)) (answer_after says answer Done r) after old new
comes_of_marking says answer quiet after old new h to action (Ok x) None panel refused told untouched kept ok = record {
  said = answered Done;
  next = to;
  answers = refl;
  takes = (refl, refl);
  tells = subst (λ p. Tells (answered Done) old.panel p) (sym panel) (tells_nothing Done refl old.panel);
  stands = ok;
}
comes_of_marking says answer quiet after old new h to action (Ok x) (Some w) panel refused told untouched kept ok = absurd refused
comes_of_marking {R = R} says answer quiet after old new h to action (Err f) why panel refused told untouched kept ok =
    by_told (says f) told why (answers_told says f why refused) (λ none. untouched (λ e. none e)) (λ none. kept (λ e. none e))
  where
    by_told : (t : Told R) → IsRefusal t → (why : Option R) → refusal_of t ≡ why → ((refusal_of t ≡ None → ⊥) → new ≡ old) → ((refusal_of t ≡ None → ⊥) → Stands after old h)
        → Comes h action (unless_refused h (option_map answer why) (Gives Done to)) (told_answer answer t) after old new
    by_told (Refuses w) is why reason same stands =
        subst (λ d. Comes h action (unless_refused h (option_map answer why) (Gives Done to)) (answer w) after old d) (sym (same (λ e. cc e)))
        (subst (λ o. Comes h action (unless_refused h (option_map answer o) (Gives Done to)) (answer w) after old old) reason (record {
          said = answered (answer w);
          next = h;
          answers = refl;
          takes = (refl, refl);
          tells = tells_nothing (answer w) (quiet w) old.panel;
          stands = stands (λ e. cc e);
        }))
    by_told (Stops by) is why reason same stands = absurd is
    by_told Starves is why reason same stands = absurd is

-- Lines behind the metadata were marked, while the host was on.
module _ (host : HostState) (old new : Device) (serves : HostServes host old) (on : host.mode ≡ modes.On) (panel : new.panel ≡ old.panel)
    (lines : ℕ → Type 0) (behind : (n : ℕ) → lines n → meta_lines host.geometry ≤ n) (x : WritesBackBut lines old.medium new.medium) where
  abbrev geo : Geometry
  geo = host.geometry

  mounted : AreMounted geo host.blocks host.volume host.files old.medium
  mounted = serves.mounted on

  metadata_line : (n : ℕ) → n < meta_lines geo → LineKept old.medium new.medium n
  metadata_line n below = kept-but lines old.medium new.medium n (λ of. let far = behind n of in omega (arith, far, below)) x

  layout_marked : HasLayout geo new.medium
  layout_marked = layout-kept geo old.medium new.medium serves.layout x.count metadata_line (some_meta geo)

  strong_marked : (n : ℕ) → n < meta_lines geo → new.medium.is_weak n ≡ false
  strong_marked n below = (metadata_line n below).weak ∙ serves.layout.strong n below

  goes_on : (f : HeldFiles) → AreMounted geo host.blocks host.volume f new.medium → HostServes (record host { files = f }) new
  goes_on f now = record {
    layout = layout_marked;
    readable = λ none. readable_served geo host.blocks new.medium now.geometry now.serves (good_lines geo new.medium none);
    power = ap (λ p. p.power) panel ∙ serves.power;
    mounted = λ _. now;
    stopped = λ stop. cc (on, stop);
  }

  metadata_marked : (h : Machine) → Stands host old h → MetadataStands h.geometry new.medium h.bad_meta
  metadata_marked h stands =
      let kept = λ (n : ℕ) (below : n < meta_lines h.geometry). metadata_line n (subst (λ g. n < meta_lines g) (sym stands.geometry) below) in
      metadata-then h.geometry old.medium new.medium h.bad_meta (layout-kept h.geometry old.medium new.medium stands.device.metadata.layout x.count kept (some_meta h.geometry)) (λ n below. (kept n below).bad) stands.device.metadata

  nothing_run : Runs 0 0 went old.panel new.panel
  nothing_run = subst (λ p. Runs 0 0 went old.panel p) (sym panel) (runs-refl old.panel)

  -- lines of blocks
  module _ (apart : (n : ℕ) → lines n → IsBlockLine geo n) (served : BlocksServe host.blocks new.medium) where
    volume_line_kept : (n : ℕ) → IsOfVolume geo n → LineKept old.medium new.medium n
    volume_line_kept n of = kept-but lines old.medium new.medium n (λ at. volume_apart geo n serves.layout.valid of (apart n at)) x

    file_line_kept : (n : ℕ) → IsOfFiles geo n → LineKept old.medium new.medium n
    file_line_kept n of = kept-but lines old.medium new.medium n (λ at. files_not_blocks geo n of (apart n at)) x

    pub blocks_marked_serve : HostServes host new
    blocks_marked_serve =
        goes_on host.files (mounted-blocks geo host.blocks host.volume host.files old.medium new.medium serves.layout.valid strong_marked x.count mounted
        host.blocks volume_line_kept file_line_kept refl mounted.settled served)

    pub blocks_marked : (h : Machine) (action : Action) (f : List Block → List Block) → Stands host old h → blocks_of host.blocks new.medium ≡ f (blocks_of host.blocks old.medium)
        → Stands host new (record h { blocks = f h.blocks })
    blocks_marked h action f stands is =
        let seen = is ∙ ap f (stands.blocks on) in
        let metadata = metadata_marked h stands in
        let reads : h.bad_meta ≡ [] → EachReads h.geometry new.medium (λ bs. bs ≡ f h.blocks) = λ none.
        let good = subst (λ g. HasGoodMetadata g new.medium) (sym (mounted.geometry ∙ stands.geometry)) (good_lines h.geometry new.medium (metadata.bad ∙ none)) in
        subst (λ g. EachReads g new.medium (λ bs. bs ≡ f h.blocks)) (mounted.geometry ∙ stands.geometry)
        (subst (λ to. EachReads host.blocks.geo new.medium (λ bs. bs ≡ to)) seen (served_reads host.blocks new.medium good served)) in
        stands_done host host old new h action stands on 0 0 (omega arith) (omega arith) refl refl refl (f h.blocks) h.volume h.files on nothing_run metadata (reads, seen)
        (pages_still host old new h stands serves on volume_line_kept) (files_still host old new h stands serves on file_line_kept)

  -- lines of the volume
  module _ (apart : (n : ℕ) → lines n → IsOfVolume geo n) (served : VolumeServes host.volume new.medium) where
    block_line_stays : (n : ℕ) → IsBlockLine geo n → Stays old.medium new.medium n
    block_line_stays n of = stays_of_kept old.medium new.medium n (kept-but lines old.medium new.medium n (λ at. volume_apart geo n serves.layout.valid (apart n at) of) x)

    file_line_stays : (n : ℕ) → IsOfFiles geo n → LineKept old.medium new.medium n
    file_line_stays n of = kept-but lines old.medium new.medium n (λ at. files_not_volume geo n serves.layout.valid of (apart n at)) x

    pub volume_marked_serves : HostServes host new
    volume_marked_serves =
        goes_on host.files (mounted-volume geo host.blocks host.volume host.files old.medium new.medium serves.layout.valid strong_marked x.count mounted
        host.volume block_line_stays file_line_stays refl mounted.volume_settled served)

    pub volume_marked : (h : Machine) (action : Action) (pages : List Page) → Stands host old h → VolumeHolds host.volume new.medium pages → Stands host new (record h { volume = pages })
    volume_marked h action pages stands holds =
        let each : EachReadsPages h.geometry new.medium (λ x. x ≡ pages) =
        subst (λ g. EachReadsPages g new.medium (λ x. x ≡ pages)) (mounted.volume_geometry ∙ stands.geometry) (served_pages host.volume new.medium pages served holds) in
        stands_done host host old new h action stands on 0 0 (omega arith) (omega arith) refl refl refl h.blocks pages h.files on nothing_run (metadata_marked h stands)
        (blocks_still host old new h stands serves on block_line_stays) (λ none. each, holds) (files_still host old new h stands serves on file_line_stays)

  -- lines of files
  module _ (apart : (n : ℕ) → lines n → IsOfFiles geo n) (served : PagesServe host.files.pages new.medium) where
    block_stays : (n : ℕ) → IsBlockLine geo n → Stays old.medium new.medium n
    block_stays n of = stays_of_kept old.medium new.medium n (kept-but lines old.medium new.medium n (λ at. files_not_blocks geo n (apart n at) of) x)

    volume_stays : (n : ℕ) → IsOfVolume geo n → LineKept old.medium new.medium n
    volume_stays n of = kept-but lines old.medium new.medium n (λ at. files_not_volume geo n serves.layout.valid (apart n at) of) x

    pub files_marked_serve : (e : Stock Event) → HasRoom (record host.files { events = e }) new.medium → HostServes (telling e host) new
    files_marked_serve e room =
        goes_on (record host.files { events = e }) (mounted-files geo host.blocks host.volume host.files old.medium new.medium serves.layout.valid strong_marked x.count mounted
        (record host.files { events = e }) block_stays volume_stays refl mounted.journal_settled mounted.pages_settled served mounted.journal_right refl mounted.mapped room)

    pub files_marked : (h : Machine) (action : Action) (files : List File) → Stands host old h → FilesStand host.files.pages.journal.geo new.medium host.files.pages.journal.tables files
        → Stands host new (record h { files = files })
    files_marked h action files stands stand =
        let right : AreTables host.files.pages.journal.geo.fpages host.files.pages.journal.tables =
        subst (λ g. AreTables g.fpages host.files.pages.journal.tables) (sym mounted.journal_geometry) mounted.journal_right in
        let each : EachReadsFiles h.geometry new.medium (λ x. x ≡ files) =
        subst (λ g. EachReadsFiles g new.medium (λ x. x ≡ files)) (mounted.journal_geometry ∙ stands.geometry) (served_files host.files.pages.journal new.medium files right served stand) in
        stands_done host host old new h action stands on 0 0 (omega arith) (omega arith) refl refl refl h.blocks h.volume files on nothing_run (metadata_marked h stands)
        (blocks_still host old new h stands serves on block_stays) (pages_still host old new h stands serves on volume_stays) (λ none. each, stand)
