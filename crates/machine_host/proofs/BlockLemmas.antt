-- What a host and its device stand for, after a call on the blocks.
use Rattle.std.proofs.Common.{◌≡◌, ◌≢◌, ◌<◌, ◌≤◌, ℕ, IsTrue, true, position, Option, Some, None, option_map, Result, Ok, Err, OnOk, List, [], refl, sym, ap, ap₂, subst, ◌∙◌, arith}
use Rattle.nvm_base.proofs.FirstLemmas.{not_mapped}
use Rattle.line_device.specs.Medium.{Medium}
use Rattle.line_device.specs.Panel.{Runs}
use Rattle.line_device.specs.Device.{Device}
use Rattle.line_words.specs.Words.{WritesBackBeside}
use Rattle.nvm_model.specs.Storage.{Block}
use Rattle.block_device.specs.Area.{IsBlockLine}
use Rattle.block_device.specs.Object.{BlocksState, HasGoodMetadata, blocks_of}
use Rattle.block_device.specs.Calls.{ChangesBlocks}
use Rattle.block_device.specs.Object as object
use Rattle.block_device.specs.Images.{AreReadable, EachReads}
use Rattle.block_device.specs.Refusals.{Refusal, told, Answers, OnRefused, OnWorked, block_outcome}
use Rattle.line_words.specs.Told.{is_done}
use Rattle.block_device.specs.Refusals.Refusal.{Range, Length, Limit, Overlap, Meta, Unreadable}
use Rattle.nvm_model.specs.Blocks.Obstacle.{scar, bad_line}
use Rattle.block_device.specs.declared.fault.BlockFault.{BlockFault}
use Rattle.block_device.specs.declared.fault.BlockFault.TheVariants as fault
use Rattle.block_device.specs.Refusals as blocks
use Rattle.std.specs.List.{range_with_len}
use Rattle.block_device.proofs.PositionLemmas.{fails_below}
use Rattle.block_device.proofs.ImageLemmas.{each_reads-then, served_reads}
use Rattle.nvm_model.specs.Blocks.{first_there}
use Rattle.script_text.specs.Action.{Action}
use Rattle.reply_text.specs.Answer.{Answer, IsPrintable}
use Rattle.reply_text.specs.Answer.Answer.{Done}
use Rattle.reply_text.specs.Room.{most_of}
use Rattle.machine_host.specs.Responding.{Answered}
use Rattle.machine_model.proofs.RefusalLemmas.{fate_changing, mapped_first, meta_refused}
use Rattle.word_tables.specs.Layout.{meta_lines}
use Rattle.word_tables.specs.declared.geometry.Geometry.{Geometry}
use Rattle.machine_model.specs.declared.mode.Mode.TheVariants.{On}
use Rattle.machine_model.specs.Machine.{Machine}
use Rattle.machine_model.specs.Meaning.{BlocksLeft}
use Rattle.machine_model.specs.OnBlocks.{changing_blocks, refusal_answer}
use Rattle.machine_model.specs.Machine.Fate.{Works}
use Rattle.machine_model.specs.Commands.{MayLeaveBlocks, MayLeaveFiles, MayLeaveVolume, fate, meaning, spending, unless_refused}
use Rattle.machine_model.specs.Interrupted.{stop_in}
use Rattle.machine_host.specs.Lines.{HasLayout, MetadataStands}
use Rattle.machine_model.specs.Lines.{bad_metadata}
use Rattle.machine_model.specs.declared.mode.Mode.{Mode}
use Rattle.machine_model.specs.Meaning.{metadata_refusal}
use Rattle.machine_host.specs.Stands.{HostState, HostServes, AreMounted, Stands, Comes}
use Rattle.machine_host.specs.Faults.{answer_after, mode_after}
use Rattle.line_words.specs.Told.Told.{Starves}
use Rattle.block_device.specs.Refusals.{block_says}
use Rattle.pm_volume.specs.Area.{IsOfVolume}
use Rattle.file_journal.specs.Area.{IsOfFiles}
use Rattle.file_journal.proofs.EachFilesLemmas.{each_files-then}
use Rattle.nvm_model.proofs.KeptLemmas.{LineKept}
use Rattle.pm_volume.proofs.StandingLemmas.{each_pages-then}
use Rattle.machine_host.proofs.CallLemmas.{IsPart, comes_of_call, printable_after, serves_of_call, short_told}
use Rattle.machine_host.proofs.BadLineLemmas.{good_lines}
use Rattle.machine_host.proofs.ElsewhereLemmas.{first_not_blocks, mounted-blocks, volume_apart}
use Rattle.machine_host.proofs.FilesAsideLemmas.{files_not_blocks}
use Rattle.machine_host.proofs.FilesLeftLemmas.{may_leave-same}
use Rattle.machine_host.proofs.LayoutLemmas.{kept-beside, layout-beside, metadata-then, same_bad}
use Rattle.machine_host.proofs.StepLemmas.{DeviceLeft, FilesAre, PagesAre, files_still, pages_still, stands_done}
use Rattle.machine_host.specs.Keeping.{Changes, is_refusal, reach}
use Rattle.machine_host.proofs.KeepLemmas.{keeps_called, keeps_inside}

-- what a call on the blocks says, whichever it is
pub record Called {T : Type 0} (host : HostState) (s : BlocksState) (r : Result T BlockFault) (P : List Block → Type 0) (calls persists : ℕ) (old new : Device) : Type 0 where
  pub untouched : OnRefused r ((s ≡ host.blocks) × (new ≡ old))
  pub images : HasGoodMetadata host.blocks.geo old.medium → OnWorked r (EachReads host.blocks.geo new.medium P)
  pub outside : WritesBackBeside (IsBlockLine host.blocks.geo) old.medium new.medium
  pub marks : (n : ℕ) → n < meta_lines host.blocks.geo → new.medium.is_bad n ≡ old.medium.is_bad n
  pub serves : IsTrue s.settled → object.BlocksServe s new.medium
  pub object : (s.geo ≡ host.blocks.geo) × (s.settled ≡ is_done (block_outcome r))
  pub runs : Runs calls persists (block_outcome r) old.panel new.panel

-- no call on the blocks wants memory
never_starves : (f : BlockFault) → block_says f ≡ Starves → ⊥
never_starves fault.Range e = cc e
never_starves fault.Length e = cc e
never_starves fault.Limit e = cc e
never_starves fault.Overlap e = cc e
never_starves (fault.Meta line) e = cc e
never_starves (fault.Scarred block) e = cc e
never_starves (fault.Poison block line) e = cc e
never_starves fault.Device e = cc e
never_starves fault.PowerLost e = cc e

-- an answer to a refusal tells of no interruption
pub no_stop : (w : Refusal) → stop_in (refusal_answer w) ≡ None
no_stop Range = refl
no_stop Length = refl
no_stop Limit = refl
no_stop Overlap = refl
no_stop (Meta line) = refl
no_stop (Unreadable (scar block)) = refl
no_stop (Unreadable (bad_line block line)) = refl

-- what a call is answered that gives no bytes is short
short_refusal : (w : Refusal) → most_of (refusal_answer w) ≤ 72
short_refusal Range = omega arith
short_refusal Length = omega arith
short_refusal Limit = omega arith
short_refusal Overlap = omega arith
short_refusal (Meta line) = omega arith
short_refusal (Unreadable (scar block)) = omega arith
short_refusal (Unreadable (bad_line block line)) = omega arith

printable_refusal : (w : Refusal) → IsPrintable (refusal_answer w)
printable_refusal Range = tt
printable_refusal Length = tt
printable_refusal Limit = tt
printable_refusal Overlap = tt
printable_refusal (Meta line) = tt
printable_refusal (Unreadable (scar block)) = tt
printable_refusal (Unreadable (bad_line block line)) = tt

pub blocks_part : IsPart block_says refusal_answer
blocks_part = record { printable = printable_refusal; quiet = no_stop; short = short_refusal; fed = never_starves }

short_after : (r : Result (Unit {0}) BlockFault) → most_of (answer_after block_says refusal_answer Done r) ≤ 72
short_after (Ok x) = omega arith
short_after (Err f) = short_told refusal_answer short_refusal (block_says f)

-- the host in a mode after the call
abbrev pub host_after : HostState → BlocksState → Mode → HostState
host_after host s mode = record host { mode = mode; blocks = s }

module _ (host : HostState) (s : BlocksState) (old new : Device) (on : host.mode ≡ On) (serves : HostServes host old) (outside : WritesBackBeside (IsBlockLine host.blocks.geo) old.medium new.medium) where
  mounted : AreMounted host.geometry host.blocks host.volume host.files old.medium
  mounted = serves.mounted on

  -- lines of other parts are kept
  kept_beside : (line : ℕ) → (IsBlockLine host.geometry line → ⊥) → LineKept old.medium new.medium line
  kept_beside line apart = kept-beside (IsBlockLine host.blocks.geo) old.medium new.medium line (λ at. apart (subst (λ g. IsBlockLine g line) mounted.geometry at)) outside

  pub pages_beside : (line : ℕ) → IsOfVolume host.geometry line → LineKept old.medium new.medium line
  pages_beside line of = kept_beside line (volume_apart host.geometry line serves.layout.valid of)

  pub files_beside : (line : ℕ) → IsOfFiles host.geometry line → LineKept old.medium new.medium line
  files_beside line of = kept_beside line (files_not_blocks host.geometry line of)

  pub layout_after : HasLayout host.geometry new.medium
  layout_after = layout-beside host.geometry old.medium new.medium serves.layout (IsBlockLine host.blocks.geo) (first_not_blocks host.blocks.geo) outside

  mounted_after : s.geo ≡ host.blocks.geo → IsTrue s.settled → object.BlocksServe s new.medium → AreMounted host.geometry s host.volume host.files new.medium
  mounted_after geo settled served =
      mounted-blocks host.geometry host.blocks host.volume host.files old.medium new.medium serves.layout.valid (λ n below. outside.stays_strong n (serves.layout.strong n below)) outside.count mounted
      s pages_beside files_beside geo settled served

  pub served_after : (served : object.BlocksServe s new.medium) → HasGoodMetadata host.geometry new.medium → s.geo ≡ host.blocks.geo → EachReads host.geometry new.medium (λ bs. bs ≡ blocks_of s new.medium)
  served_after served good geo =
      let same = geo ∙ mounted.geometry in
      subst (λ g. EachReads g new.medium (λ bs. bs ≡ blocks_of s new.medium)) same
      (served_reads s new.medium (subst (λ g. HasGoodMetadata g new.medium) (sym same) good) served)

-- A call on the blocks comes to what the machine makes of it: done, refused, or interrupted.
module _ (host : HostState) (s : BlocksState) (action : Action) (calls persists : ℕ) (h : Machine) (few : calls ≤ (spending h action).calls) (few_persists : persists ≤ (spending h action).persists)
    (old new : Device) (on : host.mode ≡ On) (serves : HostServes host old) (stands : Stands host old h) (f : List Block → List Block) where
  -- what a call may leave
  abbrev may : List Block → Type 0
  may = MayLeaveBlocks (Some action) (blocks_of host.blocks old.medium)

  -- volume and files, which such a call leaves
  pages_left : WritesBackBeside (IsBlockLine host.blocks.geo) old.medium new.medium → PagesAre host new h h.volume
  pages_left outside = pages_still host old new h stands serves on (pages_beside host s old new on serves outside)

  files_left : WritesBackBeside (IsBlockLine host.blocks.geo) old.medium new.medium → FilesAre host new h h.files
  files_left outside = files_still host old new h stands serves on (files_beside host s old new on serves outside)

  -- the metadata
  metadata_beside : {T : Type 0} {r : Result T BlockFault} → Called host s r may calls persists old new → MetadataStands h.geometry new.medium h.bad_meta
  metadata_beside c =
      metadata-then h.geometry old.medium new.medium h.bad_meta
      (layout-beside h.geometry old.medium new.medium stands.device.metadata.layout (IsBlockLine host.blocks.geo) (first_not_blocks host.blocks.geo) c.outside)
      (λ n below. c.marks n (subst (λ g. n < meta_lines g) (sym ((serves.mounted on).geometry ∙ stands.geometry)) below)) stands.device.metadata

  good_after : {T : Type 0} {r : Result T BlockFault} → Called host s r may calls persists old new → h.bad_meta ≡ [] → HasGoodMetadata host.geometry new.medium
  good_after c good = subst (λ g. HasGoodMetadata g new.medium) (sym stands.geometry) (good_lines h.geometry new.medium ((metadata_beside c).bad ∙ good))

  good_was : h.bad_meta ≡ [] → HasGoodMetadata host.blocks.geo old.medium
  good_was good =
      subst (λ g. HasGoodMetadata g old.medium) (sym ((serves.mounted on).geometry ∙ stands.geometry)) (good_lines h.geometry old.medium (stands.device.metadata.bad ∙ good))

  -- the state after a call that went well
  stands_called : {T : Type 0} (r : Result T BlockFault) → Called host s r may calls persists old new → OnOk r (blocks_of s new.medium ≡ f (blocks_of host.blocks old.medium))
      → OnOk r (Stands (host_after host s On) new (record h { blocks = f h.blocks }))
  stands_called (Ok x) c ok =
      let now : blocks_of s new.medium ≡ f h.blocks = ok ∙ ap f (stands.blocks on) in
      stands_done host (host_after host s On) old new h action stands on calls persists few few_persists refl refl refl (f h.blocks) h.volume h.files refl c.runs (metadata_beside c) (
        λ good.
            subst (λ g. EachReads g new.medium (λ bs. bs ≡ f h.blocks)) stands.geometry
            (each_reads-then host.geometry new.medium (λ bs. bs ≡ blocks_of s new.medium) (λ bs. bs ≡ f h.blocks) (λ bs e. e ∙ now)
            (served_after host s old new on serves c.outside (c.serves c.object.1) (good_after c good) c.object.0)),
        now,
      )
      (pages_left c.outside) (files_left c.outside)
  stands_called (Err e) c ok = tt

  -- what each image reads as after an interruption
  blocks_interrupted : EachReads host.blocks.geo new.medium may → EachReads h.geometry new.medium (MayLeaveBlocks (Some action) h.blocks)
  blocks_interrupted each =
      subst (λ bs. EachReads h.geometry new.medium (MayLeaveBlocks (Some action) bs)) (stands.blocks on)
      (subst (λ g. EachReads g new.medium may) ((serves.mounted on).geometry ∙ stands.geometry) each)

  left_by : {T : Type 0} {r : Result T BlockFault} → MayLeaveVolume h.geometry (Some action) h.volume h.volume → Called host s r may calls persists old new → (h.bad_meta ≡ [] → EachReads host.blocks.geo new.medium may)
      → DeviceLeft h action new.medium
  left_by left c each = record {
    metadata = metadata_beside c;
    blocks = λ good. blocks_interrupted (each good);
    volume = λ good.
        each_pages-then h.geometry new.medium (λ pages. pages ≡ h.volume) (MayLeaveVolume h.geometry (Some action) h.volume)
        (λ pages same. subst (MayLeaveVolume h.geometry (Some action) h.volume) (sym same) left) ((pages_left c.outside).0 good);
    files = λ good. each_files-then h.geometry new.medium (λ files. files ≡ h.files) (MayLeaveFiles h.mappings (Some action) h.files) (may_leave-same h.mappings (Some action) h.files) ((files_left c.outside).0 good);
  }

  left_called : {T : Type 0} (r : Result T BlockFault) → MayLeaveVolume h.geometry (Some action) h.volume h.volume → Called host s r may calls persists old new → OnWorked r (DeviceLeft h action new.medium)
  left_called (Ok x) left c = left_by left c (λ good. c.images (good_was good))
  left_called (Err e) left c = λ worked. left_by left c (λ good. c.images (good_was good) worked)

pub same_host : {T : Type 0} (host : HostState) (s : BlocksState) (r : Result T BlockFault) (old new : Device) → OnRefused r ((s ≡ host.blocks) × (new ≡ old)) → OnRefused r ((host_after host s host.mode ≡ host) × (new ≡ old))
same_host host s (Ok x) old new untouched = tt
same_host host s (Err e) old new untouched = λ told. let same = untouched told in (ap (λ b. record host { blocks = b }) same.0, same.1)

mounted_ok : {T : Type 0} (host : HostState) (s : BlocksState) (r : Result T BlockFault) (P : List Block → Type 0) (calls persists : ℕ) (old new : Device) → host.mode ≡ On → HostServes host old → Called host s r P calls persists old new
    → OnOk r (AreMounted host.geometry s host.volume host.files new.medium)
mounted_ok host s (Ok x) P calls persists old new on serves c = mounted_after host s old new on serves c.outside c.object.0 c.object.1 (c.serves c.object.1)
mounted_ok host s (Err e) P calls persists old new on serves c = tt

on_refused-then : {T P Q : Type 0} (r : Result T BlockFault) → (P → Q) → OnRefused r P → OnRefused r Q
on_refused-then (Ok x) then_ p = tt
on_refused-then (Err f) then_ p = λ told. then_ (p told)

-- a call that a bad line of metadata refuses leaves the marks of metadata
last_none : {A : Type 0} (a b : Option A) → first_there a b ≡ None → b ≡ None
last_none None b none = none
last_none (Some x) b none = cc none

pub unrefused : (geo : Geometry) (m : Medium) (places : Option Refusal) → first_there places (blocks.meta_refusal geo m) ≡ None → HasGoodMetadata geo m
unrefused geo m places none n below = fails_below m.is_bad (meta_lines geo) n (not_mapped Meta (position m.is_bad (range_with_len 0 (meta_lines geo))) (last_none places (blocks.meta_refusal geo m) none)) below

pub marks_kept : (Q : Type 0) (geo : Geometry) (old new : Device) (lines : ℕ → Type 0) (r : Result (Unit {0}) BlockFault) (places : Option Refusal) → Answers (first_there places (blocks.meta_refusal geo old.medium)) r → OnRefused r (Q × (new ≡ old))
    → WritesBackBeside lines old.medium new.medium → (n : ℕ) → n < meta_lines geo → new.medium.is_bad n ≡ old.medium.is_bad n
marks_kept Q geo old new lines r places answers untouched x n below = by_refusal (first_there places (blocks.meta_refusal geo old.medium)) refl r answers untouched
  where
    worked : first_there places (blocks.meta_refusal geo old.medium) ≡ None → new.medium.is_bad n ≡ old.medium.is_bad n
    worked none = let good = unrefused geo old.medium places none n below in x.stays_good n good ∙ sym good

    by_refusal : (why : Option Refusal) → first_there places (blocks.meta_refusal geo old.medium) ≡ why → (r : Result (Unit {0}) BlockFault) → Answers why r → OnRefused r (Q × (new ≡ old))
        → new.medium.is_bad n ≡ old.medium.is_bad n
    by_refusal None is r answers untouched = worked is
    by_refusal (Some w) is (Ok x) answers untouched = absurd answers
    by_refusal (Some w) is (Err f) answers untouched = ap (λ d. d.medium.is_bad n) (untouched (λ none. cc (none, answers))).1

-- a call that changes blocks, whichever
pub called : {D : Type 0} (state : D → Device) (host : HostState) (s : BlocksState) (before after : D) (r : Result (Unit {0}) BlockFault) (places : Option Refusal) (to : List Block → List Block) (Between : List Block → List Block → List Block → Type 0) (calls persists : ℕ)
    → ChangesBlocks state host.blocks s before after r (first_there places (blocks.meta_refusal host.blocks.geo (state before).medium)) to Between calls persists
    → Called host s r (Between (blocks_of host.blocks (state before).medium) (to (blocks_of host.blocks (state before).medium))) calls persists (state before) (state after)
called state host s before after r places to Between calls persists said =
    let untouched = on_refused-then r (λ same. (same.0, ap state same.1)) said.untouched in
    record {
      untouched = untouched;
      images = λ good. said.images;
      outside = said.outside;
      marks = marks_kept (s ≡ host.blocks) host.blocks.geo (state before) (state after) (IsBlockLine host.blocks.geo) r places said.refused untouched said.outside;
      serves = said.serves;
      object = said.object;
      runs = said.runs;
    }

-- of a state that the host stands for, the refusals of the blocks are the machine's
module _ (host : HostState) (old : Device) (h : Machine) (serves : HostServes host old) (stands : Stands host old h) (on : host.mode ≡ On) where
  geo_there : host.blocks.geo ≡ h.geometry
  geo_there = (serves.mounted on).geometry ∙ stands.geometry

  -- a bad line of metadata refuses what would change it
  pub meta_same : metadata_refusal true h.bad_meta ≡ option_map refusal_answer (blocks.meta_refusal host.blocks.geo old.medium)
  meta_same =
      ap (metadata_refusal true) (sym stands.device.metadata.bad ∙ ap (λ g. bad_metadata g old.medium.is_bad) (sym geo_there))
      ∙ meta_refused Meta refusal_answer (λ n. refl) host.blocks.geo old.medium.is_bad

  pub refused_places : (places : ℕ → Option Refusal) → first_there (option_map refusal_answer (places h.geometry.blocks)) (metadata_refusal true h.bad_meta)
      ≡ option_map refusal_answer (first_there (places host.blocks.geo.blocks) (blocks.meta_refusal host.blocks.geo old.medium))
  refused_places places =
      ap₂ (λ (g : Geometry) o. first_there (option_map refusal_answer (places g.blocks)) o) (sym geo_there) meta_same
      ∙ mapped_first refusal_answer (places host.blocks.geo.blocks) (blocks.meta_refusal host.blocks.geo old.medium)

-- The same of a host behind a reference: `host` is what is inside `now`, and `after` what the answer leaves.
module _ (now host after : HostState) (s : BlocksState) (r : Result (Unit {0}) BlockFault) (calls persists : ℕ) (old new : Device)
    (inside : host ≡ now) (state : after ≡ host_after host s (mode_after block_says r)) (on : now.mode ≡ On) (serves : HostServes now old) (action : Action)
    (few : (h : Machine) → calls ≤ (spending h action).calls) (few_persists : (h : Machine) → persists ≤ (spending h action).persists)
    (call : Called host s r (MayLeaveBlocks (Some action) (blocks_of host.blocks old.medium)) calls persists old new) where
  on_inside : host.mode ≡ On
  on_inside = ap (λ k. k.mode) inside ∙ on

  serves_inside : HostServes host old
  serves_inside = subst (λ k. HostServes k old) (sym inside) serves

  -- the blocks can be read still
  readable_after : bad_metadata host.geometry new.medium.is_bad ≡ [] → AreReadable host.geometry new.medium
  readable_after none = by_result r call.untouched (call.images good)
    where
      geo_is : host.blocks.geo ≡ host.geometry
      geo_is = (serves_inside.mounted on_inside).geometry

      none_was : bad_metadata host.geometry old.medium.is_bad ≡ []
      none_was = sym (same_bad host.geometry old.medium new.medium (λ n below. call.marks n (subst (λ g. n < meta_lines g) (sym geo_is) below))) ∙ none

      good : HasGoodMetadata host.blocks.geo old.medium
      good = subst (λ g. HasGoodMetadata g old.medium) (sym geo_is) (good_lines host.geometry old.medium none_was)

      may : List Block → Type 0
      may = MayLeaveBlocks (Some action) (blocks_of host.blocks old.medium)

      worked : EachReads host.blocks.geo new.medium may → AreReadable host.geometry new.medium
      worked each = subst (λ g. AreReadable g new.medium) geo_is (each_reads-then host.blocks.geo new.medium may (λ _. Unit {0}) (λ _ _. tt) each)

      by_reason : (why : Option Refusal) → (why ≢ None → (s ≡ host.blocks) × (new ≡ old)) → (why ≡ None → EachReads host.blocks.geo new.medium may) → AreReadable host.geometry new.medium
      by_reason None untouched each = worked (each refl)
      by_reason (Some w) untouched each = subst (λ d. AreReadable host.geometry d.medium) (sym (untouched (λ e. cc e)).1) (serves_inside.readable none_was)

      by_result : (r : Result (Unit {0}) BlockFault) → OnRefused r ((s ≡ host.blocks) × (new ≡ old)) → OnWorked r (EachReads host.blocks.geo new.medium may) → AreReadable host.geometry new.medium
      by_result (Ok x) untouched each = worked each
      by_result (Err f) untouched each = by_reason (told f) untouched each

  pub change_serves : HostServes after new
  change_serves =
      subst (λ k. HostServes k new) (sym state)
      (serves_of_call block_says refusal_answer blocks_part host (host_after host s) old new on_inside (λ m. refl) (λ m. refl) calls persists r serves_inside
      (same_host host s r old new call.untouched) (layout_after host s old new on_inside serves_inside call.outside) readable_after
      (mounted_ok host s r (MayLeaveBlocks (Some action) (blocks_of host.blocks old.medium)) calls persists old new on_inside serves_inside call) call.runs)

  pub change_comes : (h : Machine) (good answer : Answer) (why : Option Refusal) (f : List Block → List Block) → stop_in good ≡ None → Stands now old h → MayLeaveVolume h.geometry (Some action) h.volume h.volume
      → (HostServes host old → Stands host old h → host.mode ≡ On → fate h action ≡ unless_refused h (option_map refusal_answer why) (Works good (record h { blocks = f h.blocks })))
      → Answers why r → OnOk r (blocks_of s new.medium ≡ f (blocks_of host.blocks old.medium)) → answer ≡ answer_after block_says refusal_answer good r → Comes h action (fate h action) answer after old new
  change_comes h good answer why f quiet stands left fate_is refused ok answer_is =
      let stands_inside = subst (λ k. Stands k old h) (sym inside) stands in
      subst (λ a. Comes h action (fate h action) a after old new) (sym answer_is)
      (subst (λ k. Comes h action (fate h action) (answer_after block_says refusal_answer good r) k old new) (sym state)
      (subst (λ fate. Comes h action fate (answer_after block_says refusal_answer good r) (host_after host s (mode_after block_says r)) old new) (sym (fate_is serves_inside stands_inside on_inside))
      (comes_of_call block_says refusal_answer blocks_part host (host_after host s) old new on_inside (λ m. refl) (λ m. refl) calls persists action h stands_inside (few h) (few_persists h)
      r good why (record h { blocks = f h.blocks }) quiet refused (same_host host s r old new call.untouched)
      (stands_called host s action calls persists h (few h) (few_persists h) old new on_inside serves_inside stands_inside f r call ok)
      (left_called host s action calls persists h (few h) (few_persists h) old new on_inside serves_inside stands_inside f r left call) call.runs)))

  -- a change of the blocks, by its row, is answered
  pub change_answered : (answer : Answer) (places : ℕ → Option Refusal) (f : List Block → List Block) (left : BlocksLeft) (a b : ℕ) → meaning action ≡ changing_blocks places f left a b
      → ((h : Machine) → MayLeaveVolume h.geometry (Some action) h.volume h.volume)
      → Answers (first_there (places host.blocks.geo.blocks) (blocks.meta_refusal host.blocks.geo old.medium)) r → OnOk r (blocks_of s new.medium ≡ f (blocks_of host.blocks old.medium))
      → answer ≡ answer_after block_says refusal_answer Done r → Changes (reach action) old new → Answered action answer now after old new
  change_answered answer places f left a b row kept refused ok answer_is changes = record {
    step = λ h stands. change_comes h Done answer (first_there (places host.blocks.geo.blocks) (blocks.meta_refusal host.blocks.geo old.medium)) f refl stands (kept h)
        (λ serves stands on. fate_changing h action places f left a b row (sym stands.mode ∙ on)
        ∙ ap (λ o. unless_refused h o (Works Done (record h { blocks = f h.blocks }))) (refused_places host old h serves stands on places))
        refused ok answer_is;
    keeps = keeps_inside (is_refusal answer) action now host after (host_after host s (mode_after block_says r)) old new inside state
        (keeps_called block_says refusal_answer r answer (record { good = Done; accepts = refl; is = answer_is }) action host (host_after host s) old new on_inside (same_host host s r old new call.untouched) changes);
    printable = subst IsPrintable (sym answer_is) (printable_after block_says refusal_answer blocks_part Done tt r);
    room = let short = subst (λ a. most_of a ≤ 72) (sym answer_is) (short_after r) in subst (λ m. most_of answer ≤ m.room) (sym row) short;
    serves = change_serves;
  }
