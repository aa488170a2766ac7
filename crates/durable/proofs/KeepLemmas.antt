-- What a step keeps: the byte at a place that it spares.
use Rattle.std.proofs.Common.{◌≡◌, ◌⊎◌, inl, inr, ℕ, ◌/◌, ◌%◌, true, Option, Some, None, List, refl, sym, ap, subst, ◌∙◌, arith}
use Rattle.std.proofs.lemmas.Bool.{both_ways, eq-eqb, eqb-false}
use Rattle.std.proofs.lemmas.Bool.Decides.{nat_tests}
use Rattle.line_words.specs.declared.interruption.Interruption.{Interruption}
use Rattle.line_words.specs.declared.interruption.Interruption.TheVariants.{Failed, PowerLost as Lost}
use Rattle.machine_model.specs.Interrupted.{interrupted_answer}
use Rattle.nvm_model.specs.Blocks.{nth}
use Rattle.nvm_model.specs.Cell.{touches}
use Rattle.nvm_model.specs.Page.{Page}
use Rattle.nvm_model.specs.Storage.{Block, Mapping}
use Rattle.reply_text.specs.Answer.{Answer}
use Rattle.script_text.specs.Action.{Action}
use Rattle.script_text.specs.Action.Action.{VStore, VSync, VPSync, VDiscard, VDiscardIf, PoisonBlock, PoisonVolume, WeakenVolume, ClearVolume}
use Rattle.machine_model.specs.declared.mode.Mode.TheVariants.{On, Off}
use Rattle.machine_model.specs.Machine.{Machine}
use Rattle.machine_model.specs.Commands.{LeavesVolume, MayLeaveBlocks, MayLeaveVolume, meaning}
use Rattle.machine_model.specs.OnPages.{pages_named}
use Rattle.machine_model.specs.OnVolume.{part_synced_at, persist_at}
use Rattle.word_tables.specs.declared.geometry.Geometry.{Geometry}
use Rattle.word_tables.specs.Layout.{volume_line}
use Rattle.block_device.specs.Reading.{blocks_read}
use Rattle.pm_volume.specs.Presence.{presence_read}
use Rattle.pm_volume.specs.Refusals.{physical_offset}
use Rattle.durable.specs.Place.{Place, block_has, byte_at_place}
use Rattle.durable.specs.Place.Place.{of_volume, of_blocks, of_file}
use Rattle.durable.specs.Region.{touched_lines_at}
use Rattle.durable.specs.Touching.{is_begun}
use Rattle.durable.specs.Durable.{BringsBytes, HasNothing, IsDone}
use Rattle.durable.proofs.StepKinds.{Alters, Remounts, Returns, Step, TouchesNothing, blocks_after, files_made, volume_after}
use Rattle.durable.proofs.StepKinds.Step.{idles, alters, stops, returns, remounts, empties}
use Rattle.durable.proofs.LineLemmas.{HasOrLost, MayBe}
use Rattle.durable.proofs.RefusalLemmas.{is_on}
use Rattle.durable.proofs.SparedLemmas.{KeepsBytes, KeptBy, SparedBy, SparesPlace, keeps_bytes}
use Rattle.durable.proofs.VolumeLemmas.{VolumeKeeps, byte-kept, keeps-clear, keeps-lose, keeps-weaken, keeps-persist, keeps-stored, keeps-may_store, keeps-may_sync, keeps-discard, keeps-may_discard, keeps-read}
use Rattle.durable.proofs.BlockLemmas.{has-lost, nth-spared, nth-left}
use Rattle.durable.proofs.FlushedFileLemmas.{FileKeeps}
use Rattle.durable.proofs.FileKeepLemmas.{file_altered, file_left, file_read}

-- a command that was stopped was begun
pub stop_begun : (by : Interruption) → is_begun (interrupted_answer by) ≡ true
stop_begun Failed = refl
stop_begun Lost = refl

-- and so was one that was done
pub done_begun : (answer : Answer) → IsDone answer → is_begun answer ≡ true
done_begun answer (inl is) = ap is_begun is
done_begun answer (inr is) = ap is_begun is.2

module _ (since : MayBe) where
  -- the place has this byte, whatever a cut leaves
  abbrev pub PlaceKeeps : Machine → Place → Option ℕ → Type 0
  PlaceKeeps h (of_volume i) v = VolumeKeeps since h.volume i v
  PlaceKeeps h (of_blocks i) v = HasOrLost since.lost (block_has (nth h.blocks (i / 512)) (i % 512)) v
  PlaceKeeps h (of_file name i) v = FileKeeps since h.files name i v

  pub record Keeps (h : Machine) (x : Place) (v : Option ℕ) : Type 0 where
    pub place : PlaceKeeps h x v
    pub spared : SparedBy since h.geometry h.mappings h.interrupted x
    pub fine : KeptBy h.interrupted h.files
    pub settled : h.mode ≡ On → h.interrupted ≡ None

  pub keeps_byte : (h : Machine) (x : Place) (v : Option ℕ) → Keeps h x v → HasOrLost since.lost (byte_at_place h x) v
  keeps_byte h (of_volume i) v keeps = byte-kept since h.volume i v keeps.place
  keeps_byte h (of_blocks i) v keeps = keeps.place
  keeps_byte h (of_file name i) v keeps = byte-kept since (pages_named name h.files) i v keeps.place

  -- an action that spares a byte of the volume
  persisted_at : (o : Option ℕ) (len i : ℕ) (v : Option ℕ) (pages : List Page) → ((touched_lines_at o len).volume i ≡ true → since.weak ≡ true → since.lost ≡ true)
      → VolumeKeeps since pages i v → VolumeKeeps since (persist_at o len pages) i v
  persisted_at None len i v pages loses keeps = keeps
  persisted_at (Some offset) len i v pages loses keeps = keeps-persist since offset len i v pages loses keeps

  altered_volume : (geo : Geometry) (mappings : List Mapping) (action : Action) (i : ℕ) (v : Option ℕ) (pages : List Page) → SparesPlace since geo mappings action (of_volume i) → VolumeKeeps since pages i v
      → VolumeKeeps since (volume_after geo action pages) i v
  altered_volume geo mappings (VStore offset bytes) i v pages spared keeps = keeps-stored since offset i v bytes pages spared.brings spared.change keeps
  altered_volume geo mappings (VSync offset len) i v pages spared keeps = keeps-persist since offset len i v pages spared.cover keeps
  altered_volume geo mappings (VPSync address len) i v pages spared keeps = persisted_at (physical_offset geo address len) len i v pages spared.cover keeps
  altered_volume geo mappings (VDiscard page count) i v pages spared keeps = keeps-discard since page count i v pages spared.change keeps
  altered_volume geo mappings (VDiscardIf page count) i v pages spared keeps = keeps-discard since page count i v pages spared.change keeps
  altered_volume geo mappings (PoisonVolume offset) i v pages spared keeps = keeps-lose since (offset / 64) i v pages (λ same. spared.poison (eq-eqb _ _ same)) keeps
  altered_volume geo mappings (WeakenVolume offset) i v pages spared keeps = keeps-weaken since (offset / 64) i v pages (λ same. spared.weaken (eq-eqb _ _ same)) keeps
  altered_volume geo mappings (ClearVolume offset) i v pages spared keeps = keeps-clear since (offset / 64) i v pages (eqb-false (i / 64) (offset / 64) spared.change) keeps
  altered_volume geo mappings action i v pages spared keeps = keeps

  -- and one that spares a byte of the blocks
  altered_blocks : (geo : Geometry) (mappings : List Mapping) (action : Action) (i : ℕ) (v : Option ℕ) (blocks : List Block) → SparesPlace since geo mappings action (of_blocks i)
      → HasOrLost since.lost (block_has (nth blocks (i / 512)) (i % 512)) v → HasOrLost since.lost (block_has (nth (blocks_after action blocks) (i / 512)) (i % 512)) v
  altered_blocks geo mappings (PoisonBlock block line) i v blocks spared has = has-lost since.lost block line i v blocks (λ same. spared.poison (eq-eqb _ _ same)) has
  altered_blocks geo mappings action i v blocks spared has = subst (λ b. HasOrLost since.lost (block_has b (i % 512)) v) (sym (nth-spared mappings action i blocks spared.change)) has

  -- one that was interrupted
  synced_at : (o : Option ℕ) (len i : ℕ) (v : Option ℕ) (pages to left : List Page) → ((touched_lines_at o len).volume i ≡ true → since.weak ≡ true → since.lost ≡ true)
      → VolumeKeeps since pages i v → LeavesVolume (part_synced_at o len) pages to left → VolumeKeeps since left i v
  synced_at None len i v pages to left loses keeps may = keeps-may_sync since 0 0 i v pages left (λ touched. absurd (untouched touched)) keeps may
    where
      untouched : touches 0 0 (i / 64) ≡ true → ⊥
      untouched touched = grind (arith, nat_tests)
  synced_at (Some offset) len i v pages to left loses keeps may = keeps-may_sync since offset len i v pages left loses keeps may

  left_volume : (geo : Geometry) (mappings : List Mapping) (action : Action) (i : ℕ) (v : Option ℕ) (pages left : List Page) → SparesPlace since geo mappings action (of_volume i) → VolumeKeeps since pages i v
      → MayLeaveVolume geo (Some action) pages left → VolumeKeeps since left i v
  left_volume geo mappings (VStore offset bytes) i v pages left spared keeps may = keeps-may_store since offset i v bytes pages left spared.brings spared.change keeps may
  left_volume geo mappings (VSync offset len) i v pages left spared keeps may = keeps-may_sync since offset len i v pages left spared.cover keeps may
  left_volume geo mappings (VPSync address len) i v pages left spared keeps may =
      synced_at (physical_offset geo address len) len i v pages (persist_at (physical_offset geo address len) len pages) left spared.cover keeps may
  left_volume geo mappings (VDiscard page count) i v pages left spared keeps (inl is) = subst (λ p. VolumeKeeps since p i v) {x = pages} (sym is) keeps
  left_volume geo mappings (VDiscard page count) i v pages left spared keeps (inr is) =
      subst (λ p. VolumeKeeps since p i v) (sym is) (keeps-discard since page count i v pages spared.change keeps)
  left_volume geo mappings (VDiscardIf page count) i v pages left spared keeps may = keeps-may_discard since page count i v pages left spared.change keeps may
  left_volume geo mappings (ClearVolume offset) i v pages left spared keeps (inl is) = subst (λ p. VolumeKeeps since p i v) {x = pages} (sym is) keeps
  left_volume geo mappings (ClearVolume offset) i v pages left spared keeps (inr is) =
      subst (λ p. VolumeKeeps since p i v) (sym is) (keeps-clear since (offset / 64) i v pages (eqb-false (i / 64) (offset / 64) spared.change) keeps)
  left_volume geo mappings action i v pages left spared keeps is = subst (λ p. VolumeKeeps since p i v) {x = pages} (sym is) keeps

  volume_left : (geo : Geometry) (mappings : List Mapping) (o : Option Action) (i : ℕ) (v : Option ℕ) (pages left : List Page) → SparedBy since geo mappings o (of_volume i) → VolumeKeeps since pages i v
      → MayLeaveVolume geo o pages left → VolumeKeeps since left i v
  volume_left geo mappings None i v pages left spared keeps is = subst (λ p. VolumeKeeps since p i v) {x = pages} (sym is) keeps
  volume_left geo mappings (Some action) i v pages left spared keeps may = left_volume geo mappings action i v pages left spared keeps may

  blocks_left : (geo : Geometry) (mappings : List Mapping) (o : Option Action) (i : ℕ) (old new : List Block) → SparedBy since geo mappings o (of_blocks i) → MayLeaveBlocks o old new
      → nth new (i / 512) ≡ nth old (i / 512)
  blocks_left geo mappings None i old new spared is = ap (λ bs. nth bs (i / 512)) is
  blocks_left geo mappings (Some action) i old new spared may =
      nth-left (meaning action).blocks_left (i / 512) old ((meaning action).blocks old) new (nth-spared mappings action i old spared.change) may

  -- the place after a step that leaves it
  same_place : (h next : Machine) (x : Place) (v : Option ℕ) → next.blocks ≡ h.blocks → next.volume ≡ h.volume → next.files ≡ h.files → PlaceKeeps h x v → PlaceKeeps next x v
  same_place h next (of_volume i) v blocks volume files keeps = subst (λ p. VolumeKeeps since p i v) {x = h.volume} (sym volume) keeps
  same_place h next (of_blocks i) v blocks volume files keeps = subst (λ bs. HasOrLost since.lost (block_has (nth bs (i / 512)) (i % 512)) v) {x = h.blocks} (sym blocks) keeps
  same_place h next (of_file name i) v blocks volume files keeps = subst (λ fs. FileKeeps since fs name i v) {x = h.files} (sym files) keeps

  pub altered_place : (h : Machine) (action : Action) (next : Machine) (x : Place) (v : Option ℕ) → Alters h action next → SparesPlace since h.geometry h.mappings action x → KeepsBytes action h.files
      → PlaceKeeps h x v → PlaceKeeps next x v
  altered_place h action next (of_volume i) v to spared fine keeps =
      subst (λ p. VolumeKeeps since p i v) {x = volume_after h.geometry action h.volume} (sym to.volume) (altered_volume h.geometry h.mappings action i v h.volume spared keeps)
  altered_place h action next (of_blocks i) v to spared fine keeps =
      subst (λ bs. HasOrLost since.lost (block_has (nth bs (i / 512)) (i % 512)) v) {x = blocks_after action h.blocks} (sym to.blocks)
      (altered_blocks h.geometry h.mappings action i v h.blocks spared keeps)
  altered_place h action next (of_file name i) v to spared fine keeps =
      subst (λ fs. FileKeeps since fs name i v) {x = files_made h.mappings action h.files} (sym to.files) (file_altered since h.geometry action name i v h.mappings h.files spared fine keeps)

  returned_place : (h next : Machine) (x : Place) (v : Option ℕ) → since.cut ≡ true → Returns h next → SparedBy since h.geometry h.mappings h.interrupted x → KeptBy h.interrupted h.files → PlaceKeeps h x v → PlaceKeeps next x v
  returned_place h next (of_volume i) v cuts back spared fine keeps =
      subst (λ p. VolumeKeeps since p i v) (sym back.volume)
      (keeps-read since back.choice (volume_line h.geometry) back.image (presence_read h.geometry back.image.word) i v back.may.left cuts
      (volume_left h.geometry h.mappings h.interrupted i v h.volume back.may.left spared keeps back.may.may) back.may.there back.may.volume)
  returned_place h next (of_blocks i) v cuts back spared fine keeps =
      subst (λ bs. HasOrLost since.lost (block_has (nth bs (i / 512)) (i % 512)) v) {x = blocks_read h.geometry back.image.is_bad back.image.word} (sym back.blocks)
      (subst (λ b. HasOrLost since.lost (block_has b (i % 512)) v) (sym (blocks_left h.geometry h.mappings h.interrupted i h.blocks _ spared back.may.blocks)) keeps)
  returned_place h next (of_file name i) v cuts back spared fine keeps =
      subst (λ fs. FileKeeps since fs name i v) (sym back.files)
      (file_read since back.choice h.geometry back.image name i v back.may.files_left cuts back.may.files
      (file_left since h.geometry h.mappings h.interrupted name i v h.files back.may.files_left spared fine back.may.may_files keeps))

  remounted_place : (h next : Machine) (x : Place) (v : Option ℕ) → Remounts h next → SparedBy since h.geometry h.mappings h.interrupted x → KeptBy h.interrupted h.files → PlaceKeeps h x v → PlaceKeeps next x v
  remounted_place h next (of_volume i) v back spared fine keeps = volume_left h.geometry h.mappings h.interrupted i v h.volume next.volume spared keeps back.volume
  remounted_place h next (of_blocks i) v back spared fine keeps =
      subst (λ b. HasOrLost since.lost (block_has b (i % 512)) v) (sym (blocks_left h.geometry h.mappings h.interrupted i h.blocks next.blocks spared back.blocks)) keeps
  remounted_place h next (of_file name i) v back spared fine keeps =
      file_left since h.geometry h.mappings h.interrupted name i v h.files next.files spared fine back.files keeps

  -- an action that does nothing to any place, or was begun
  spared_when : (geo : Geometry) (mappings : List Mapping) (action : Action) (x : Place) (answer : Answer) → BringsBytes action
      → (is_begun answer ≡ true → SparesPlace since geo mappings action x) → IsDone answer ⊎ TouchesNothing action → SparesPlace since geo mappings action x
  spared_when geo mappings action x answer small spares (inl done) = spares (done_begun answer done)
  spared_when geo mappings action x answer small spares (inr none) = record {
    change = none.change mappings x;
    brings = small;
    poison = λ does. absurd (both_ways _ (none.poison x) does);
    weaken = λ does. absurd (both_ways _ (none.weaken x) does);
    cover = λ does. absurd (both_ways _ (none.cover geo mappings x) does);
  }

  -- what is interrupted stays
  spared_as : (h next : Machine) (x : Place) → next.geometry ≡ h.geometry → next.mappings ≡ h.mappings → (o : Option Action) → next.interrupted ≡ o
      → SparedBy since h.geometry h.mappings o x → SparedBy since next.geometry next.mappings next.interrupted x
  spared_as h next x geometry mappings o interrupted spared =
      subst (λ g. SparedBy since g next.mappings next.interrupted x) (sym geometry)
      (subst (λ ms. SparedBy since h.geometry ms next.interrupted x) {x = h.mappings} (sym mappings) (subst (λ p. SparedBy since h.geometry h.mappings p x) (sym interrupted) spared))

  fine_as : (h next : Machine) → next.files ≡ h.files → next.interrupted ≡ h.interrupted → KeptBy h.interrupted h.files → KeptBy next.interrupted next.files
  fine_as h next files interrupted fine =
      subst (KeptBy next.interrupted) {x = h.files} (sym files) (subst (λ o. KeptBy o h.files) (sym interrupted) fine)

  -- A step that spares the place keeps its byte, unless nothing is there after it.
  pub keeps-step : (h : Machine) (action : Action) (answer : Answer) (next : Machine) (x : Place) (v : Option ℕ) → BringsBytes action
      → (is_begun answer ≡ true → SparesPlace since h.geometry h.mappings action x) → (h.mode ≡ Off → since.cut ≡ true) → Keeps h x v
      → Step h action answer next → Keeps next x v ⊎ HasNothing next
  keeps-step h action answer next x v small spares off keeps (idles why to) = inl (record {
    place = same_place h next x v to.blocks to.volume to.files keeps.place;
    spared = spared_as h next x to.geometry to.mappings h.interrupted to.interrupted keeps.spared;
    fine = fine_as h next to.files to.interrupted keeps.fine;
    settled = λ on. to.interrupted ∙ keeps.settled (to.mode on);
  })
  keeps-step h action answer next x v small spares off keeps (alters begun none to) = inl (record {
    place = altered_place h action next x v to (spared_when h.geometry h.mappings action x answer small spares begun) (keeps_bytes h action none) keeps.place;
    spared = subst (λ o. SparedBy since next.geometry next.mappings o x) (sym (to.interrupted ∙ keeps.settled (is_on h action to.needs none))) tt;
    fine = subst (λ o. KeptBy o next.files) (sym (to.interrupted ∙ keeps.settled (is_on h action to.needs none))) tt;
    settled = λ on. to.interrupted ∙ keeps.settled (sym to.mode ∙ on);
  })
  keeps-step h action answer next x v small spares off keeps (stops by is none to) = inl (record {
    place = same_place h next x v to.blocks to.volume to.files keeps.place;
    spared = spared_as h next x to.geometry to.mappings (Some action) to.interrupted (spares (ap is_begun is ∙ stop_begun by));
    fine = subst (KeptBy next.interrupted) {x = h.files} (sym to.files) (subst (λ o. KeptBy o h.files) {x = Some action} (sym to.interrupted) (keeps_bytes h action none));
    settled = λ on. absurd (to.mode on);
  })
  keeps-step h action answer next x v small spares off keeps (returns covers_nothing back) = inl (record {
    place = returned_place h next x v (off back.off) back keeps.spared keeps.fine keeps.place;
    spared = subst (λ o. SparedBy since next.geometry next.mappings o x) (sym back.interrupted) tt;
    fine = subst (λ o. KeptBy o next.files) (sym back.interrupted) tt;
    settled = λ on. back.interrupted;
  })
  keeps-step h action answer next x v small spares off keeps (remounts covers_nothing back) = inl (record {
    place = remounted_place h next x v back keeps.spared keeps.fine keeps.place;
    spared = subst (λ o. SparedBy since next.geometry next.mappings o x) (sym back.interrupted) tt;
    fine = subst (λ o. KeptBy o next.files) (sym back.interrupted) tt;
    settled = λ on. back.interrupted;
  })
  keeps-step h action answer next x v small spares off keeps (empties covers_nothing to) = inr to.nothing
