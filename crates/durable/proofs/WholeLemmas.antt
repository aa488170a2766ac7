-- Whole states lead to whole states.
use Rattle.std.proofs.Common.{◌≡◌, ◌⊎◌, inl, inr, ℕ, ◌/◌, ◌==◌, Bool, Option, Some, None, List, [], ◌∷◌, length, take, drop, refl, sym, ap, subst, ◌∙◌}
use Rattle.std.proofs.lemmas.List.{length-map}
use Rattle.line_device.specs.Panel.{Image}
use Rattle.word_tables.specs.declared.geometry.Geometry.{Geometry}
use Rattle.word_tables.specs.Layout.{total_lines, volume_line}
use Rattle.nvm_model.specs.Cell.{clear_cell, lose_cell, weaken_cell}
use Rattle.nvm_model.specs.Page.{Page, fill, is_present, presence_of, read_pages}
use Rattle.nvm_model.proofs.NumberedLemmas.{length-list_from, length-map_from}
use Rattle.nvm_model.proofs.PageLemmas.{length-discard, length-fill, length-persist, length-put_fill, length-read_pages}
use Rattle.nvm_model.proofs.LostLemmas.{length-lose}
use Rattle.nvm_model.proofs.MediaLemmas.{length-change as length-change_line}
use Rattle.nvm_base.specs.declared.units.Span.{Span}
use Rattle.nvm_model.specs.Blocks.{change, change_block, nth, write, write_block, write_ranges}
use Rattle.nvm_model.specs.Storage.{Block}
use Rattle.nvm_model.specs.Storage.Block.{Absent, Scarred}
use Rattle.block_device.specs.Reading.{block_read, blocks_read, states_read}
use Rattle.machine_model.specs.OnBlocks.{blocks_from}
use Rattle.reply_text.specs.Answer.{Answer}
use Rattle.script_text.specs.Action.{Action}
use Rattle.script_text.specs.Action.Action.{BWrite, BAtomic, BMulti, BDiscard, BDiscardIf, BScar, VStore, VSync, VPSync, VDiscard, VDiscardIf, PoisonBlock, PoisonVolume, WeakenVolume, ClearVolume}
use Rattle.script_text.specs.Script.{Input}
use Rattle.script_text.specs.Script.Input.{Skipped, Malformed, Overlong, Asked}
use Rattle.machine_model.specs.Machine.{Machine}
use Rattle.machine_model.specs.Commands.{LeavesBlocks, LeavesVolume, MayLeaveBlocks, MayLeaveVolume, meaning}
use Rattle.machine_model.specs.Lines.{bad_metadata}
use Rattle.machine_model.specs.Meaning.{BlocksLeft, VolumeLeft}
use Rattle.machine_model.specs.Meaning.BlocksLeft.{Same, Either, Mixed}
use Rattle.machine_model.specs.Meaning.VolumeLeft.{Kept as Unchanged, PartStored, PartSynced, AllOrNone, PageByPage}
use Rattle.machine_model.specs.Restarting.{fresh, read_with, reading, stopped_by, zero_image}
use Rattle.machine_model.specs.declared.mode.Mode.TheVariants.{On, Stopped}
use Rattle.machine_model.specs.OnVolume.{persist_at}
use Rattle.pm_volume.specs.Presence.{presence_read, words_read}
use Rattle.pm_volume.specs.Refusals.{physical_offset}
use Rattle.machine_model.specs.Run.{Hears, Run, Transcript}
use Rattle.durable.specs.Durable.{AllHaveLines, HasEightLines, HasNothing, HaveEightLines, HaveLines, IsComplete, IsCounted}
use Rattle.durable.proofs.EightLemmas.{eight-altered, eight-left, eight-read}
use Rattle.durable.proofs.ThereLemmas.{lines-altered, lines-left, lines-read}
use Rattle.durable.proofs.FileThereLemmas.{lines-files_altered, lines-files_left, lines-files_read}
use Rattle.durable.proofs.RefusalLemmas.{is_on}
use Rattle.durable.proofs.StepKinds.{Alters, Remounts, Returns, Step, blocks_after, files_made, volume_after}
use Rattle.durable.proofs.StepLemmas.{nothing_idle, nothing_stopped, step_of}
use Rattle.durable.proofs.StepKinds.Step.{idles, alters, stops, returns, remounts, empties}

-- how many pages there are
length-persist_at : (o : Option ℕ) (len : ℕ) (pages : List Page) → length (persist_at o len pages) ≡ length pages
length-persist_at None len pages = refl
length-persist_at (Some start) len pages = length-persist start len pages

pub pages-made : (geo : Geometry) (action : Action) (pages : List Page) → length ((meaning action).volume geo pages) ≡ length pages
pages-made geo (VStore offset bytes) pages = length-put_fill offset (length bytes) bytes pages
pages-made geo (VSync offset len) pages = length-persist offset len pages
pages-made geo (VPSync address len) pages = length-persist_at (physical_offset geo address len) len pages
pages-made geo (VDiscard page count) pages = length-discard page count pages
pages-made geo (VDiscardIf page count) pages = length-discard page count pages
pages-made geo (ClearVolume offset) pages = length-change_line clear_cell (offset / 64) pages
pages-made geo action pages = refl

pages-altered : (geo : Geometry) (action : Action) (pages : List Page) → length (volume_after geo action pages) ≡ length pages
pages-altered geo (PoisonVolume offset) pages = length-change_line lose_cell (offset / 64) pages
pages-altered geo (WeakenVolume offset) pages = length-change_line weaken_cell (offset / 64) pages
pages-altered geo action pages = pages-made geo action pages

-- and those that an interruption leaves
pub pages-there : (old new : List Page) → presence_of new ≡ presence_of old → length new ≡ length old
pages-there old new there = sym (length-map new is_present) ∙ ap length there ∙ length-map old is_present

pages-leaves : (left : VolumeLeft) (pages to new : List Page) → length to ≡ length pages → LeavesVolume left pages to new → length new ≡ length pages
pages-leaves Unchanged pages to new same is = ap length is
pages-leaves (PartStored offset bytes) pages to new same (inl is) = ap length is
pages-leaves (PartStored offset bytes) pages to new same (inr lines) =
    pages-there (fill offset (length bytes) pages) new lines.there ∙ length-fill offset (length bytes) pages
pages-leaves (PartSynced offset len) pages to new same lines = pages-there pages new lines.there
pages-leaves AllOrNone pages to new same (inl is) = ap length is
pages-leaves AllOrNone pages to new same (inr is) = ap length is ∙ same
pages-leaves PageByPage pages to new same may = may.length

pub pages-left : (geo : Geometry) (o : Option Action) (pages new : List Page) → MayLeaveVolume geo o pages new → length new ≡ length pages
pages-left geo None pages new is = ap length is
pages-left geo (Some action) pages new may =
    pages-leaves ((meaning action).volume_left geo) pages ((meaning action).volume geo pages) new (pages-made geo action pages) may

pages-read : (geo : Geometry) (image : Image) → length (read_pages (volume_line geo) image (presence_read geo image.word)) ≡ geo.vpages
unfolding words_read
pages-read geo image =
    length-read_pages (volume_line geo) image (presence_read geo image.word) ∙ length-map (words_read geo image.word) (λ w. w == 1) ∙ length-list_from _ 0 geo.vpages

length-write : (at : ℕ) (bytes : List ℕ) (blocks : List Block) → length (write at bytes blocks) ≡ length blocks
unfolding write
length-write at bytes blocks = length-map_from (write_block at bytes) 0 blocks

length-write_ranges : (ranges : List Span) (bytes : List ℕ) (blocks : List Block) → length (write_ranges ranges bytes blocks) ≡ length blocks
length-write_ranges [] bytes blocks = refl
length-write_ranges (range ∷ ranges) bytes blocks =
    length-write_ranges ranges (drop range.len bytes) (write range.start (take range.len bytes) blocks) ∙ length-write range.start (take range.len bytes) blocks

length-change : (spans : List Span) (to : Block) (blocks : List Block) → length (change spans to blocks) ≡ length blocks
unfolding change
length-change spans to blocks = length-map_from (change_block spans to) 0 blocks

pub length-made : (action : Action) (blocks : List Block) → length ((meaning action).blocks blocks) ≡ length blocks
length-made (BWrite block bytes) blocks = length-write block bytes blocks
length-made (BAtomic block bytes) blocks = length-write block bytes blocks
length-made (BMulti ranges bytes) blocks = length-write_ranges ranges bytes blocks
length-made (BDiscard block count) blocks = length-change (blocks_from block count) Absent blocks
length-made (BDiscardIf block count) blocks = length-change (blocks_from block count) Absent blocks
length-made (BScar ranges) blocks = length-change ranges Scarred blocks
length-made action blocks = refl

length-altered : (action : Action) (blocks : List Block) → length (blocks_after action blocks) ≡ length blocks
length-altered (PoisonBlock block line) blocks = length-lose block line blocks
length-altered action blocks = length-made action blocks

length-leaves : (left : BlocksLeft) (old to new : List Block) → length to ≡ length old → LeavesBlocks left old to new → length new ≡ length old
length-leaves Same old to new same is = ap length is
length-leaves Either old to new same (inl is) = ap length is
length-leaves Either old to new same (inr is) = ap length is ∙ same
length-leaves Mixed old to new same may = may.length

pub length-left : (o : Option Action) (old new : List Block) → MayLeaveBlocks o old new → length new ≡ length old
length-left None old new is = ap length is
length-left (Some action) old new may = length-leaves (meaning action).blocks_left old ((meaning action).blocks old) new (length-made action old) may

length-read : (geo : Geometry) (bad : ℕ → Bool) (word : ℕ → ℕ) → length (blocks_read geo bad word) ≡ geo.blocks
unfolding blocks_read states_read
length-read geo bad word = length-map (states_read geo word) (block_read geo bad word) ∙ length-list_from _ 0 geo.blocks

-- in mode On all are there
pub counted_on : (h : Machine) → IsComplete h → h.mode ≡ On → IsCounted h
counted_on h whole on = elim whole.counted as (λ _. IsCounted h) [ inl counted ↦ counted | inr nothing ↦ absurd (nothing.mode on) ]

-- a step that leaves blocks and volume
same_storage : (h next : Machine) → IsComplete h → next.geometry ≡ h.geometry → next.blocks ≡ h.blocks → next.volume ≡ h.volume → next.files ≡ h.files → (HasNothing h → HasNothing next)
    → (next.mode ≡ On → next.interrupted ≡ None) → (next.mode ≡ Stopped → h.mode ≡ Stopped) → IsComplete next
same_storage h next whole geometry blocks volume files still settled stopped = record {
  counted = elim whole.counted as (λ _. IsCounted next ⊎ HasNothing next) [
    | inl counted ↦ inl (record {
      blocks = ap length blocks ∙ counted.blocks ∙ sym (ap (λ g. g.blocks) geometry);
      pages = ap length volume ∙ counted.pages ∙ sym (ap (λ g. g.vpages) geometry);
    })
    | inr nothing ↦ inr (still nothing)
  ];
  eight = subst HaveEightLines {x = h.blocks} (sym blocks) whole.eight;
  lines = subst HaveLines {x = h.volume} (sym volume) whole.lines;
  file_lines = subst AllHaveLines {x = h.files} (sym files) whole.file_lines;
  settled = settled;
  stopped = λ at. still (whole.stopped (stopped at));
}

-- nothing is there
empty_blocks : (n : ℕ) → HasEightLines (nth [] n)
empty_blocks n = tt

whole-nothing : (h : Machine) → HasNothing h → IsComplete h
whole-nothing h nothing = record {
  counted = inr nothing;
  eight = subst HaveEightLines {x = []} (sym nothing.blocks) empty_blocks;
  lines = subst HaveLines {x = []} (sym nothing.volume) (λ n there. cc there);
  file_lines = subst AllHaveLines {x = []} (sym nothing.files) tt;
  settled = λ on. absurd (nothing.mode on);
  stopped = λ at. nothing;
}

-- an action that is done in mode On
whole-altered : (h : Machine) (action : Action) (next : Machine) → IsComplete h → h.mode ≡ On → Alters h action next → IsComplete next
whole-altered h action next whole on to =
    let counted = counted_on h whole on in
    record {
      counted = inl (record {
        blocks = ap length to.blocks ∙ length-altered action h.blocks ∙ counted.blocks ∙ sym (ap (λ g. g.blocks) to.geometry);
        pages = ap length to.volume ∙ pages-altered h.geometry action h.volume ∙ counted.pages ∙ sym (ap (λ g. g.vpages) to.geometry);
      });
      eight = subst HaveEightLines {x = blocks_after action h.blocks} (sym to.blocks) (eight-altered action h.blocks whole.eight);
      lines = subst HaveLines {x = volume_after h.geometry action h.volume} (sym to.volume) (lines-altered h.geometry action h.volume whole.lines);
      file_lines = subst AllHaveLines {x = files_made h.mappings action h.files} (sym to.files) (lines-files_altered action h.mappings h.files whole.file_lines);
      settled = λ at. to.interrupted ∙ whole.settled on;
      stopped = λ at. cc (at, to.mode, on);
    }

-- a mount
whole-returned : (h next : Machine) → Returns h next → IsComplete next
whole-returned h next back = record {
  counted = inl (record {
    blocks = ap length back.blocks ∙ length-read h.geometry back.image.is_bad back.image.word ∙ sym (ap (λ g. g.blocks) back.geometry);
    pages = ap length back.volume ∙ pages-read h.geometry back.image ∙ sym (ap (λ g. g.vpages) back.geometry);
  });
  eight = subst HaveEightLines (sym back.blocks) (eight-read h.geometry back.image.is_bad back.image.word);
  lines = subst HaveLines (sym back.volume) (lines-read (volume_line h.geometry) back.image (presence_read h.geometry back.image.word));
  file_lines = subst AllHaveLines (sym back.files) (lines-files_read h.geometry back.image);
  settled = λ on. back.interrupted;
  stopped = λ at. absurd (back.stopped at);
}

whole-remounted : (h next : Machine) → IsComplete h → Remounts h next → IsComplete next
whole-remounted h next whole back = record {
  counted = elim whole.counted as (λ _. IsCounted next ⊎ HasNothing next) [
    | inl counted ↦ inl (record {
      blocks = length-left h.interrupted h.blocks next.blocks back.blocks ∙ counted.blocks ∙ sym (ap (λ g. g.blocks) back.geometry);
      pages = pages-left h.geometry h.interrupted h.volume next.volume back.volume ∙ counted.pages ∙ sym (ap (λ g. g.vpages) back.geometry);
    })
    | inr nothing ↦ absurd (nothing.metadata back.metadata)
  ];
  eight = eight-left h.interrupted h.blocks next.blocks whole.eight back.blocks;
  lines = lines-left h.geometry h.interrupted h.volume next.volume whole.lines back.volume;
  file_lines = lines-files_left h.mappings h.interrupted h.files next.files whole.file_lines back.files;
  settled = λ on. back.interrupted;
  stopped = λ at. absurd (back.stopped at);
}

pub whole-step : (h : Machine) (action : Action) (answer : Answer) (next : Machine) → IsComplete h → Step h action answer next → IsComplete next
whole-step h action answer next whole (idles why to) =
    same_storage h next whole to.geometry to.blocks to.volume to.files (nothing_idle h next to) (λ on. to.interrupted ∙ whole.settled (to.mode on)) to.stopped
whole-step h action answer next whole (alters begun none to) = whole-altered h action next whole (is_on h action to.needs none) to
whole-step h action answer next whole (stops by is none to) =
    same_storage h next whole to.geometry to.blocks to.volume to.files (nothing_stopped h action next to) (λ on. absurd (to.mode on)) (λ at. absurd (to.stopped at))
whole-step h action answer next whole (returns covered back) = whole-returned h next back
whole-step h action answer next whole (remounts covered back) = whole-remounted h next whole back
whole-step h action answer next whole (empties covered to) = whole-nothing next to.nothing

-- a step, whatever is heard
pub whole-heard : (h : Machine) (input : Input) (said : Transcript) (next : Machine) → IsComplete h → Hears h input said next → IsComplete next
whole-heard h Skipped said next whole heard = subst IsComplete (sym heard.1) whole
whole-heard h Malformed said next whole heard = subst IsComplete (sym heard.1) whole
whole-heard h Overlong said next whole heard = subst IsComplete (sym heard.1) whole
whole-heard h (Asked action) said next whole heard =
    let taken = step_of h action said next heard in whole-step h action taken.answer next whole taken.step

pub whole-run : (inputs : List Input) (h later : Machine) (said : Transcript) → IsComplete h → Run h inputs said later → IsComplete later
whole-run [] h later said whole run = subst IsComplete (sym run.1) whole
whole-run (input ∷ inputs) h later said whole run =
    whole-run inputs run.2 later run.1 (whole-heard h input run.0 run.2 whole run.4) run.5

whole-armed : (bad : List ℕ) (geo : Geometry) (image : Image) (cut fail : Bool) → IsComplete (record (read_with bad geo image) { unit = image.unit; cut_armed = cut; fail_armed = fail })
whole-armed [] geo image cut fail = record {
  counted = inl (record { blocks = length-read geo image.is_bad image.word; pages = pages-read geo image });
  eight = eight-read geo image.is_bad image.word;
  lines = lines-read (volume_line geo) image (presence_read geo image.word);
  file_lines = lines-files_read geo image;
  settled = λ on. refl;
  stopped = λ at. cc at;
}
whole-armed (line ∷ lines) geo image cut fail =
    whole-nothing (record (stopped_by geo (line ∷ lines)) { unit = image.unit; cut_armed = cut; fail_armed = fail })
    (record { metadata = λ none. cc none; mode = λ on. cc on; blocks = refl; volume = refl; files = refl })

-- a machine that is read from an image
pub whole-reading : (geo : Geometry) (image : Image) (h : Machine) → h ≡ record (reading geo image) { cut_armed = h.cut_armed; fail_armed = h.fail_armed } → IsComplete h
unfolding reading
whole-reading geo image h is =
    subst IsComplete {x = record (reading geo image) { cut_armed = h.cut_armed; fail_armed = h.fail_armed }} (sym is)
    (whole-armed (bad_metadata geo image.is_bad) geo image h.cut_armed h.fail_armed)

-- and one over zeros
pub whole-fresh : (geo : Geometry) (h : Machine) → h ≡ record (fresh geo) { cut_armed = h.cut_armed; fail_armed = h.fail_armed } → IsComplete h
whole-fresh geo h is =
    subst IsComplete {x = record (fresh geo) { cut_armed = h.cut_armed; fail_armed = h.fail_armed }} (sym is)
    (whole-armed [] geo (zero_image (total_lines geo)) h.cut_armed h.fail_armed)
