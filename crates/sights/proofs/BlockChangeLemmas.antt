-- What a command that is done makes of blocks, as reads see them.
use Rattle.std.proofs.Common.{◌≡◌, ℕ, ◌<◌, ◌||◌, nat_le, nat_lt, Bool, true, false, cond, Option, Some, None, List, [], ◌∷◌, length, refl, ap, arith}
use Rattle.nvm_model.specs.Blocks.{nth}
use Rattle.nvm_model.specs.Storage.{Block}
use Rattle.nvm_model.specs.Storage.Block.{Absent, Data, Scarred}
use Rattle.block_sights.specs.Sights.{sight}
use Rattle.block_sights.proofs.LostLemmas.{block_lost}
use Rattle.block_sights.proofs.WrittenLemmas.{made_seen, ranges_seen, written_seen}
use Rattle.script_text.specs.Action.{Action}
use Rattle.script_text.specs.Action.Action.{BRead, BWrite, BAtomic, BMulti, BDiscard, BDiscardIf, BExists, BScar, VLoad, VStore, VSync, VRanges, VPSync, VDiscard, VDiscardIf, VExists, Create, Delete, Rename, Resize, ListFiles, FRead, FWrite, FAtomic, FMulti, FDiscard, FSync, Map, Unmap, Load, Store, Sync, Flush, FlushVerify, DeepFlush, NextEvent, CheckFile, PoisonBlock, PoisonVolume, PoisonFile, PoisonMeta, WeakenFile, WeakenVolume, ClearFile, ClearVolume, Cut, CutIn, FailIn, Restart, Recover, Attr, Evict}
use Rattle.marked_lines.specs.Refusals.{block_refusal, unit_refusal}
use Rattle.marked_lines.specs.Refusals.ScrubRefusal.{Range}
use Rattle.asked_reads.specs.MachineModel.declared.look.Look.TheVariants.{Once, Again}
use Rattle.asked_reads.specs.MachineModel.Machine.{Machine}
use Rattle.asked_reads.specs.MachineModel.Commands.{meaning, refusal}
use Rattle.asked_reads.specs.MachineModel.OnBlocks.{blocks_from}
use Rattle.asked_reads.specs.MachineModel.OnFlushes.{flush_through}
use Rattle.asked_reads.specs.MachineModel.OnMappings.{load_through, store_through}
use Rattle.asked_reads.specs.MachineModel.OnMedia.{line_answer}
use Rattle.asked_reads.specs.Outcomes.Stops.{led_to}
use Rattle.asked_reads.specs.Durable.Durable.{HasEightLines, HaveEightLines}
use Rattle.sights.specs.ChangingBlocks.{block_changed}
use Rattle.sights.proofs.AsideLemmas.{IsAside, by_mapping, flush_aside, load_aside, map_aside, store_aside}
use Rattle.sights.proofs.VolumeChangeLemmas.{none_mapped, places_right}

-- a block of which a line is lost has its lines
lines_found : (past big : Bool) (block : Block) (line : ℕ) → nat_lt 7 line ≡ big → HasEightLines block → cond (past || big) (Some Range) (unit_refusal block) ≡ None
    → (lines : List (Option (List ℕ))) × (block ≡ Data lines) × (line < length lines)
lines_found true big block line far eight is = cc is
lines_found false true block line far eight is = cc is
lines_found false false Absent line far eight is = cc is
lines_found false false Scarred line far eight is = cc is
lines_found false false (Data lines) line far eight is = (lines, refl, grind arith)

has_lines : (h : Machine) (block line : ℕ) → HaveEightLines h.blocks → refusal h (PoisonBlock block line) ≡ None
    → (lines : List (Option (List ℕ))) × (nth h.blocks block ≡ Data lines) × (line < length lines)
has_lines h block line eight allowed =
    lines_found (nat_le h.geometry.blocks block) (nat_lt 7 line) (nth h.blocks block) line refl (eight block)
    (none_mapped line_answer (block_refusal h.geometry.blocks h.blocks block line) (places_right h (PoisonBlock block line) allowed))

beside : (h to : Machine) (b : ℕ) → IsAside h to → sight (nth to.blocks b) ≡ sight (nth h.blocks b)
beside h to b is = ap (λ blocks. sight (nth blocks b)) is.blocks

pub blocks_changed : (h : Machine) (action : Action) (b : ℕ) → refusal h action ≡ None → HaveEightLines h.blocks → b < length h.blocks
    → sight (nth (led_to h ((meaning action).comes h)).blocks b) ≡ block_changed action b (sight (nth h.blocks b))
blocks_changed h (BRead block count) b allowed eight within = refl
blocks_changed h (BWrite block bytes) b allowed eight within = written_seen block bytes h.blocks b within
blocks_changed h (BAtomic block bytes) b allowed eight within = written_seen block bytes h.blocks b within
blocks_changed h (BMulti ranges bytes) b allowed eight within = ranges_seen ranges bytes h.blocks b within
blocks_changed h (BDiscard block count) b allowed eight within = made_seen (blocks_from block count) Absent h.blocks b within
blocks_changed h (BDiscardIf block count) b allowed eight within = made_seen (blocks_from block count) Absent h.blocks b within
blocks_changed h (BExists block) b allowed eight within = refl
blocks_changed h (BScar ranges) b allowed eight within = made_seen ranges Scarred h.blocks b within
blocks_changed h (VLoad offset len) b allowed eight within = refl
blocks_changed h (VStore offset bytes) b allowed eight within = refl
blocks_changed h (VSync offset len) b allowed eight within = refl
blocks_changed h VRanges b allowed eight within = refl
blocks_changed h (VPSync address len) b allowed eight within = refl
blocks_changed h (VDiscard page count) b allowed eight within = refl
blocks_changed h (VDiscardIf page count) b allowed eight within = refl
blocks_changed h (VExists page) b allowed eight within = refl
blocks_changed h (Create name pages) b allowed eight within = refl
blocks_changed h (Delete name) b allowed eight within = refl
blocks_changed h (Rename name to) b allowed eight within = refl
blocks_changed h (Resize name pages) b allowed eight within = refl
blocks_changed h ListFiles b allowed eight within = refl
blocks_changed h (FRead name offset len) b allowed eight within = refl
blocks_changed h (FWrite name offset bytes) b allowed eight within = refl
blocks_changed h (FAtomic name offset bytes) b allowed eight within = refl
blocks_changed h (FMulti name ranges bytes) b allowed eight within = refl
blocks_changed h (FDiscard name page count) b allowed eight within = refl
blocks_changed h (FSync name) b allowed eight within = refl
blocks_changed h (Map name span kind) b allowed eight within = beside h _ b (map_aside h name span kind)
blocks_changed h (Unmap handle) b allowed eight within = refl
blocks_changed h (Load handle offset len) b allowed eight within = beside h _ b (by_mapping h handle (load_through offset len) (load_aside h offset len))
blocks_changed h (Store handle offset bytes) b allowed eight within = beside h _ b (by_mapping h handle (store_through handle offset bytes) (store_aside h handle offset bytes))
blocks_changed h (Sync handle offset len) b allowed eight within = beside h _ b (by_mapping h handle (flush_through Once (record { start = offset; len = len } ∷ [])) (flush_aside h Once (record { start = offset; len = len } ∷ [])))
blocks_changed h (Flush handle spans) b allowed eight within = beside h _ b (by_mapping h handle (flush_through Once spans) (flush_aside h Once spans))
blocks_changed h (FlushVerify handle spans) b allowed eight within = beside h _ b (by_mapping h handle (flush_through Again spans) (flush_aside h Again spans))
blocks_changed h (DeepFlush handle spans) b allowed eight within = beside h _ b (by_mapping h handle (flush_through Once spans) (flush_aside h Once spans))
blocks_changed h NextEvent b allowed eight within = refl
blocks_changed h (CheckFile name offset len) b allowed eight within = refl
blocks_changed h (PoisonBlock block line) b allowed eight within = let there = has_lines h block line eight allowed in block_lost block line there.0 h.blocks b there.1 there.2
blocks_changed h (PoisonVolume offset) b allowed eight within = refl
blocks_changed h (PoisonFile name offset) b allowed eight within = refl
blocks_changed h (PoisonMeta line) b allowed eight within = refl
blocks_changed h (WeakenFile name offset) b allowed eight within = refl
blocks_changed h (WeakenVolume offset) b allowed eight within = refl
blocks_changed h (ClearFile name offset) b allowed eight within = refl
blocks_changed h (ClearVolume offset) b allowed eight within = refl
blocks_changed h Cut b allowed eight within = refl
blocks_changed h (CutIn calls) b allowed eight within = refl
blocks_changed h (FailIn calls) b allowed eight within = refl
blocks_changed h (Restart choice) b allowed eight within = refl
blocks_changed h Recover b allowed eight within = refl
blocks_changed h (Attr name) b allowed eight within = refl
blocks_changed h (Evict lines) b allowed eight within = refl
