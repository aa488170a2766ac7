-- What a command that is done makes of the lines of the volume.
use Rattle.std.proofs.Common.{◌≡◌, ℕ, ◌*◌, ◌/◌, ◌<◌, nat_le, Bool, true, false, cond, Option, Some, None, option_map, [], ◌∷◌, length, refl, sym, ap, ◌∙◌}
use Rattle.nvm_model.specs.Blocks.{first_there}
use Rattle.nvm_model.specs.Cell.{Cell, clear_cell, lose_cell, weaken_cell}
use Rattle.nvm_model.specs.Page.{cell_of}
use Rattle.pm_volume.specs.Refusals.{physical_offset}
use Rattle.script_text.specs.Action.{Action}
use Rattle.script_text.specs.Action.Action.{BRead, BWrite, BAtomic, BMulti, BDiscard, BDiscardIf, BExists, BScar, VLoad, VStore, VSync, VRanges, VPSync, VDiscard, VDiscardIf, VExists, Create, Delete, Rename, Resize, ListFiles, FRead, FWrite, FAtomic, FMulti, FDiscard, FSync, Map, Unmap, Load, Store, Sync, Flush, FlushVerify, DeepFlush, NextEvent, CheckFile, PoisonBlock, PoisonVolume, PoisonFile, PoisonMeta, WeakenFile, WeakenVolume, ClearFile, ClearVolume, Cut, CutIn, FailIn, Restart, Recover, Attr, Evict}
use Rattle.marked_lines.specs.Refusals.{cell_refusal, clear_refusal, line_refusal, place_refusal}
use Rattle.marked_lines.specs.Refusals.ScrubRefusal.{Range}
use Rattle.asked_reads.specs.MachineModel.declared.look.Look.TheVariants.{Once, Again}
use Rattle.asked_reads.specs.MachineModel.Machine.{Machine}
use Rattle.asked_reads.specs.MachineModel.Commands.{meaning, refusal}
use Rattle.asked_reads.specs.MachineModel.Meaning.{metadata_refusal, mode_refusal}
use Rattle.asked_reads.specs.MachineModel.OnFlushes.{flush_through}
use Rattle.asked_reads.specs.MachineModel.OnMappings.{load_through, store_through}
use Rattle.asked_reads.specs.MachineModel.OnMedia.{line_answer}
use Rattle.asked_reads.specs.MachineModel.OnVolume.{persist_at}
use Rattle.asked_reads.specs.Outcomes.Stops.{led_to}
use Rattle.asked_reads.specs.Durable.Durable.{HaveLines}
use Rattle.sights.specs.Changing.{line_changed, persisted_at, volume_change}
use Rattle.sights.specs.Seeing.{seen}
use Rattle.sights.proofs.AsideLemmas.{IsAside, by_mapping, flush_aside, load_aside, map_aside, store_aside}
use Rattle.sights.proofs.SeenLemmas.{seen-change, seen-discard, seen-persist, seen-put}
pub use Rattle.nvm_base.proofs.FirstLemmas.{not_mapped as none_mapped}

pub none_first : {A : Type 0} (a b : Option A) → first_there a b ≡ None → a ≡ None
none_first None b is = refl
none_first (Some x) b is = is

pub none_second : {A : Type 0} (a b : Option A) → first_there a b ≡ None → b ≡ None
none_second None b is = is
none_second (Some x) b is = cc is

-- no place is wrong of what is not refused
pub places_right : (h : Machine) (action : Action) → refusal h action ≡ None → ((meaning action).reasons h).places ≡ None
unfolding refusal
places_right h action allowed =
    let r = (meaning action).reasons h in
    none_first r.places (first_there r.full (first_there (metadata_refusal r.changes_metadata h.bad_meta) r.unreadable))
    (none_second r.named _ (none_second (mode_refusal h.mode h.bad_meta (meaning action).needs) _ allowed))

-- so a line that is marked is there
pub line_found : (past : Bool) (o : Option Cell) → cond past (Some Range) (cell_refusal o) ≡ None → (cell : Cell) × (o ≡ Some cell)
line_found true o is = cc is
line_found false None is = cc is
line_found false (Some cell) is = (cell, refl)

placed : (h : Machine) (action : Action) (offset : ℕ) → ((meaning action).reasons h).places ≡ option_map line_answer (place_refusal h.geometry h.volume offset)
    → refusal h action ≡ None → (cell : Cell) × (cell_of h.volume (offset / 64) ≡ Some cell)
placed h action offset is allowed =
    line_found (nat_le (4096 * h.geometry.vpages) offset) (cell_of h.volume (offset / 64))
    (none_mapped line_answer (place_refusal h.geometry h.volume offset) (sym is ∙ places_right h action allowed))

pub bad_found : (past : Bool) (o : Option Cell) → cond past (Some Range) (line_refusal o) ≡ None → (cell : Cell) × (o ≡ Some cell)
bad_found true o is = cc is
bad_found false None is = cc is
bad_found false (Some cell) is = (cell, refl)

healed : (h : Machine) (offset : ℕ) → refusal h (ClearVolume offset) ≡ None → (cell : Cell) × (cell_of h.volume (offset / 64) ≡ Some cell)
healed h offset allowed =
    bad_found (nat_le (4096 * h.geometry.vpages) offset) (cell_of h.volume (offset / 64))
    (none_mapped line_answer (clear_refusal h.geometry h.volume offset) (places_right h (ClearVolume offset) allowed))

at_address : (h : Machine) (o : Option ℕ) (len n : ℕ) → seen (persist_at o len h.volume) n ≡ line_changed (persisted_at o len) n (seen h.volume n)
at_address h None len n = refl
at_address h (Some offset) len n = seen-persist offset len h.volume n

beside : (h to : Machine) (n : ℕ) → IsAside h to → seen to.volume n ≡ seen h.volume n
beside h to n is = ap (λ pages. seen pages n) is.volume

pub volume_changed : (h : Machine) (action : Action) (n : ℕ) → refusal h action ≡ None → HaveLines h.volume → n / 64 < length h.volume
    → seen (led_to h ((meaning action).comes h)).volume n ≡ line_changed (volume_change h.geometry action) n (seen h.volume n)
volume_changed h (BRead block count) n allowed whole within = refl
volume_changed h (BWrite block bytes) n allowed whole within = refl
volume_changed h (BAtomic block bytes) n allowed whole within = refl
volume_changed h (BMulti ranges bytes) n allowed whole within = refl
volume_changed h (BDiscard block count) n allowed whole within = refl
volume_changed h (BDiscardIf block count) n allowed whole within = refl
volume_changed h (BExists block) n allowed whole within = refl
volume_changed h (BScar ranges) n allowed whole within = refl
volume_changed h (VLoad offset len) n allowed whole within = refl
volume_changed h (VStore offset bytes) n allowed whole within = seen-put offset bytes h.volume n whole within
volume_changed h (VSync offset len) n allowed whole within = seen-persist offset len h.volume n
volume_changed h VRanges n allowed whole within = refl
volume_changed h (VPSync address len) n allowed whole within = at_address h (physical_offset h.geometry address len) len n
volume_changed h (VDiscard page count) n allowed whole within = seen-discard page count h.volume n
volume_changed h (VDiscardIf page count) n allowed whole within = seen-discard page count h.volume n
volume_changed h (VExists page) n allowed whole within = refl
volume_changed h (Create name pages) n allowed whole within = refl
volume_changed h (Delete name) n allowed whole within = refl
volume_changed h (Rename name to) n allowed whole within = refl
volume_changed h (Resize name pages) n allowed whole within = refl
volume_changed h ListFiles n allowed whole within = refl
volume_changed h (FRead name offset len) n allowed whole within = refl
volume_changed h (FWrite name offset bytes) n allowed whole within = refl
volume_changed h (FAtomic name offset bytes) n allowed whole within = refl
volume_changed h (FMulti name ranges bytes) n allowed whole within = refl
volume_changed h (FDiscard name page count) n allowed whole within = refl
volume_changed h (FSync name) n allowed whole within = refl
volume_changed h (Map name span kind) n allowed whole within = beside h _ n (map_aside h name span kind)
volume_changed h (Unmap handle) n allowed whole within = refl
volume_changed h (Load handle offset len) n allowed whole within = beside h _ n (by_mapping h handle (load_through offset len) (load_aside h offset len))
volume_changed h (Store handle offset bytes) n allowed whole within = beside h _ n (by_mapping h handle (store_through handle offset bytes) (store_aside h handle offset bytes))
volume_changed h (Sync handle offset len) n allowed whole within = beside h _ n (by_mapping h handle (flush_through Once (record { start = offset; len = len } ∷ [])) (flush_aside h Once (record { start = offset; len = len } ∷ [])))
volume_changed h (Flush handle spans) n allowed whole within = beside h _ n (by_mapping h handle (flush_through Once spans) (flush_aside h Once spans))
volume_changed h (FlushVerify handle spans) n allowed whole within = beside h _ n (by_mapping h handle (flush_through Again spans) (flush_aside h Again spans))
volume_changed h (DeepFlush handle spans) n allowed whole within = beside h _ n (by_mapping h handle (flush_through Once spans) (flush_aside h Once spans))
volume_changed h NextEvent n allowed whole within = refl
volume_changed h (CheckFile name offset len) n allowed whole within = refl
volume_changed h (PoisonBlock block line) n allowed whole within = refl
volume_changed h (PoisonVolume offset) n allowed whole within = let there = placed h (PoisonVolume offset) offset refl allowed in seen-change lose_cell (offset / 64) h.volume n there.0 there.1
volume_changed h (PoisonFile name offset) n allowed whole within = refl
volume_changed h (PoisonMeta line) n allowed whole within = refl
volume_changed h (WeakenFile name offset) n allowed whole within = refl
volume_changed h (WeakenVolume offset) n allowed whole within = let there = placed h (WeakenVolume offset) offset refl allowed in seen-change weaken_cell (offset / 64) h.volume n there.0 there.1
volume_changed h (ClearFile name offset) n allowed whole within = refl
volume_changed h (ClearVolume offset) n allowed whole within = let there = healed h offset allowed in seen-change clear_cell (offset / 64) h.volume n there.0 there.1
volume_changed h Cut n allowed whole within = refl
volume_changed h (CutIn calls) n allowed whole within = refl
volume_changed h (FailIn calls) n allowed whole within = refl
volume_changed h (Restart choice) n allowed whole within = refl
volume_changed h Recover n allowed whole within = refl
volume_changed h (Attr name) n allowed whole within = refl
volume_changed h (Evict lines) n allowed whole within = refl
