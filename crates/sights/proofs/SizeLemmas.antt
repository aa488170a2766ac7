-- A command keeps the sizes, and the numbers of blocks and of pages of the volume.
use Rattle.std.proofs.Common.{◌≡◌, [], ◌∷◌, refl}
use Rattle.script_text.specs.Action.{Action}
use Rattle.script_text.specs.Action.Action.{BRead, BWrite, BAtomic, BMulti, BDiscard, BDiscardIf, BExists, BScar, VLoad, VStore, VSync, VRanges, VPSync, VDiscard, VDiscardIf, VExists, Create, Delete, Rename, Resize, ListFiles, FRead, FWrite, FAtomic, FMulti, FDiscard, FSync, Map, Unmap, Load, Store, Sync, Flush, FlushVerify, DeepFlush, NextEvent, CheckFile, PoisonBlock, PoisonVolume, PoisonFile, PoisonMeta, WeakenFile, WeakenVolume, ClearFile, ClearVolume, Cut, CutIn, FailIn, Restart, Recover, Attr, Evict}
use Rattle.asked_reads.specs.MachineModel.declared.look.Look.TheVariants.{Once, Again}
use Rattle.asked_reads.specs.MachineModel.Machine.{Machine}
use Rattle.asked_reads.specs.MachineModel.Commands.{meaning}
use Rattle.asked_reads.specs.MachineModel.OnFlushes.{flush_through}
use Rattle.asked_reads.specs.MachineModel.OnMappings.{load_through, store_through}
use Rattle.asked_reads.specs.Outcomes.Stops.{led_to}
use Rattle.sights.proofs.AsideLemmas.{IsAside, by_mapping, flush_aside, load_aside, map_aside, store_aside}

geometry_of : (h to : Machine) → IsAside h to → to.geometry ≡ h.geometry
geometry_of h to is = is.geometry

pub geometry_stays : (h : Machine) (action : Action) → (led_to h ((meaning action).comes h)).geometry ≡ h.geometry
geometry_stays h (BRead block count) = refl
geometry_stays h (BWrite block bytes) = refl
geometry_stays h (BAtomic block bytes) = refl
geometry_stays h (BMulti ranges bytes) = refl
geometry_stays h (BDiscard block count) = refl
geometry_stays h (BDiscardIf block count) = refl
geometry_stays h (BExists block) = refl
geometry_stays h (BScar ranges) = refl
geometry_stays h (VLoad offset len) = refl
geometry_stays h (VStore offset bytes) = refl
geometry_stays h (VSync offset len) = refl
geometry_stays h VRanges = refl
geometry_stays h (VPSync address len) = refl
geometry_stays h (VDiscard page count) = refl
geometry_stays h (VDiscardIf page count) = refl
geometry_stays h (VExists page) = refl
geometry_stays h (Create name pages) = refl
geometry_stays h (Delete name) = refl
geometry_stays h (Rename name to) = refl
geometry_stays h (Resize name pages) = refl
geometry_stays h ListFiles = refl
geometry_stays h (FRead name offset len) = refl
geometry_stays h (FWrite name offset bytes) = refl
geometry_stays h (FAtomic name offset bytes) = refl
geometry_stays h (FMulti name ranges bytes) = refl
geometry_stays h (FDiscard name page count) = refl
geometry_stays h (FSync name) = refl
geometry_stays h (Map name span kind) = geometry_of h _ (map_aside h name span kind)
geometry_stays h (Unmap handle) = refl
geometry_stays h (Load handle offset len) = geometry_of h _ (by_mapping h handle (load_through offset len) (load_aside h offset len))
geometry_stays h (Store handle offset bytes) = geometry_of h _ (by_mapping h handle (store_through handle offset bytes) (store_aside h handle offset bytes))
geometry_stays h (Sync handle offset len) = geometry_of h _ (by_mapping h handle (flush_through Once (record { start = offset; len = len } ∷ [])) (flush_aside h Once (record { start = offset; len = len } ∷ [])))
geometry_stays h (Flush handle spans) = geometry_of h _ (by_mapping h handle (flush_through Once spans) (flush_aside h Once spans))
geometry_stays h (FlushVerify handle spans) = geometry_of h _ (by_mapping h handle (flush_through Again spans) (flush_aside h Again spans))
geometry_stays h (DeepFlush handle spans) = geometry_of h _ (by_mapping h handle (flush_through Once spans) (flush_aside h Once spans))
geometry_stays h NextEvent = refl
geometry_stays h (CheckFile name offset len) = refl
geometry_stays h (PoisonBlock block line) = refl
geometry_stays h (PoisonVolume offset) = refl
geometry_stays h (PoisonFile name offset) = refl
geometry_stays h (PoisonMeta line) = refl
geometry_stays h (WeakenFile name offset) = refl
geometry_stays h (WeakenVolume offset) = refl
geometry_stays h (ClearFile name offset) = refl
geometry_stays h (ClearVolume offset) = refl
geometry_stays h Cut = refl
geometry_stays h (CutIn calls) = refl
geometry_stays h (FailIn calls) = refl
geometry_stays h (Restart choice) = refl
geometry_stays h Recover = refl
geometry_stays h (Attr name) = refl
geometry_stays h (Evict lines) = refl
