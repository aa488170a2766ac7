-- A command wants no memory, where there is room for the longest line of bytes.
use Rattle.std.proofs.Common.{◌≡◌, ◌≤◌, ◌*◌, ◌⊎◌, ℕ, inl, inr, true, false, IsTrue, IsOk, OnErr, Result, Ok, Err, None, List, refl, arith}
use Rattle.std.proofs.Math.Nat.{min-le_right}
use Rattle.word_tables.specs.declared.geometry.Geometry.{Geometry}
use Rattle.script_text.specs.Action.{Action}
use Rattle.script_text.specs.Action.Action.{BRead, BWrite, BAtomic, BMulti, BDiscard, BDiscardIf, BExists, BScar, VLoad, VStore, VSync, VRanges, VPSync, VDiscard, VDiscardIf, VExists, Create, Delete, Rename, Resize, ListFiles, FRead, FWrite, FAtomic, FMulti, FDiscard, FSync, Map, Unmap, Load, Store, Sync, Flush, FlushVerify, DeepFlush, NextEvent, CheckFile, PoisonBlock, PoisonVolume, PoisonFile, PoisonMeta, WeakenFile, WeakenVolume, ClearFile, ClearVolume, Cut, CutIn, FailIn, Restart, Recover, Attr, Evict}
use Rattle.machine_model.specs.declared.mode.Mode.{Mode}
use Rattle.machine_model.specs.Commands.{early_refusal, longest, may_want_memory, meaning}
use Rattle.machine_model.proofs.RefusalLemmas.{places_right, read_within}

-- a line is this short, or memory may be wanting
fits : (geo : Geometry) (action : Action) → (meaning action).checked geo ≡ None → (longest action ≤ 200000) ⊎ IsTrue (may_want_memory action)
fits geo (BRead block count) right = inl (let few = (read_within 128 geo.blocks block count right).2 in omega (arith, few))
fits geo (BWrite block bytes) right = inl (omega arith)
fits geo (BAtomic block bytes) right = inl (omega arith)
fits geo (BMulti ranges bytes) right = inl (omega arith)
fits geo (BDiscard block count) right = inl (omega arith)
fits geo (BDiscardIf block count) right = inl (omega arith)
fits geo (BExists block) right = inl (omega arith)
fits geo (BScar ranges) right = inl (omega arith)
fits geo (VLoad offset len) right = inl (let few = (read_within 65536 (4096 * geo.vpages) offset len right).2 in omega (arith, few))
fits geo (VStore offset bytes) right = inl (omega arith)
fits geo (VSync offset len) right = inl (omega arith)
fits geo VRanges right = inr refl
fits geo (VPSync address len) right = inl (omega arith)
fits geo (VDiscard page count) right = inl (omega arith)
fits geo (VDiscardIf page count) right = inl (omega arith)
fits geo (VExists page) right = inl (omega arith)
fits geo (Create name pages) right = inl (omega arith)
fits geo (Delete name) right = inl (omega arith)
fits geo (Rename name to) right = inl (omega arith)
fits geo (Resize name pages) right = inl (omega arith)
fits geo ListFiles right = inr refl
fits geo (FRead name offset len) right = inl (omega (arith, min-le_right len 65536))
fits geo (FWrite name offset bytes) right = inl (omega arith)
fits geo (FAtomic name offset bytes) right = inl (omega arith)
fits geo (FMulti name ranges bytes) right = inl (omega arith)
fits geo (FDiscard name page count) right = inl (omega arith)
fits geo (FSync name) right = inl (omega arith)
fits geo (Map name span kind) right = inr refl
fits geo (Unmap handle) right = inl (omega arith)
fits geo (Load handle offset len) right = inl (omega (arith, min-le_right len 65536))
fits geo (Store handle offset bytes) right = inl (omega arith)
fits geo (Sync handle offset len) right = inl (omega arith)
fits geo (Flush handle spans) right = inl (omega arith)
fits geo (FlushVerify handle spans) right = inl (omega arith)
fits geo (DeepFlush handle spans) right = inl (omega arith)
fits geo NextEvent right = inl (omega arith)
fits geo (CheckFile name offset len) right = inr refl
fits geo (PoisonBlock block line) right = inl (omega arith)
fits geo (PoisonVolume offset) right = inl (omega arith)
fits geo (PoisonFile name offset) right = inr refl
fits geo (PoisonMeta line) right = inl (omega arith)
fits geo (WeakenFile name offset) right = inr refl
fits geo (WeakenVolume offset) right = inr refl
fits geo (ClearFile name offset) right = inl (omega arith)
fits geo (ClearVolume offset) right = inl (omega arith)
fits geo Cut right = inl (omega arith)
fits geo (CutIn calls) right = inl (omega arith)
fits geo (FailIn calls) right = inl (omega arith)
fits geo (Restart choice) right = inr refl
fits geo Recover right = inr refl
fits geo (Attr name) right = inl (omega arith)
fits geo (Evict lines) right = inl (omega arith)

-- so a reserve of its room that failed, where there was so much, tells that
pub wanted : (mode : Mode) (bad_meta : List ℕ) (geo : Geometry) (action : Action) → early_refusal mode bad_meta geo action ≡ None
    → (room spare : ℕ) → room ≡ longest action → 200000 ≤ spare → (room ≤ spare → false ≡ true) → IsTrue (may_want_memory action)
wanted mode bad_meta geo action none room spare is much fails = by_size (fits geo action (places_right mode bad_meta geo action none))
  where
    by_size : (longest action ≤ 200000) ⊎ IsTrue (may_want_memory action) → IsTrue (may_want_memory action)
    by_size (inl short) = let never = fails (omega (arith, is, much, short)) in cc never
    by_size (inr may) = may

-- what succeeds is no error
pub no_error : {T E : Type 0} (P : Type 0) (r : Result T E) → IsOk r → OnErr r P
no_error P (Ok x) ok = tt
no_error P (Err e) ok = cc ok
