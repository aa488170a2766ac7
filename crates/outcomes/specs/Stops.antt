-- The places of a cut in a program: the states in which the power may go.
use Rattle.std.specs.Prelude.{Bool, true, false, List, [], ◌∷◌, ◌++◌, IsTrue}
use Rattle.script_text.specs.Action.{Action}
use Rattle.script_text.specs.Action.Action.{BRead, BWrite, BAtomic, BMulti, BDiscard, BDiscardIf, BExists, BScar, VLoad, VStore, VSync, VRanges, VPSync, VDiscard, VDiscardIf, VExists, Create, Delete, Rename, Resize, ListFiles, FRead, FWrite, FAtomic, FMulti, FDiscard, FSync, Map, Unmap, Load, Store, Sync, Flush, FlushVerify, DeepFlush, NextEvent, CheckFile, PoisonBlock, PoisonVolume, PoisonFile, PoisonMeta, WeakenFile, WeakenVolume, ClearFile, ClearVolume, Cut, CutIn, FailIn, Restart, Recover, Attr, Evict}
use Rattle.script_text.specs.Script.{Input}
use Rattle.script_text.specs.Script.Input.{Skipped, Malformed, Overlong, Asked}
use Rattle.machine_model.specs.Machine.{Machine, Fate}
use Rattle.machine_model.specs.Machine.Fate.{Gives, Works, Orders, Cuts, Restarts, Recovers}
use Rattle.machine_model.specs.Commands.{fate, while_interrupted}

-- A command of a program: all but those of power and of failures, and a media error of metadata. A cut that is armed is no order
-- of another, as it may come anywhere.
abbrev pub is_of_program : Action → Bool
is_of_program (BRead block count) = true
is_of_program (BWrite block bytes) = true
is_of_program (BAtomic block bytes) = true
is_of_program (BMulti ranges bytes) = true
is_of_program (BDiscard block count) = true
is_of_program (BDiscardIf block count) = true
is_of_program (BExists block) = true
is_of_program (BScar ranges) = true
is_of_program (VLoad offset len) = true
is_of_program (VStore offset bytes) = true
is_of_program (VSync offset len) = true
is_of_program VRanges = true
is_of_program (VPSync address len) = true
is_of_program (VDiscard page count) = true
is_of_program (VDiscardIf page count) = true
is_of_program (VExists page) = true
is_of_program (Create name pages) = true
is_of_program (Delete name) = true
is_of_program (Rename name to) = true
is_of_program (Resize name pages) = true
is_of_program ListFiles = true
is_of_program (FRead name offset len) = true
is_of_program (FWrite name offset bytes) = true
is_of_program (FAtomic name offset bytes) = true
is_of_program (FMulti name ranges bytes) = true
is_of_program (FDiscard name page count) = true
is_of_program (FSync name) = true
is_of_program (Map name span kind) = true
is_of_program (Unmap handle) = true
is_of_program (Load handle offset len) = true
is_of_program (Store handle offset bytes) = true
is_of_program (Sync handle offset len) = true
is_of_program (Flush handle spans) = true
is_of_program (FlushVerify handle spans) = true
is_of_program (DeepFlush handle spans) = true
is_of_program NextEvent = true
is_of_program (CheckFile name offset len) = true
is_of_program (PoisonBlock block line) = true
is_of_program (PoisonVolume offset) = true
is_of_program (PoisonFile name offset) = true
is_of_program (PoisonMeta line) = false
is_of_program (WeakenFile name offset) = true
is_of_program (WeakenVolume offset) = true
is_of_program (ClearFile name offset) = true
is_of_program (ClearVolume offset) = true
is_of_program Cut = false
is_of_program (CutIn calls) = true
is_of_program (FailIn calls) = false
is_of_program (Restart choice) = false
is_of_program Recover = false
is_of_program (Attr name) = true
is_of_program (Evict lines) = true

abbrev pub IsProgram : List Input → Type 0
IsProgram [] = Unit {0}
IsProgram (Skipped ∷ inputs) = IsProgram inputs
IsProgram (Malformed ∷ inputs) = IsProgram inputs
IsProgram (Overlong ∷ inputs) = IsProgram inputs
IsProgram (Asked action ∷ inputs) = IsTrue (is_of_program action) × IsProgram inputs

-- the state that a command leads to which nothing stops
abbrev pub led_to : Machine → Fate → Machine
led_to h (Gives answer to) = to
led_to h (Works answer to) = to
led_to h (Orders order to) = to
led_to h (Cuts to) = to
led_to h (Restarts choice) = h
led_to h Recovers = h

-- the state in which the power may go inside a command; only work on the device has an inside
abbrev pub inside : Machine → Action → Fate → List Machine
inside h action (Gives answer to) = []
inside h action (Works answer to) = while_interrupted h action ∷ []
inside h action (Orders order to) = []
inside h action (Cuts to) = []
inside h action (Restarts choice) = []
inside h action Recovers = []

-- before each command, inside it, and after the last one
abbrev pub stops : Machine → List Input → List Machine
stops h [] = h ∷ []
stops h (Skipped ∷ inputs) = stops h inputs
stops h (Malformed ∷ inputs) = stops h inputs
stops h (Overlong ∷ inputs) = stops h inputs
stops h (Asked action ∷ inputs) = h ∷ inside h action (fate h action) ++ stops (led_to h (fate h action)) inputs
