-- Worked scripts with calls that fail, recoveries, and lines of metadata that go bad: what the machine writes, and what it may write.
use Rattle.std.specs.Prelude.{◌≡◌, ◌⊎◌, ◌++◌, ℕ, List, [], ◌∷◌, codes}
use Rattle.line_device.specs.Panel.{Start}
use Rattle.line_device.specs.declared.line.Choice.TheVariants.{Lasts}
use Rattle.machine_rows.specs.CutRows.{MayWrite, leaving_first}
use Rattle.machine_rows.specs.MediaRows.{leaving_lines}
use Rattle.machine_model.specs.WorkedScripts.{text}
use Rattle.machine_rows.specs.Rows.{leaving, Writes}

-- Nothing interrupts these: a failure or a cut is armed at most.
pub record FailureRows : Type 0 where
  pub stopped_at_the_next_mount : Writes
      (text (codes "poison meta 0" ∷ codes "bwrite 0 01*512" ∷ codes "bread 0 1" ∷ codes "cut" ∷ codes "restart all" ∷ codes "bread 0 1" ∷ []))
      (leaving_lines Lasts [] (0 ∷ []) [] ∷ [])
      (codes "ok" ∷ codes "refused meta 0" ∷ codes "data 00*512" ∷ codes "ok" ∷ codes "stopped meta 0" ∷ codes "refused meta 0" ∷ [])
  pub last_line_of_metadata : Writes
      (text (codes "poison meta 2304" ∷ codes "poison meta 2303" ∷ codes "bexists 0" ∷ codes "bscar 0 1" ∷ codes "recover" ∷ []))
      [] (codes "refused range" ∷ codes "ok" ∷ codes "no" ∷ codes "refused meta 2303" ∷ codes "refused on" ∷ [])
  pub lowest_line_of_metadata_named : Writes (text (codes "poison meta 5" ∷ codes "poison meta 3" ∷ codes "bwrite 0 01*512" ∷ []))
      [] (codes "ok" ∷ codes "ok" ∷ codes "refused meta 3" ∷ [])
  pub place_named_before_metadata : Writes (text (codes "poison meta 3" ∷ codes "bwrite 8 01*512" ∷ codes "bwrite 0 01*512" ∷ []))
      [] (codes "ok" ∷ codes "refused range" ∷ codes "refused meta 3" ∷ [])
  pub load_while_metadata_is_bad : Writes
      (text (codes "vstore 0 07*8" ∷ codes "vsync 0 8" ∷ codes "poison meta 9" ∷ codes "vload 0 8" ∷ []))
      [] (codes "ok" ∷ codes "ok" ∷ codes "ok" ∷ codes "data 07*8" ∷ [])
  pub store_while_metadata_is_bad : Writes
      (text (codes "vstore 0 07*8" ∷ codes "poison meta 9" ∷ codes "vstore 8 05" ∷ codes "vstore 4096 05" ∷ codes "vload 0 9" ∷ codes "vexists 1"
      ∷ []))
      [] (codes "ok" ∷ codes "ok" ∷ codes "ok" ∷ codes "refused meta 9" ∷ codes "data 07*8,05" ∷ codes "no" ∷ [])
  pub sync_while_metadata_is_bad : Writes (text (codes "vstore 0 07*8" ∷ codes "poison meta 9" ∷ codes "vsync 0 8" ∷ codes "vload 0 8" ∷ []))
      [] (codes "ok" ∷ codes "ok" ∷ codes "ok" ∷ codes "data 07*8" ∷ [])
  pub armed_while_stopped : Writes
      (text (codes "poison meta 7" ∷ codes "cut" ∷ codes "restart all" ∷ codes "fail in 3" ∷ codes "cut in 3" ∷ codes "fail in 0"
      ∷ codes "restart all" ∷ codes "recover" ∷ []))
      (leaving_lines Lasts [] (7 ∷ []) [] ∷ [])
      (codes "ok" ∷ codes "ok" ∷ codes "stopped meta 7" ∷ codes "ok" ∷ codes "ok" ∷ codes "refused range" ∷ codes "refused on"
      ∷ codes "refused meta 7" ∷ [])
  pub lower_line_while_stopped : Writes
      (text (codes "poison meta 7" ∷ codes "cut" ∷ codes "restart all" ∷ codes "bread 0 1" ∷ codes "poison meta 4" ∷ codes "bread 0 1" ∷ []))
      (leaving_lines Lasts [] (7 ∷ []) [] ∷ [])
      (codes "ok" ∷ codes "ok" ∷ codes "stopped meta 7" ∷ codes "refused meta 7" ∷ codes "ok" ∷ codes "refused meta 4" ∷ [])
  pub armed_while_off : Writes (text (codes "cut" ∷ codes "cut in 0" ∷ codes "cut in 1" ∷ []))
      [] (codes "ok" ∷ codes "refused range" ∷ codes "ok" ∷ [])

-- a write of a block that fails in its first call, and the recovery; and what is written, up to what is read of the block at last
abbrev pub with_failed_write : List ℕ
with_failed_write =
    text (codes "fail in 1" ∷ codes "batomic 0 01*512" ∷ codes "bread 0 1" ∷ codes "recover" ∷ codes "bread 0 1" ∷ [])

abbrev pub failed_write_lines : List ℕ → List (List ℕ)
failed_write_lines read = codes "ok" ∷ codes "refused device" ∷ codes "refused recover" ∷ codes "ok bad 0" ∷ read ∷ []

-- the same with a recovery that fails before the one that is done
abbrev pub with_failed_recovery : List ℕ
with_failed_recovery =
    text (codes "fail in 1" ∷ codes "batomic 0 01*512" ∷ codes "fail in 1" ∷ codes "recover" ∷ codes "recover" ∷ codes "bread 0 1" ∷ [])

abbrev pub failed_recovery_lines : List ℕ → List (List ℕ)
failed_recovery_lines read = codes "ok" ∷ codes "refused device" ∷ codes "ok" ∷ codes "refused device" ∷ codes "ok bad 0" ∷ read ∷ []

-- a write of two blocks together that fails in its first call, the recovery, and a read of both
abbrev pub with_failed_pair : List ℕ
with_failed_pair = text (codes "fail in 1" ∷ codes "batomic 0 11*1024" ∷ codes "recover" ∷ codes "bread 0 2" ∷ [])

abbrev pub failed_pair_lines : List ℕ → List (List ℕ)
failed_pair_lines read = codes "ok" ∷ codes "refused device" ∷ codes "ok bad 0" ∷ read ∷ []

-- a restart that a cut interrupts, and one that is done; both left the block that was written
abbrev pub with_cut_restart : List ℕ
with_cut_restart =
    text (codes "bwrite 0 05*512" ∷ codes "cut" ∷ codes "cut in 1" ∷ codes "restart all" ∷ codes "bread 0 1" ∷ codes "restart all"
    ∷ codes "bread 0 1" ∷ [])

abbrev pub cut_restart_lines : List (List ℕ)
cut_restart_lines =
    codes "ok" ∷ codes "ok" ∷ codes "ok" ∷ codes "power lost" ∷ codes "refused off" ∷ codes "ok bad 0" ∷ codes "data 05*512" ∷ []

abbrev pub leaving_fives : Start
leaving_fives = leaving_first Lasts 1 361700864190383365

-- a restart in which a call fails, and the recovery
abbrev pub with_failed_restart : List ℕ
with_failed_restart = text (codes "cut" ∷ codes "fail in 1" ∷ codes "restart all" ∷ codes "recover" ∷ [])

abbrev pub failed_restart_lines : List (List ℕ)
failed_restart_lines = codes "ok" ∷ codes "ok" ∷ codes "refused device" ∷ codes "ok bad 0" ∷ []

-- a cut and a failure that are armed for the same call: the cut comes, and the failure falls on the next call, of the restart
abbrev pub with_cut_before_failure : List ℕ
with_cut_before_failure = text (codes "cut in 1" ∷ codes "fail in 1" ∷ codes "batomic 0 01*512" ∷ codes "restart all" ∷ [])

abbrev pub cut_before_failure_lines : List (List ℕ)
cut_before_failure_lines = codes "ok" ∷ codes "ok" ∷ codes "power lost" ∷ codes "refused device" ∷ []

-- a sync that fails: what was stored is there still after the recovery
abbrev pub with_failed_sync : List ℕ
with_failed_sync =
    text (codes "vstore 0 00*64" ∷ codes "vsync 0 64" ∷ codes "vstore 0 07*8" ∷ codes "fail in 1" ∷ codes "vsync 0 8" ∷ codes "restart all"
    ∷ codes "recover" ∷ codes "vload 0 8" ∷ [])

abbrev pub failed_sync_lines : List (List ℕ)
failed_sync_lines =
    codes "ok" ∷ codes "ok" ∷ codes "ok" ∷ codes "ok" ∷ codes "refused device" ∷ codes "refused on" ∷ codes "ok bad 0" ∷ codes "data 07*8" ∷ []

-- what may come of a call that fails, and of a restart that is interrupted
pub record FailureRuns : Type 0 where
  pub write_lost : MayWrite with_failed_write [] (failed_write_lines (codes "data 00*512"))
  pub write_kept : MayWrite with_failed_write [] (failed_write_lines (codes "data 01*512"))
  pub write_lost_by_the_second_recovery : MayWrite with_failed_recovery [] (failed_recovery_lines (codes "data 00*512"))
  pub write_kept_by_the_second_recovery : MayWrite with_failed_recovery [] (failed_recovery_lines (codes "data 01*512"))
  pub pair_all_or_nothing : (starts : List Start) (shown : List ℕ) → MayWrite with_failed_pair starts (failed_pair_lines (codes "data " ++ shown))
      → (shown ≡ codes "00*1024") ⊎ (shown ≡ codes "11*1024")
  pub pair_never_in_part : (starts : List Start) → ¬ MayWrite with_failed_pair starts (failed_pair_lines (codes "data 11*512,00*512"))
  pub restart_cut : MayWrite with_cut_restart (leaving_fives ∷ leaving_fives ∷ []) cut_restart_lines
  pub restart_failed : MayWrite with_failed_restart (leaving Lasts [] ∷ []) failed_restart_lines
  pub cut_before_failure : MayWrite with_cut_before_failure (leaving Lasts [] ∷ []) cut_before_failure_lines
  pub sync_failed : MayWrite with_failed_sync [] failed_sync_lines
