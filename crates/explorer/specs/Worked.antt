-- Worked reports, from the program's script on.
use Rattle.std.specs.Prelude.{◌≡◌, ℕ, Bool, true, false, List, [], ◌∷◌, codes}
use Rattle.script_text.specs.Script.{inputs}
use Rattle.cut_places.specs.MachineModel.Restarting.{fresh}
use Rattle.cut_places.specs.MachineModel.WorkedScripts.{small, text}
use Rattle.cut_places.specs.Outcomes.Finds.{armed}
use Rattle.explorer.specs.Leading.{led_through}
use Rattle.explorer.specs.Reporting.{refusals_from}

-- a program on a new device of two volume pages, eight blocks and no file, which refusals are wanted, and its report
abbrev pub Reports : List (List ℕ) → List Bool → List (List ℕ) → Type 0
Reports program wanted report = refusals_from 1 (armed (fresh small)) (inputs (text program)) wanted ≡ text report

-- lines, and then a program from the state that they lead to
abbrev pub ReportsAfter : List (List ℕ) → List (List ℕ) → List Bool → List (List ℕ) → Type 0
ReportsAfter first program wanted report =
    refusals_from 1 (led_through (armed (fresh small)) (inputs (text first))) (inputs (text program)) wanted ≡ text report

pub record WorkedReports : Type 0 where
  pub store_past_the_end : Reports (codes "vstore 9999 01" ∷ []) (false ∷ []) (codes "refused 1 range" ∷ [])
  pub file_that_is_missing : Reports (codes "vstore 0 01" ∷ codes "# a comment" ∷ codes "fwrite log 0 01" ∷ []) (false ∷ false ∷ false ∷ [])
      (codes "refused 3 missing" ∷ [])
  pub sync_of_a_bad_line : Reports
      (codes "vstore 0 07*128" ∷ codes "vsync 0 128" ∷ codes "poison volume 64" ∷ codes "vsync 0 128" ∷ [])
      (false ∷ false ∷ false ∷ false ∷ []) (codes "refused 4 poison volume 64 64" ∷ [])
  pub scarred_block : Reports (codes "bscar 7 1" ∷ codes "bread 6 2" ∷ []) (false ∷ false ∷ []) (codes "refused 2 scarred 7" ∷ [])
  pub wanted_and_refused : Reports (codes "vstore 9999 01" ∷ codes "vstore 0 01" ∷ []) (true ∷ false ∷ []) []
  pub wanted_and_done : Reports (codes "vstore 0 01" ∷ codes "delete log" ∷ []) (true ∷ false ∷ []) (codes "not refused 1" ∷ codes "refused 2 missing" ∷ [])
  pub cut_in_no_calls : Reports (codes "cut in 0" ∷ codes "cut in 3" ∷ []) (false ∷ false ∷ []) (codes "refused 1 range" ∷ [])
  pub lines_that_lead : ReportsAfter (codes "create log 1" ∷ []) (codes "# begin" ∷ codes "create log 1" ∷ codes "fwrite log 0 01" ∷ []) (false ∷ false ∷ false ∷ [])
      (codes "refused 2 exists" ∷ [])
