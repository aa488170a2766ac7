-- How a call ends before all questions are answered, and what it says then.
use Rattle.std.specs.Prelude.{◌++◌, ◌∷◌, ℕ, List, codes, decimal}
use Rattle.exploration.specs.Telling.{reason_text}
use Rattle.exploration.specs.declared.reason.Reason.{Reason}
use Rattle.exploration.specs.declared.exploration.ScriptFault.{ScriptFault}
use Rattle.exploration.specs.declared.exploration.ScriptFault.TheVariants as script
use Rattle.outcome_lists.specs.Explorer.declared.fault.ExploreFault.{ExploreFault}
use Rattle.outcome_lists.specs.Explorer.declared.fault.ExploreFault.TheVariants as explore
use Rattle.host_io.specs.declared.sink.WriteFault.{WriteFault}
use Rattle.program_base.specs.Ending.{ending_text, line, status}
use Rattle.program_base.specs.Ending as base
use Rattle.program_base.specs.declared.ending.Ending.TheVariants as endings
use Rattle.explore_program.specs.declared.stop.Stop.{Stop}
use Rattle.explore_program.specs.declared.stop.Stop.TheVariants.{Usage, Script, Early}

-- the exit status
abbrev pub stop_status : Stop → ℕ
stop_status Usage = 2
stop_status (Script n why) = 7
stop_status (Early ending) = status ending

-- what is said of a line that is not taken
abbrev pub untaken_text : ℕ → Reason → List ℕ
untaken_text n why = codes "error script " ++ (decimal n ++ 32 ∷ line (reason_text why))

-- the line that is written, if any
abbrev pub stop_text : Stop → List ℕ
stop_text Usage = line (codes "usage: nvmexplore IN < script")
stop_text (Script n why) = untaken_text n why
stop_text (Early ending) = ending_text ending

-- how a fault ends the call
abbrev pub of_script : ScriptFault → Stop
of_script (script.Line n why) = Script n why
of_script script.Memory = Early endings.Memory

abbrev pub of_explore : ExploreFault → Stop
of_explore explore.Device = Early endings.Device
of_explore explore.Memory = Early endings.Memory

abbrev pub of_write : WriteFault → Stop
of_write fault = Early (base.of_write fault)
