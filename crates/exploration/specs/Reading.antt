-- What reading an exploration may give.
use Rattle.std.specs.Prelude.{◌≡◌, List, [], ◌∷◌, map, option_map, Result, Ok, Err}
use Rattle.script_text.specs.Action.{action_of}
use Rattle.asked_reads.specs.Asking.{IsLook}
use Rattle.asked_reads.specs.Looking.{read_action}
use Rattle.exploration.specs.declared.asking.Asking.{Asking}
use Rattle.exploration.specs.declared.exploration.Exploration.{Exploration}
use Rattle.exploration.specs.declared.exploration.ScriptFault.{ScriptFault}
use Rattle.exploration.specs.declared.exploration.ScriptFault.TheVariants.{Line, Memory}
use Rattle.exploration.specs.Exploration.{Asked, Exploration as Explored, Script}
use Rattle.exploration.specs.Exploration.Script.{StopsAt, Taken}

-- the question that is held asks this
pub record IsAsking (asked : Asked) (asking : Asking) : Type 0 where
  pub wanted : asking.wanted ≡ asked.wanted
  pub look : IsLook asked.look asking.question

-- the questions ask these, one by one
abbrev pub AskOf : List Asked → List Asking → Type 0
AskOf [] [] = Unit {0}
AskOf [] (q ∷ qs) = ⊥
AskOf (asked ∷ more) [] = ⊥
AskOf (asked ∷ more) (q ∷ qs) = IsAsking asked q × AskOf more qs

-- the exploration that is held is this one
pub record IsExplored (e : Explored) (held : Exploration) : Type 0 where
  pub first : map (option_map action_of) held.first.items ≡ e.first
  pub program : map (option_map action_of) held.program.items ≡ e.program
  pub refused : held.refused.items ≡ e.refused
  pub reads : map read_action held.reads.items ≡ e.reads
  pub table : held.table ≡ e.table
  pub list : held.list ≡ e.list
  pub questions : AskOf e.questions held.questions.items

abbrev pub Holds : Script → Exploration → Type 0
Holds (Taken e) exploration = IsExplored e exploration
Holds (StopsAt n why) exploration = ⊥

-- what came of a script's text
abbrev pub ReadsScript : Script → Result Exploration ScriptFault → Type 0
ReadsScript script (Ok exploration) = Holds script exploration
ReadsScript script (Err (Line n why)) = script ≡ StopsAt n why
ReadsScript script (Err Memory) = Unit {0}
