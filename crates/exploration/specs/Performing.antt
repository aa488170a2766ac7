-- What a host performs of a script that is taken.
use Rattle.std.specs.Prelude.{◌≡◌, ◌≢◌, ℕ, List, [], ◌∷◌, ◌++◌, drop, length, map, take, replicate, None}
use Rattle.std.specs.List.{AllByRecursion}
use Rattle.script_text.specs.Action.{Action}
use Rattle.script_text.specs.Script.{Input, inputs_of, lines_of}
use Rattle.script_text.specs.Script.Input.{Asked, Malformed, Overlong, Skipped}
use Rattle.questions.specs.Question.{question_line}
use Rattle.questions.specs.Question.QuestionLine.{Look}
use Rattle.asked_reads.specs.Program.{asks_for}
use Rattle.exploration.specs.Exploration.{Exploration}

-- lines, cut at the first one that is `# look`
pub record AreCut (lines before : List (List ℕ)) (look : List ℕ) (after : List (List ℕ)) : Type 0 where
  pub joined : before ++ look ∷ after ≡ lines
  pub looks : question_line look ≡ Look
  pub earlier : AllByRecursion (λ line. question_line line ≢ Look) before

-- the commands that lines ask for
abbrev pub commands_of : List Input → List Action
commands_of [] = []
commands_of (Skipped ∷ inputs) = commands_of inputs
commands_of (Malformed ∷ inputs) = commands_of inputs
commands_of (Overlong ∷ inputs) = commands_of inputs
commands_of (Asked action ∷ inputs) = action ∷ commands_of inputs

-- Line for line the program, of which the first part is up to `# begin`, is what the host does before the look, and the reads are what it
-- does after it.
pub record IsPerformed (text : List ℕ) (e : Exploration) : Type 0 where
  pub before : List (List ℕ)
  pub look : List ℕ
  pub after : List (List ℕ)
  pub cut : AreCut (lines_of text) before look after
  pub program : inputs_of before ≡ map asks_for (e.first ++ drop (length e.first) e.program)
  pub unasked : take (length e.first) e.program ≡ replicate (length e.first) None
  pub refused : length e.refused ≡ length e.program
  pub reads : commands_of (inputs_of after) ≡ e.reads
