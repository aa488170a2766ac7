-- What a read over bytes that can't be read is answered.
use Rattle.std.specs.Prelude.{◌≡◌, ◌*◌, ◌<◌, ℕ, true, false, List, [], ◌∷◌, Option, Some, None}
use Rattle.nvm_model.specs.Blocks.{Obstacle, first_there, nth, obstacle_in}
use Rattle.nvm_model.specs.Cell.{touches}
use Rattle.nvm_model.specs.Numbered.{is_among}
use Rattle.nvm_model.specs.Page.{Page, cell_of, is_bad_cell}
use Rattle.nvm_model.specs.Storage.{Block}
use Rattle.block_device.specs.Refusals.Refusal.{Unreadable}
use Rattle.reply_text.specs.Answer.{Answer}
use Rattle.reply_text.specs.Answer.Answer.{PoisonFile, PoisonVolume}
use Rattle.script_text.specs.Action.{Action}
use Rattle.machine_model.specs.Commands.{meaning}
use Rattle.machine_model.specs.Machine.{Machine}
use Rattle.machine_model.specs.Meaning.{mode_refusal}
use Rattle.machine_model.specs.OnBlocks.{refusal_answer}

-- the lowest line of a span of pages that is bad
pub record IsLowestBad (pages : List Page) (offset len n : ℕ) : Type 0 where
  pub touched : touches offset len n ≡ true
  pub bad : is_bad_cell (cell_of pages n) ≡ true
  pub before : (m : ℕ) → m < n → touches offset len m ≡ true → is_bad_cell (cell_of pages m) ≡ false

-- the lowest of so many blocks that can't be read, and what keeps it from that
pub record IsLowestObstacle (blocks : List Block) (at count n : ℕ) (obstacle : Obstacle) : Type 0 where
  pub among : is_among at count n ≡ true
  pub here : obstacle_in n (nth blocks n) ≡ Some obstacle
  pub before : (m : ℕ) → m < n → is_among at count m ≡ true → obstacle_in m (nth blocks m) ≡ None

-- the answer names that line by its offset in the volume or in a file, or that obstacle
abbrev pub NamesLine : List Page → ℕ → ℕ → Answer → Type 0
NamesLine pages offset len answer = (n : ℕ) × IsLowestBad pages offset len n × (answer ≡ PoisonVolume (64 * n))

abbrev pub NamesLineOf : List ℕ → List Page → ℕ → ℕ → Answer → Type 0
NamesLineOf name pages offset len answer = (n : ℕ) × IsLowestBad pages offset len n × (answer ≡ PoisonFile name (64 * n))

abbrev pub NamesObstacle : List Block → ℕ → ℕ → Answer → Type 0
NamesObstacle blocks at count answer =
    (n : ℕ) × (obstacle : Obstacle) × IsLowestObstacle blocks at count n obstacle × (answer ≡ refusal_answer (Unreadable obstacle))

-- what refuses a command on a file before anything that can't be read does: its mode, its names, or its span
abbrev pub refused_before : Machine → Action → Option Answer
refused_before h action =
    first_there (mode_refusal h.mode h.bad_meta (meaning action).needs) (first_there ((meaning action).reasons h).named ((meaning action).reasons h).places)

-- what the host finds wrong itself is the answer; where that is nothing, the answer names this
abbrev pub Names : Option Answer → (Answer → Type 0) → List Answer → Type 0
Names (Some refused) this answers = answers ≡ refused ∷ []
Names None this answers = (answer : Answer) × (answers ≡ answer ∷ []) × this answer
