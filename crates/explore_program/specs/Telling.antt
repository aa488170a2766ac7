-- What is said of the questions, and the status.
use Rattle.std.specs.Prelude.{ℕ, Bool, List, ◌++◌, Option, Some, None, codes, is_none, is_some}
use Rattle.std.specs.List.{list_any}
use Rattle.exploration.specs.Exploration.{Asked}
use Rattle.exploration.specs.declared.asking.Wanted.{Wanted}
use Rattle.exploration.specs.declared.asking.Wanted.TheVariants as wanted
use Rattle.outcome_lists.specs.OutcomeTest.Files.{FileRead}
use Rattle.outcome_lists.specs.OutcomeTest.Pages.{PageRead}
use Rattle.outcome_lists.specs.OutcomeTest.Seen.{Seen, file_reads, volume_reads}
use Rattle.outcome_lists.specs.Explorer.declared.found.Found.{Found}
use Rattle.outcome_lists.specs.Lists.{place_text}
use Rattle.program_base.specs.Ending.{line}
use Rattle.outcome_lists.specs.Witnesses.Texts.{kept_text}

-- of one question: never, or the first place of a cut that may leave it, and what it keeps then of all at which these reads look
abbrev pub answer_text : List PageRead → List FileRead → Option Found → List ℕ
answer_text pages files None = line (codes "never")
answer_text pages files (Some found) = codes "may " ++ (place_text found.place ++ line (kept_text pages files found.kept))

abbrev pub answer_line : List Seen → Option Found → List ℕ
answer_line all found = answer_text (volume_reads all) (file_reads all) found

-- whether a question is answered otherwise than it is to be
abbrev pub is_missed : {A : Type 0} → Wanted → Option A → Bool
is_missed wanted.Never found = is_some found
is_missed wanted.May found = is_none found

-- whether any is, where this is what is found of its look
abbrev pub is_any_missed : {A : Type 0} → (List Seen → Option A) → List Asked → Bool
is_any_missed tell questions = list_any (λ (asked : Asked). is_missed asked.wanted (tell asked.look)) questions
