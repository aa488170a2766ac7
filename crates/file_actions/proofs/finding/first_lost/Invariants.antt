use Rattle.std.proofs.Common.{◌≡◌, ◌<◌, ℕ, List, false}
use Rattle.nvm_model.specs.Storage.{File}
use Rattle.file_pages.specs.Object.{IsFileAt}
use Rattle.file_actions.specs.Rewriting.{is_lost}
use Rattle.file_actions.proofs.finding.first_lost.Given as goal

abbrev pub invariant-loop-n : goal.invariant-loop-n
invariant-loop-n g l = (listed : List File) (file : File) → IsFileAt l.files.journal (g.L.Lines.state l.dev).medium l.inode listed file
    → (i : ℕ) → i < l.n → is_lost l.ranges file.pages i ≡ false
