-- What an interrupted command may leave of kept storage has the shape of storage with an image.
use Rattle.std.proofs.Common.{◌≡◌, inl, inr, ℕ, zero, suc, Bool, true, false, Option, Some, None, List, [], ◌∷◌, length, refl, sym, ap, subst, ◌∙◌}
use Rattle.word_tables.specs.declared.geometry.Geometry.{Geometry}
use Rattle.nvm_model.specs.Blocks.{nth}
use Rattle.nvm_model.specs.Cell.{Cell}
use Rattle.nvm_model.specs.Cell.Cell.{Bad, Kept}
use Rattle.nvm_model.specs.Page.{Page, cell_of}
use Rattle.nvm_model.specs.Storage.{Block, File}
use Rattle.script_text.specs.Action.{Action}
use Rattle.machine_model.specs.Commands.{LeavesBlocks, MayLeaveBlocks, meaning}
use Rattle.machine_model.specs.Meaning.{BlocksLeft}
use Rattle.machine_model.specs.Meaning.BlocksLeft.{Same, Either, Mixed}
use Rattle.durable.specs.Durable.{AllHaveLines, HaveLines, IsLineThere}
use Rattle.durable.specs.Place.{is_line_present}
use Rattle.durable.proofs.PresenceLemmas.{absent_line}
use Rattle.state_images.specs.Shapes.{HasEightWords, HasFilesShape, HaveEightWords, HaveFileShapes}
use Rattle.state_images.specs.Storable.{AreWholeBlocks, IsWholeBlock}
use Rattle.outcome_runs.specs.Kept.{AreListed, HaveNames}

-- blocks, one by one
pub whole_at : (blocks : List Block) → AreWholeBlocks blocks → (i : ℕ) → IsWholeBlock (nth blocks i)
whole_at [] all i = tt
whole_at (block ∷ blocks) all zero = all.0
whole_at (block ∷ blocks) all (suc i) = whole_at blocks all.1 i

pub whole_each : (blocks : List Block) → ((i : ℕ) → IsWholeBlock (nth blocks i)) → AreWholeBlocks blocks
whole_each [] each = tt
whole_each (block ∷ blocks) each = (each 0, whole_each blocks (λ i. each (suc i)))

blocks_leave : (kind : BlocksLeft) (old to new : List Block) → AreWholeBlocks old → AreWholeBlocks to → LeavesBlocks kind old to new → AreWholeBlocks new
blocks_leave Same old to new all made is = subst AreWholeBlocks {x = old} (sym is) all
blocks_leave Either old to new all made (inl is) = subst AreWholeBlocks {x = old} (sym is) all
blocks_leave Either old to new all made (inr is) = subst AreWholeBlocks {x = to} (sym is) made
blocks_leave Mixed old to new all made may =
    whole_each new (λ i. elim (may.each i) as (λ _. IsWholeBlock (nth new i)) [
      | inl is ↦ subst IsWholeBlock (sym is) (whole_at old all i)
      | inr is ↦ subst IsWholeBlock (sym is) (whole_at to made i)
    ])

abbrev pub BlocksMade : Option Action → List Block → Type 0
BlocksMade None old = Unit {0}
BlocksMade (Some action) old = AreWholeBlocks ((meaning action).blocks old)

pub blocks_left : (o : Option Action) (old new : List Block) → AreWholeBlocks old → BlocksMade o old → MayLeaveBlocks o old new → AreWholeBlocks new
blocks_left None old new all made is = subst AreWholeBlocks {x = old} (sym is) all
blocks_left (Some action) old new all made may = blocks_leave (meaning action).blocks_left old ((meaning action).blocks old) new all made may

-- lines of eight words
eight_of : (o : Option Cell) (cell : Cell) → IsLineThere o → o ≡ Some cell → HasEightWords cell
eight_of None cell there is = absurd there
eight_of (Some Bad) Bad there is = tt
eight_of (Some Bad) (Kept weak words) there is = cc is
eight_of (Some (Kept weak words)) Bad there is = tt
eight_of (Some (Kept weak words)) (Kept mark other) there is = let same : words ≡ other = cc is in sym (ap length same) ∙ there

pub eight_words : (pages : List Page) → HaveLines pages → HaveEightWords pages
eight_words pages lines n cell is = by_presence (is_line_present pages n) refl
  where
    by_presence : (b : Bool) → is_line_present pages n ≡ b → HasEightWords cell
    by_presence true there = eight_of (cell_of pages n) cell (lines n there) is
    by_presence false gone = cc (absent_line pages n gone, is)

shapes_of : (files : List File) → HaveNames files → AllHaveLines files → HaveFileShapes files
shapes_of [] named lines = tt
shapes_of (x ∷ files) named lines =
    (record { name = named.0; few = named.1; words = eight_words x.pages lines.0 }, shapes_of files named.2 lines.1)

pub files_shape : (geo : Geometry) (files : List File) → AreListed geo files → AllHaveLines files → HasFilesShape geo files
files_shape geo files listed lines = record { few = listed.few; each = shapes_of files listed.each lines; in_order = listed.in_order; room = listed.room }
