-- The state in which an exploration begins is sound.
use Rattle.std.proofs.Common.{◌≡◌, ◌≤◌, ℕ, zero, suc, Some, List, [], ◌∷◌, length, inl, inr, sym, ap, subst, ◌∙◌, arith}
use Rattle.std.specs.Prelude.{slice_get}
use Rattle.line_device.specs.Word.{word_at}
use Rattle.nvm_model.specs.Cell.{Cell}
use Rattle.nvm_model.specs.Cell.Cell.{Bad, Kept}
use Rattle.nvm_model.specs.Numbered.{list_from}
use Rattle.nvm_model.specs.Page.{Page, cell_of}
use Rattle.nvm_model.specs.Storage.{File}
use Rattle.explorer.specs.MachineModel.Machine.{Machine}
use Rattle.explorer.specs.Durable.Durable.{IsCounted}
use Rattle.explorer.specs.Outcomes.Finds.{armed}
use Rattle.explorer.specs.Outcomes.Outcome.{AllHaveValues, HasValues, HaveValues}
use Rattle.explorer.specs.ValueTables.Listed.{IsSound}
use Rattle.explorer.proofs.ValueTables.FileValueLemmas.{seen_has}
use Rattle.explorer.specs.Starting.{AreDurable, Begins, HaveDurable}

-- each word of a durable line has one value
one_each : (f : ℕ → ℕ) (n k w : ℕ) (history : List ℕ) → slice_get (list_from (λ i. f i ∷ []) n k) w ≡ Some history → 1 ≤ length history
one_each f n zero w history is = cc is
one_each f n (suc k) zero history is = let one : f n ∷ [] ≡ history = cc is in subst (λ (h : List ℕ). 1 ≤ length h) one (omega arith)
one_each f n (suc k) (suc w) history is = one_each f (suc n) k w history is

has_values : (pages : List Page) (n : ℕ) (cell : Cell) → AreDurable pages → cell_of pages n ≡ Some cell → HasValues cell
has_values pages n Bad durable is = tt
has_values pages n (Kept weak words) durable is =
    let of = durable n weak words is in
    λ w history there. one_each (word_at of.bytes) 0 8 w history (ap (λ ws. slice_get ws w) (sym of.are) ∙ there)

values_of : (pages : List Page) → AreDurable pages → HaveValues pages
values_of pages durable n cell is = has_values pages n cell durable is

file_values_of : (files : List File) → HaveDurable files → AllHaveValues files
file_values_of [] durable = tt
file_values_of (file ∷ files) durable = (values_of file.pages durable.0, file_values_of files durable.1)

pub sound_begun : (h : Machine) → Begins h → IsSound (armed h)
sound_begun h begins =
    let whole = begins.ready.whole in
    let counted : IsCounted h = elim whole.counted as (λ _. IsCounted h) [ inl is ↦ is | inr nothing ↦ absurd (nothing.mode begins.ready.mode) ] in record {
      counted = record { blocks = counted.blocks; pages = counted.pages };
      lines = whole.lines;
      words = λ n lt. seen_has h.volume n whole.lines (values_of h.volume begins.durable);
      file_lines = whole.file_lines;
      file_values = file_values_of h.files begins.files;
    }
