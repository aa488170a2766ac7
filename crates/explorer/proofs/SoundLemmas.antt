-- The state in which an exploration begins is sound, and so is each place of a cut in the program.
use Rattle.std.proofs.Common.{◌≡◌, inl, inr, ℕ, zero, suc, ◌≤◌, Bool, true, false, cond, Some, List, [], ◌∷◌, length, slice_get, sym, ap, subst, ◌∙◌, arith}
use Rattle.std.specs.Prelude.{All}
use Rattle.std.proofs.lemmas.List.Elements.{All-head, All-tail}
use Rattle.line_device.specs.Word.{word_at}
use Rattle.nvm_model.specs.Cell.{Cell}
use Rattle.nvm_model.specs.Cell.Cell.{Bad, Kept}
use Rattle.nvm_model.specs.Numbered.{list_from}
use Rattle.nvm_model.specs.Page.{Page, cell_of}
use Rattle.nvm_model.specs.Storage.{File}
use Rattle.cut_places.specs.MachineModel.Machine.{Machine}
use Rattle.cut_places.specs.Durable.Durable.{IsCounted}
use Rattle.cut_places.specs.Outcomes.Finds.{armed}
use Rattle.cut_places.specs.Outcomes.Outcome.{AllHaveValues, HaveValues, HasValues}
use Rattle.cut_places.specs.Places.{Stop, first_stop}
use Rattle.value_tables.specs.Listed.{IsSound}
use Rattle.value_tables.proofs.FileValueLemmas.{seen_has}
use Rattle.explorer.specs.Starting.{AreDurable, AreOfBytes, Begins, HaveDurable}

-- words of one value each
ones : (f : ℕ → ℕ) (n count w : ℕ) (history : List ℕ) → slice_get (list_from (λ k. f k ∷ []) n count) w ≡ Some history → 1 ≤ length history
ones f n zero w history is = cc is
ones f n (suc count) zero history is =
    let same : f n ∷ [] ≡ history = cc is in subst (λ h. 1 ≤ length h) same (omega arith)
ones f n (suc count) (suc w) history is = ones f (suc n) count w history is

durable_has : (pages : List Page) → AreDurable pages → HaveValues pages
durable_has pages durable n cell is = by_cell cell is
  where
    by_cell : (c : Cell) → cell_of pages n ≡ Some c → HasValues c
    by_cell Bad is = tt
    by_cell (Kept weak words) is = λ w history there.
        let of : AreOfBytes words = durable n weak words is in
        ones (λ k. word_at of.bytes k) 0 8 w history (sym (ap (λ ws. slice_get ws w) of.are) ∙ there)

all_durable_have : (files : List File) → HaveDurable files → AllHaveValues files
all_durable_have [] durable = tt
all_durable_have (file ∷ files) durable = (durable_has file.pages durable.0, all_durable_have files durable.1)

counted : (h : Machine) → Begins h → IsCounted h
counted h begins = elim (begins.ready.whole.counted) as (λ _. IsCounted h) [ inl is ↦ is | inr nothing ↦ absurd (nothing.mode begins.ready.mode) ]

pub begins_sound : (h : Machine) → Begins h → IsSound (armed h)
begins_sound h begins =
    let whole = begins.ready.whole in
    let all = counted h begins in
    record {
      counted = record { blocks = all.blocks; pages = all.pages };
      lines = whole.lines;
      words = λ n lt. seen_has h.volume n whole.lines (durable_has h.volume begins.durable);
      file_lines = whole.file_lines;
      file_values = all_durable_have h.files begins.files;
    }

-- the first of some places is such as all of them are
pub first_is : (P : Machine → Type 0) (test : Machine → Bool) (stops : List Stop) (stop : Stop) → All (λ (s : Stop). P s.state) stops → first_stop test stops ≡ Some stop → P stop.state
first_is P test [] stop all is = cc is
first_is P test (s ∷ stops) stop all is = by_test (test s.state) is (first_is P test stops stop (All-tail (λ (t : Stop). P t.state) s stops all))
  where
    by_test : (b : Bool) → cond b (Some s) (first_stop test stops) ≡ Some stop → (first_stop test stops ≡ Some stop → P stop.state) → P stop.state
    by_test true found rest = let same : s ≡ stop = cc found in subst (λ (t : Stop). P t.state) same (All-head (λ (t : Stop). P t.state) s stops all)
    by_test false found rest = rest found
