-- Whether lines fit a question, by what is kept of them.
use Rattle.std.proofs.Common.{◌≡◌, ◌==◌, ◌&&◌, ◌||◌, ◌+◌, ◌*◌, ℕ, Bool, true, false, List, ◌∷◌, Some, sym, ap, ◌∙◌}
use Rattle.std.specs.List.{list_any}
use Rattle.nvm_model.specs.Cell.{Cell}
use Rattle.nvm_model.specs.Cell.Cell.{Bad, Kept}
use Rattle.nvm_model.specs.Page.{is_bad_cell}
use Rattle.asked_reads.specs.Outcomes.Pages.{PageRead, all_agree, all_allow_bad, all_allow_good, words_fit}
use Rattle.line_histories.specs.declared.log.Stored.{Stored}
use Rattle.line_histories.specs.Held.{HasHistory}
use Rattle.line_histories.specs.Log.{history_in}
use Rattle.line_histories.proofs.LogLemmas.{any-history_in}
use Rattle.asked_reads.specs.Fitting.{WordFits, WordsFit, cell_fits}

-- a word fits by its durable value, or by one of the log
pub word_fits_by : (reads : List PageRead) (n w durable : ℕ) (log : List Stored) (cell : Cell) (fits : Bool) → HasHistory cell w (durable ∷ history_in log w)
    → fits ≡ (all_agree reads (8 * n + w) durable || list_any (λ (stored : Stored). (stored.word == w) && all_agree reads (8 * n + w) stored.value) log)
    → WordFits reads n w cell fits
word_fits_by reads n w durable log Bad fits has is = tt
word_fits_by reads n w durable log (Kept weak words) fits has is =
    let agree = all_agree reads (8 * n + w) in
    is ∙ ap (λ b. agree durable || b) (sym (any-history_in agree log w)) ∙ sym (ap (list_any agree) has)

-- a bad line fits where all reads allow that, and a good one where they allow that and its words fit
pub bad_fits : (reads : List PageRead) (n : ℕ) (cell : Cell) (bad fits : Bool) → bad ≡ is_bad_cell (Some cell) → bad ≡ true → fits ≡ all_allow_bad reads n → fits ≡ cell_fits reads n cell
bad_fits reads n Bad bad fits is so by = by
bad_fits reads n (Kept weak words) bad fits is so by = absurd (wrong (sym is ∙ so))
  where
    wrong : false ≡ true → ⊥
    wrong e = cc

pub good_fits : (reads : List PageRead) (n : ℕ) (cell : Cell) (bad fits : Bool) → bad ≡ is_bad_cell (Some cell) → bad ≡ false → all_allow_good reads n ≡ true → WordsFit reads n cell fits → fits ≡ cell_fits reads n cell
good_fits reads n Bad bad fits is so by words = absurd (wrong (sym is ∙ so))
  where
    wrong : true ≡ false → ⊥
    wrong e = cc
good_fits reads n (Kept weak words) bad fits is so by all = all ∙ sym (ap (λ b. b && words_fit reads n words) by)

pub no_good_fits : (reads : List PageRead) (n : ℕ) (cell : Cell) (bad : Bool) → bad ≡ is_bad_cell (Some cell) → bad ≡ false → all_allow_good reads n ≡ false → false ≡ cell_fits reads n cell
no_good_fits reads n Bad bad is so by = absurd (wrong (sym is ∙ so))
  where
    wrong : true ≡ false → ⊥
    wrong e = cc
no_good_fits reads n (Kept weak words) bad is so by = sym (ap (λ b. b && words_fit reads n words) by)
